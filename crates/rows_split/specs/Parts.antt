-- 0C: where a cycle stands in the arrays, and the cycles that come in its place. Definitions only.
use Rattle.std.specs.Prelude.{ℕ, ◌+◌, ◌≤◌, ◌<◌, ◌≡◌, true, false, List, ◌∷◌, ◌++◌, eqb, length, take, drop, get_or}
use Rattle.number.specs.Numbers.{read_number}
use Rattle.complex.specs.Lists.{total, one, rotated, holds, places}
use Rattle.complex.specs.Cells.{Cycle, path, along, against, steps_of}
use Rattle.complex.specs.Sound.{ids_end, step_count}
use Rattle.complex.specs.Cut.{stretch, remainder}
use Rattle.store.specs.View.{width, width_sum, cycle_of}
use Rattle.rows_spans.specs.declared.Spans.{Spans}
use Rattle.decode_parts.specs.Lists.{Stand, numbers_read}
use Rattle.rows_corners.specs.Faces.{Within}
use Rattle.rows_split.specs.declared.Place.{Place}

-- the place of cycle c of the spans
abbrev pub place_of : List ℕ → Spans → ℕ → Place
place_of cycles t c =
    record { m = get_or cycles (t.cycles.first + c) 0; at = t.steps.first + width_sum (take c (drop t.cycles.first cycles)) }

-- the cycle at a place
abbrev pub cycle_at : List ℕ → Place → Cycle
cycle_at steps p = cycle_of p.m (drop p.at steps)

-- P e⁻
abbrev pub near_cycle : ℕ → ℕ → ℕ → Cycle → Cycle
near_cycle e s1 s2 k = path (stretch s1 s2 (steps_of k) ++ one (against e))

-- Q e
abbrev pub far_cycle : ℕ → ℕ → ℕ → Cycle → Cycle
far_cycle e s1 s2 k = path (remainder s1 s2 (steps_of k) ++ one (along e))

-- one cycle from s1, e, the other from s2, e⁻
abbrev pub bridge_cycle : ℕ → ℕ → Cycle → ℕ → Cycle → Cycle
bridge_cycle e s1 k1 s2 k2 = path (rotated s1 (steps_of k1) ++ (along e ∷ rotated s2 (steps_of k2) ++ one (against e)))

-- p is the place of cycle c of the spans, which has the corner s
pub record Cornered (cycles steps : List ℕ) (t : Spans) (c : ℕ) (p : Place) (s : ℕ) : Type 0 where
  pub within : Within cycles steps t
  pub cycle : c < t.cycles.count
  pub place : p ≡ place_of cycles t c
  pub corner : s < width p.m

-- arrays of n counts and m steps have room for the cycles ks, and after them for ls
pub record RoomForBoth (n m : ℕ) (ks ls : List Cycle) : Type 0 where
  pub few_counts : n ≤ 512
  pub few_steps : m ≤ 2048
  pub cycles : length ks + length ls ≤ n
  pub steps : total step_count ks + total step_count ls ≤ m

-- two corners of one cycle of the spans; the moved cycles lie in the script
pub record SplitParting (cycles steps : List ℕ) (t : Spans) (script : List ℕ) (moved place c : ℕ) (p : Place) (s1 s2 e : ℕ) : Type 0 where
  pub start : Cornered cycles steps t c p s1
  pub end : Cornered cycles steps t c p s2
  pub stand : Stand read_number script place moved
  pub rise : places 0 (numbers_read script place moved) t.cycles.count ≡ true
  pub stays : holds c (numbers_read script place moved) ≡ false
  pub few : e ≤ ids_end

-- two places, each of a cycle with a corner
pub record Joining (steps : List ℕ) (p : Place) (s1 : ℕ) (q : Place) (s2 e : ℕ) : Type 0 where
  pub steps_size : length steps ≡ 2048
  pub start : p.at + width p.m ≤ 2048
  pub start_corner : s1 < width p.m
  pub end : q.at + width q.m ≤ 2048
  pub end_corner : s2 < width q.m
  pub few : e ≤ ids_end

-- the corners of two cycles
pub record Bridging (cycles steps : List ℕ) (t : Spans) (c1 : ℕ) (p : Place) (s1 c2 : ℕ) (q : Place) (s2 e : ℕ) : Type 0 where
  pub start : Cornered cycles steps t c1 p s1
  pub end : Cornered cycles steps t c2 q s2
  pub apart : eqb c1 c2 ≡ false
  pub few : e ≤ ids_end
