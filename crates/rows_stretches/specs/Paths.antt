-- What is left of the cycles of an edge that goes, in the arrays. Definitions only.
use Rattle.std.specs.Prelude.{ℕ, suc, ◌+◌, ◌-◌, ◌<◌, ◌≤◌, ◌≡◌, List, ◌++◌, map, length, take, drop, get_or, set}
use Rattle.complex.specs.Lists.{total, one, without, distance}
use Rattle.complex.specs.Cells.{Halfedge, Cycle}
use Rattle.complex.specs.Edits.{cycle_replaced, without_cycle}
use Rattle.complex.specs.Sound.{cycles_most, steps_most, step_count}
use Rattle.complex.specs.Cut.{stretch}
use Rattle.complex.specs.Uncut.{path_or}
use Rattle.store.specs.View.{halfedge_of, width_sum}
use Rattle.rows_spans.specs.declared.Used.{Used}
use Rattle.rows_spans.specs.Building.{Building, built, RoomFor}
use Rattle.rows_corners.specs.Faces.{Within, cycles_at}
use Rattle.rows_corners.specs.Arcs.{arc_of}
use Rattle.rows_stretches.specs.declared.Stretch.{Stretch}
use Rattle.rows_stretches.specs.declared.Place.{Place}

-- the cycles are few enough for the arrays of a drawing
pub record Few (ks : List Cycle) : Type 0 where
  pub cycles : length ks ≤ cycles_most
  pub steps : total step_count ks ≤ steps_most

-- ---- stretches of a cycle
abbrev pub stretch_of : List ℕ → Stretch → List Halfedge
stretch_of steps a = map halfedge_of (arc_of steps a.at a.count a.from a.len)

-- one and then another, or if both are empty the vertex v alone
abbrev pub path_of : List ℕ → Stretch → Stretch → ℕ → Cycle
path_of steps a b v = path_or v (stretch_of steps a ++ stretch_of steps b)

pub record InCycle (a : Stretch) : Type 0 where
  pub cycle : a.at + a.count ≤ 2048
  pub start : a.from ≤ a.count
  pub least : a.len ≤ a.count

-- a list has room for a cycle more, of two stretches or of v alone
pub record PathRoom (steps : List ℕ) (a b : Stretch) (v : ℕ) (counts : List ℕ) (u : Used) (out : List ℕ) : Type 0 where
  pub building : Building counts u out
  pub steps_size : length steps ≡ 2048
  pub first : InCycle a
  pub second : InCycle b
  pub room : RoomFor (length counts) (length out) (built counts u out ++ one (path_of steps a b v))

-- ---- one cycle of a face
-- the cycles of the face, and the steps of the one
abbrev pub list_at : List ℕ → List ℕ → Place → List Cycle
list_at cycles steps p = cycles_at cycles steps p.spans

abbrev pub steps_at : List ℕ → Place → List Halfedge
steps_at steps p = map halfedge_of (take p.count (drop p.at steps))

-- the others of the face, and the face with two stretches or v alone in its place
abbrev pub others_at : List ℕ → List ℕ → Place → List Cycle
others_at cycles steps p = without (one p.cycle) 0 (list_at cycles steps p)

abbrev pub put_at : List ℕ → List ℕ → Place → Stretch → Stretch → ℕ → List Cycle
put_at cycles steps p a b v = set (list_at cycles steps p) p.cycle (path_of steps a b v)

-- its steps after s, round to before it, and those after s up to t
abbrev pub all_but : Place → ℕ → Stretch
all_but p s = record { at = p.at; count = p.count; from = s + 1; len = p.count - 1 }

abbrev pub between : Place → ℕ → ℕ → Stretch
between p s t = record { at = p.at; count = p.count; from = s + 1; len = distance p.count (s + 1) t }

-- none of them
abbrev pub no_steps : Place → Stretch
no_steps p = record { at = p.at; count = p.count; from = 0; len = 0 }

-- the cycle stands there, and has steps
pub record Lies (cycles steps : List ℕ) (p : Place) : Type 0 where
  pub within : Within cycles steps p.spans
  pub cycle : p.cycle < p.spans.cycles.count
  pub number : get_or cycles (p.spans.cycles.first + p.cycle) 0 ≡ p.count
  pub place : p.spans.steps.first + width_sum (take p.cycle (drop p.spans.cycles.first cycles)) ≡ p.at
  pub some : 1 ≤ p.count

-- a list has room for the others of the face
pub record Besides (cycles steps : List ℕ) (p : Place) (counts : List ℕ) (u : Used) (out : List ℕ) : Type 0 where
  pub lies : Lies cycles steps p
  pub building : Building counts u out
  pub room : RoomFor (length counts) (length out) (built counts u out ++ others_at cycles steps p)

-- ---- the cycles of the face that stays
-- what follows the step n, round to before it
abbrev pub following_in : ℕ → List Halfedge → List Halfedge
following_in n hs = drop (suc n) hs ++ take n hs

-- two faces become one along the step s of p and the step t of q
abbrev pub merged_list : List ℕ → List ℕ → Place → ℕ → Place → ℕ → ℕ → List Cycle
merged_list cycles steps p s q t v =
    cycle_replaced p.cycle (path_or v (following_in s (steps_at steps p) ++ following_in t (steps_at steps q))) (list_at cycles steps p)
    ++ without_cycle q.cycle (list_at cycles steps q)

pub record Merging (cycles steps : List ℕ) (p : Place) (s : ℕ) (q : Place) (t v : ℕ) : Type 0 where
  pub first : Lies cycles steps p
  pub second : Lies cycles steps q
  pub here : s < p.count
  pub there : t < q.count
  pub room : Few (merged_list cycles steps p s q t v)

-- a cycle becomes two, from its step s up to t and from t up to s
abbrev pub parted_list : List ℕ → List ℕ → Place → ℕ → ℕ → ℕ → ℕ → List Cycle
parted_list cycles steps p s t v w =
    cycle_replaced p.cycle (path_or v (stretch (suc s) t (steps_at steps p))) (list_at cycles steps p)
    ++ one (path_or w (stretch (suc t) s (steps_at steps p)))

pub record Parting (cycles steps : List ℕ) (p : Place) (s t v w : ℕ) : Type 0 where
  pub first : Lies cycles steps p
  pub here : s < p.count
  pub there : t < p.count
  pub room : Few (parted_list cycles steps p s t v w)

-- two faces become one without a cycle of each
abbrev pub ringed_list : List ℕ → List ℕ → Place → Place → List Cycle
ringed_list cycles steps p q = without_cycle p.cycle (list_at cycles steps p) ++ without_cycle q.cycle (list_at cycles steps q)

pub record Ringing (cycles steps : List ℕ) (p q : Place) : Type 0 where
  pub first : Lies cycles steps p
  pub second : Lies cycles steps q
  pub room : Few (ringed_list cycles steps p q)
