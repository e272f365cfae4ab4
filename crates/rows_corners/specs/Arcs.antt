-- Arcs of a cycle, its corners, and another cycle in its place, in the arrays. Definitions only.
use Rattle.std.specs.Prelude.{ℕ, ◌+◌, ◌/◌, ◌%◌, ◌≤◌, ◌<◌, ◌≡◌, Bool, cond, ◌&&◌, List, ◌++◌, eqb, ltb, length, take, drop, get_or}
use Rattle.complex.specs.Lists.{rotated}
use Rattle.store.specs.declared.Index.{Index}
use Rattle.store.specs.Index.{value_at}
use Rattle.store.specs.View.{width_sum}
use Rattle.store.specs.Edits.{kept}
use Rattle.rows_spans.specs.declared.Used.{Used}
use Rattle.rows_spans.specs.Building.{Building}

-- len of the n steps at a place, from one of them on and round the end
abbrev pub arc_of : List ℕ → ℕ → ℕ → ℕ → ℕ → List ℕ
arc_of steps base n from len = take len (rotated from (take n (drop base steps)))

-- the arc is one of a cycle in an array, and there is room for it in another
pub record Arc (steps : List ℕ) (base n from len : ℕ) (out : List ℕ) (at : ℕ) : Type 0 where
  pub steps_size : length steps ≡ 2048
  pub cycle : base + n ≤ 2048
  pub start : from ≤ n
  pub least : len ≤ n
  pub room : at + len ≤ length out

-- out has xs at a place, after what out₀ had there
pub record Pasted (out₀ : List ℕ) (at : ℕ) (xs out : List ℕ) : Type 0 where
  pub size : length out ≡ length out₀
  pub front : take (at + length xs) out ≡ take at out₀ ++ xs

-- and there is room for one step and for a cycle more
pub record ArcRoom (steps : List ℕ) (base n from len : ℕ) (counts : List ℕ) (u : Used) (out : List ℕ) : Type 0 where
  pub building : Building counts u out
  pub steps_size : length steps ≡ 2048
  pub cycle : base + n ≤ 2048
  pub start : from ≤ n
  pub least : len ≤ n
  pub cycle_room : u.cycles < length counts
  pub step_room : u.steps + len < length out

-- a list of cycles has room for those of k others that are not skipped
pub record CopyRoom (cycles steps : List ℕ) (from k step : ℕ) (skip : List Bool) (counts : List ℕ) (u : Used) (out : List ℕ) : Type 0 where
  pub building : Building counts u out
  pub cycles_size : length cycles ≡ 512
  pub steps_size : length steps ≡ 2048
  pub in_cycles : from + k ≤ 512
  pub in_steps : step + width_sum (take k (drop from cycles)) ≤ 2048
  pub flags : k ≤ length skip
  pub cycle_room : u.cycles + length (kept (take k skip) (take k (drop from cycles))) ≤ length counts
  pub step_room : u.steps + width_sum (kept (take k skip) (take k (drop from cycles))) ≤ length out

-- whether a cycle of m steps at a place has the corner s, by the rows of an index
abbrev pub corner_in : Index → ℕ → ℕ → List ℕ → ℕ → ℕ → Bool
corner_in ix n m steps at s =
    cond (eqb m 0) (eqb s 0)
    (ltb s m && eqb (value_at 4 (take n ix.ids) (take n ix.kinds) (get_or steps (at + s) 0 / 2)) 1)

-- the vertex of that corner
abbrev pub corner_vertex : Index → ℕ → ℕ → List ℕ → ℕ → ℕ → ℕ
corner_vertex ix n m steps at s =
    let h = get_or steps (at + s) 0 in
    cond (eqb m 0) (get_or steps at 0)
    (cond (eqb (h % 2) 1)
    (value_at 0 (take n ix.ids) (take n ix.ends) (h / 2))
    (value_at 0 (take n ix.ids) (take n ix.starts) (h / 2)))
