-- The ends at a vertex, row by row. Definitions only.
use Rattle.std.specs.Prelude.{ℕ, ◌+◌, ◌*◌, ◌-◌, ◌≤◌, ◌<◌, ◌≡◌, Bool, false, ◌&&◌, cond, List, eqb, length, get_or}
use Rattle.complex.specs.Uses.{groups}
use Rattle.complex.specs.Unglue.{copy_of}
use Rattle.complex.specs.Sound.{ids_end, cells_most}

-- ---- the ends at a vertex v, row by row
abbrev pub end_mark : ℕ → ℕ → ℕ → Bool
end_mark k a v = eqb k 1 && eqb a v

-- the places of the first j rows say which ends are at v, the others nothing
pub record EndMarks (kinds starts ends : List ℕ) (v j : ℕ) (at : List Bool) : Type 0 where
  pub start : (i : ℕ) → i < j → get_or at (i * 2) false ≡ end_mark (get_or kinds i 0) (get_or starts i 0) v
  pub end : (i : ℕ) → i < j → get_or at (i * 2 + 1) false ≡ end_mark (get_or kinds i 0) (get_or ends i 0) v
  pub rest : (p : ℕ) → j * 2 ≤ p → get_or at p false ≡ false

-- an end a, or the copy of v that its group says
abbrev pub end_after : Bool → ℕ → ℕ → ℕ → ℕ → ℕ
end_after mark g a v next = cond mark (copy_of v next (g - 1)) a

-- the first j rows have new ends
pub record NewEnds (side : ℕ) (at : List Bool) (groups : List ℕ) (v next j : ℕ) (old new : List ℕ) : Type 0 where
  pub size : length new ≡ length old
  pub changed : (i : ℕ) → i < j → get_or new i 0 ≡ end_after (get_or at (i * 2 + side) false) (get_or groups (i * 2 + side) 0) (get_or old i 0) v next
  pub rest : (i : ℕ) → j ≤ i → get_or new i 0 ≡ get_or old i 0

-- n rows of ends, a mark and a group for each
pub record EndRows (side : ℕ) (at : List Bool) (groups : List ℕ) (n next : ℕ) (ends : List ℕ) : Type 0 where
  pub one_side : side ≤ 1
  pub marks : n * 2 ≤ length at
  pub numbers : n * 2 ≤ length groups
  pub small : (p : ℕ) → get_or groups p 0 ≤ 512
  pub rows : n ≤ length ends
  pub few : n ≤ cells_most
  pub ids : next ≤ ids_end
