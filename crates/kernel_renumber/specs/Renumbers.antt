-- Cells renumbered in lent arrays. Definitions only.
use Rattle.std.specs.Prelude.{ℕ, suc, ◌+◌, ◌*◌, ◌/◌, ◌%◌, ◌<◌, ◌≡◌, Bool, true, cond, List, length, get_or}
use Rattle.complex.specs.Renumber.{renumbered}
use Rattle.store.specs.Index.{row_of}
use Rattle.store.specs.View.{sheet_of, Fits}
use Rattle.lent.specs.Arrays.{Arrays, held_by, normal, Lengths}

-- the new id of i, where is are the ids of the rows: one more than its row
abbrev pub new_id : List ℕ → ℕ → ℕ
new_id is i = suc (row_of i is)

-- a place of steps: a lone vertex is renamed, and so is a step's edge; its direction stays
abbrev pub new_place : (ℕ → ℕ) → Bool → ℕ → ℕ
new_place r m s = cond m (r s) (r (s / 2) * 2 + s % 2)

-- is are as many ids as is₀, and those of the first n rows are 1 to n
pub record RowsNumbered (n : ℕ) (is₀ is : List ℕ) : Type 0 where
  pub size : length is ≡ length is₀
  pub rows : (j : ℕ) → j < n → get_or is j 0 ≡ suc j

-- the arrays b hold what a hold, renumbered
pub record RenumberedIn (a b : Arrays) : Type 0 where
  pub sheet : sheet_of (held_by b) ≡ renumbered (sheet_of (held_by a))
  pub fits : Fits (held_by b)
  pub long : Lengths b
  pub rows : normal b ≡ true
