-- Cells in rows. Definitions only.
use Rattle.std.specs.Prelude.{ℕ, ◌≡◌, true, List}
use Rattle.store.specs.declared.Cell.{Cell}
use Rattle.lent.specs.Arrays.{Arrays, held_by, normal_at}

-- the rows of a hold the cells l, each in normal form
pub record AllRows (l : List Cell) (a : Arrays) : Type 0 where
  pub cells : (held_by a).cells ≡ l
  pub rows : (j : ℕ) → normal_at a.kinds a.starts a.ends a.bends a.counts j ≡ true
