-- A face that comes with the cycles of a list, in lent arrays. Definitions only.
use Rattle.std.specs.Prelude.{ℕ, ◌≡◌, true, List}
use Rattle.complex.specs.Cells.{Sheet, face}
use Rattle.store.specs.View.{cycle_total, step_total}
use Rattle.rows_spans.specs.declared.Used.{Used}
use Rattle.rows_spans.specs.Building.{Building, built}
use Rattle.rows_new.specs.Appends.{CellRoom}
use Rattle.lent.specs.Arrays.{Arrays, held_by, normal, Lengths}
use Rattle.lent.specs.Replies.{Holds}

-- the arrays hold the sheet s, whose cycles are c and whose steps are p
pub record HoldsIn (s : Sheet) (c p : ℕ) (b : Arrays) : Type 0 where
  pub holds : Holds s b
  pub cycles : cycle_total (held_by b) ≡ c
  pub steps : step_total (held_by b) ≡ p

-- a face may come, with the cycles of a list; c cycles and p steps are in use
pub record PartRoom (b : Arrays) (c p : ℕ) (numbers : List ℕ) (u : Used) (places : List ℕ) : Type 0 where
  pub long : Lengths b
  pub rows : normal b ≡ true
  pub cycles : c ≡ cycle_total (held_by b)
  pub steps : p ≡ step_total (held_by b)
  pub building : Building numbers u places
  pub room : CellRoom (held_by b) (face (built numbers u places))
