-- Cuts of a face in lent arrays. Definitions only.
use Rattle.std.specs.Prelude.{ℕ, List}
use Rattle.complex.specs.Cells.{Cycle, Figure}
use Rattle.store.specs.View.{sheet_of}
use Rattle.rows_new.specs.Appends.{RoomIn}
use Rattle.answer.specs.declared.Totals.{Totals}
use Rattle.rows_corners.specs.Faces.{Named, recycled}
use Rattle.lent.specs.Arrays.{Arrays, held_by, rows_by}
use Rattle.lent.specs.Replies.{Ready}

-- f is a face of sound arrays, and there is room for the cycles ks in the place of its own, and for new cells
pub record FaceCuts (a : Arrays) (t : Totals) (f : ℕ) (ks : List Cycle) (new : List Figure) : Type 0 where
  pub ready : Ready a t
  pub named : Named (held_by a) (rows_by a) f
  pub room : RoomIn (recycled (sheet_of (held_by a)) f ks) new
