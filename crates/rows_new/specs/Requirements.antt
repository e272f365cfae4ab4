-- What each append asks beside room for its cell. Definitions only.
use Rattle.std.specs.Prelude.{ℕ, ◌+◌, ◌*◌, ◌<◌, ◌≤◌, ◌≡◌, false, List, length}
use Rattle.std.proofs.Math.Option.{some}
use Rattle.complex.specs.Cells.{Figure, is_face}
use Rattle.complex.specs.Sound.{ids_end, cells_most, bends_most}
use Rattle.store.specs.declared.Drawing.{Drawing}
use Rattle.store.specs.View.{sheet_of, Fits, bend_total}
use Rattle.store.specs.Places.{figure_bends}
use Rattle.rows_new.specs.declared.Runs.{Runs}
use Rattle.rows_new.specs.Runs.{InRange}
use Rattle.rows_new.specs.Appends.{CellRoom, figure_at}

-- the bends of x come in runs
pub record RunsRoom (d : Drawing) (r : Runs) (x : Figure) : Type 0 where
  pub room : CellRoom d x
  pub range : InRange r

-- the bends of x come from bytes
pub record BytesRoom (d : Drawing) (script : List ℕ) (first count : ℕ) (x : Figure) : Type 0 where
  pub room : CellRoom d x
  pub range : first + 16 * count ≤ length script

-- n copies of the cell in a row, which is no face
pub record CopiesRoom (d : Drawing) (k n : ℕ) : Type 0 where
  pub fits : Fits d
  pub row : k < d.count
  pub plain : is_face (some (figure_at (sheet_of d) k)) ≡ false
  pub cells : d.count + n ≤ cells_most
  pub ids : d.next + n ≤ ids_end
  pub bends : bend_total d + n * length (figure_bends (figure_at (sheet_of d) k)) ≤ bends_most
