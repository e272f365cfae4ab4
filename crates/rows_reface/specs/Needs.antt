-- What a face needs to get other cycles while two cells go. Definitions only.
use Rattle.std.specs.Prelude.{ℕ, ◌≡◌, true, List, []}
use Rattle.complex.specs.Cells.{face, cell_at, is_face}
use Rattle.complex.specs.Edits.{neither, replaced, rebuild}
use Rattle.store.specs.declared.Drawing.{Drawing}
use Rattle.store.specs.View.{sheet_of}
use Rattle.rows_spans.specs.declared.Used.{Used}
use Rattle.rows_spans.specs.Building.{Building, built}
use Rattle.rows_gone.specs.Rows.{Pair}
use Rattle.rows_corners.specs.Faces.{Roomy}

-- the cells i and j, in rows a and b, go; the face f stays, and there is room for the cycles of a list
pub record Refaced (d : Drawing) (i a j b f : ℕ) (counts : List ℕ) (u : Used) (steps : List ℕ) : Type 0 where
  pub pair : Pair d i a j b
  pub building : Building counts u steps
  pub stays : neither i j f ≡ true
  pub room : Roomy (rebuild (neither i j) (replaced f (face (built counts u steps))) [] (sheet_of d))
  pub face : is_face (cell_at (sheet_of d) f) ≡ true
