-- The rows of cells that go. Definitions only.
use Rattle.std.specs.Prelude.{ℕ, ◌<◌, ◌≡◌, T}
use Rattle.complex.specs.Cells.{ids}
use Rattle.store.specs.declared.Drawing.{Drawing}
use Rattle.store.specs.Index.{row_of}
use Rattle.store.specs.View.{sheet_of}
use Rattle.sound.specs.Soundness.{sound_drawing}

-- the rows of two cells of a sound drawing
pub record Pair (d : Drawing) (i a j b : ℕ) : Type 0 where
  pub sound : T (sound_drawing d)
  pub first : a ≡ row_of i (ids (sheet_of d).cells)
  pub first_in : a < d.count
  pub second : b ≡ row_of j (ids (sheet_of d).cells)
  pub second_in : b < d.count
