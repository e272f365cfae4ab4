-- The empty drawing. Definitions only.
use Rattle.std.specs.Prelude.{◌≡◌, T}
use Rattle.complex.specs.Cells.{empty}
use Rattle.store.specs.declared.Drawing.{Drawing}
use Rattle.store.specs.View.{sheet_of}
use Rattle.sound.specs.Soundness.{sound_drawing}

pub record Empty (d : Drawing) : Type 0 where
  pub sheet : sheet_of d ≡ empty
  pub sound : T (sound_drawing d)
