-- Arrays in normal form are sound where the drawing that they hold is. Assumes nothing.
use mathlib.Core.Path.{◌≡◌, ap, ◌∙◌}
use mathlib.Core.Bool.{Bool, true, ◌&&◌}
use Rattle.store.specs.declared.Drawing.{Drawing}
use Rattle.sound.specs.Soundness.{sound_drawing}
use Rattle.lent.specs.Arrays.{Arrays, held_by, normal, sound_arrays}

pub sound_held : (a : Arrays) → normal a ≡ true → sound_arrays a ≡ sound_drawing (held_by a)
sound_held a n = ap (λ (b : Bool). b && sound_drawing (held_by a)) n

-- arrays that a drawing was taken apart into
pub sound_apart : (a : Arrays) (d : Drawing) → normal a ≡ true → held_by a ≡ d → sound_arrays a ≡ sound_drawing d
sound_apart a d n e = sound_held a n ∙ ap sound_drawing e
