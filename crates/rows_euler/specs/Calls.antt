-- The answers of Euler to a drawing in memory. Definitions only.
use Rattle.std.specs.Prelude.{cond, pos}
use Rattle.complex.specs.Calls.{EulerAnswer, euler_call}
use Rattle.store.specs.declared.Drawing.{Drawing}
use Rattle.store.specs.View.{sheet_of}
use Rattle.sound.specs.Soundness.{sound_drawing}
use Rattle.rows_euler.specs.declared.EulerNumber.{EulerNumber}

abbrev pub euler_answered : EulerNumber → EulerAnswer
euler_answered r = record { number = r.number; value = r.value }

unfoldable pub euler_of : Drawing → EulerAnswer
euler_of d = cond (sound_drawing d) (euler_call (sheet_of d)) (record { number = 1; value = pos 0 })
