-- What a call of write answers. Definitions only.
use Rattle.std.specs.Prelude.{◌≡◌, cond, List, take, ℕ}
use Rattle.complex.specs.Calls.{Filled, unfilled, filled, write_call}
use Rattle.complex.specs.File.{file_of, read_file}
use Rattle.store.specs.declared.Drawing.{Drawing}
use Rattle.store.specs.View.{sheet_of}
use Rattle.sound.specs.Soundness.{sound_drawing}
use Rattle.file_write.specs.declared.Written.{Written}

-- an answer, with the buffer as it is left
abbrev pub write_answered : Written → List ℕ → Filled
write_answered w buffer = record { number = w.number; count = w.count; buffer = buffer }

-- the answer for a drawing that is sound
abbrev pub filled_with : Drawing → List ℕ → Filled
filled_with d buffer = filled (file_of (sheet_of d)) buffer

-- the answer for any drawing: 1 if it is not sound, or else what its sheet's call says
abbrev pub write_of : Drawing → List ℕ → Filled
write_of d buffer = cond (sound_drawing d) (write_call (sheet_of d) buffer) (unfilled 1 buffer)

-- where the number is 0, the first places of the buffer are read as the drawing
abbrev pub ReadBack : Drawing → List ℕ → Written → List ℕ → Type 0
ReadBack d l w m = write_answered w m ≡ write_of d l → w.number ≡ 0 → read_file (take w.count m) ≡ record { number = 0; sheet = sheet_of d }
