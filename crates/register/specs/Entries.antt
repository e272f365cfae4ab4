-- What the entries give for any struct. Definitions only.
use Rattle.std.specs.Prelude.{◌≡◌, ℕ, cond, T, List, ◌≢◌}
use Rattle.complex.specs.Answer.{Answer as Said, no, command, rest}
use Rattle.store.specs.declared.Drawing.{Drawing}
use Rattle.store.specs.View.{sheet_of}
use Rattle.sound.specs.Soundness.{sound_drawing}
use Rattle.answer.specs.declared.Answer.{Answer}
use Rattle.answer.specs.Answers.{said_by}

-- what a command answers; 1 where the struct is not sound
abbrev pub command_on : Drawing → List ℕ → Said
command_on d bytes = cond (sound_drawing d) (command (sheet_of d) bytes) (no 1 (sheet_of d))

-- the answer r to the bytes on d: what the definitions give; on a no the very struct; of a sound struct a sound one
pub record Commanded (d : Drawing) (bytes : List ℕ) (r : Answer) : Type 0 where
  pub said : said_by r ≡ command_on d bytes
  pub back : (r.number ≢ 0) → r.drawing ≡ d
  pub sound : T (sound_drawing d) → T (sound_drawing r.drawing)

-- the rest of the bytes; all of them where the struct is not sound
abbrev pub rest_of : Drawing → List ℕ → List ℕ
rest_of d bytes = cond (sound_drawing d) (rest (sheet_of d) bytes) bytes
