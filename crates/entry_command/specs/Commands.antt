-- What a command on lent arrays of any contents answers, and what it leaves in them. Definitions only.
use Rattle.std.specs.Prelude.{ℕ, ◌≡◌, cond, List, T}
use Rattle.complex.specs.Answer.{Answer as Said, no, command}
use Rattle.store.specs.View.{sheet_of}
use Rattle.answer.specs.Answers.{said_by}
use Rattle.lent.specs.Arrays.{Arrays, held_by, sound_arrays}
use Rattle.lent.specs.declared.Line.{Line}
use Rattle.lent.specs.Replies.{answer_by}

-- what a command answers; 1 where the arrays are not sound
abbrev pub command_in : Arrays → List ℕ → Said
command_in a bytes = cond (sound_arrays a) (command (sheet_of (held_by a)) bytes) (no 1 (sheet_of (held_by a)))

-- the line l and the arrays b answer the bytes on the arrays a: what the definitions give; on a no the very arrays; of sound arrays
-- sound ones
pub record CommandedIn (a : Arrays) (bytes : List ℕ) (b : Arrays) (l : Line) : Type 0 where
  pub said : said_by (answer_by l (held_by b)) ≡ command_in a bytes
  pub back : (l.number ≡ 0 → ⊥) → b ≡ a
  pub sound : T (sound_arrays a) → T (sound_arrays b)
