-- What a command on lent arrays answers, and what it leaves in them. Definitions only.
use Rattle.std.specs.Prelude.{ℕ, ◌≡◌, true, cond, T, Result, Ok, Err}
use Rattle.complex.specs.Cells.{Sheet}
use Rattle.complex.specs.Decode.{Command, Order, edit, renumber}
use Rattle.complex.specs.Renumber.{renumbered}
use Rattle.complex.specs.Answer.{Answer as Said, no, ordered}
use Rattle.store.specs.View.{sheet_of, Fits}
use Rattle.store.specs.declared.Drawing.{Drawing}
use Rattle.answer.specs.declared.Answer.{Answer}
use Rattle.answer.specs.declared.Question.{Question}
use Rattle.answer.specs.Questions.{number_of}
use Rattle.answer.specs.declared.Totals.{Totals}
use Rattle.answer.specs.Answers.{said_by, Answers}
use Rattle.lent.specs.Arrays.{Arrays, held_by, normal, sound_arrays, totals_of, Lengths}
use Rattle.lent.specs.declared.Change.{Change}
use Rattle.lent.specs.declared.Line.{Line}

-- the line of a command that issues nothing
abbrev pub line_of : ℕ → Line
line_of n = record { number = n; first = 0; new = 0; removed = 0 }

-- the line of what a command did, or of the first no
abbrev pub line_says : Result Change Question → Line
line_says (Ok c) = record { number = 0; first = c.first; new = c.new; removed = c.removed }
line_says (Err q) = line_of (number_of q)

-- the answer that a line and the drawing after it give
abbrev pub answer_by : Line → Drawing → Answer
answer_by l d = record { number = l.number; first = l.first; new = l.new; removed = l.removed; drawing = d }

-- what an order answers on arrays; 1 where they are not sound
abbrev pub reply_on : Arrays → Order → Said
reply_on a o = cond (sound_arrays a) (ordered (sheet_of (held_by a)) o) (no 1 (sheet_of (held_by a)))

-- the line l and the arrays b answer the order o on the arrays a: what the definitions give; on a no nothing is changed;
-- of sound arrays sound ones
pub record Replied (a : Arrays) (o : Order) (b : Arrays) (l : Line) : Type 0 where
  pub said : said_by (answer_by l (held_by b)) ≡ reply_on a o
  pub back : (l.number ≡ 0 → ⊥) → b ≡ a
  pub sound : T (sound_arrays a) → T (sound_arrays b)

-- sound arrays, and their sums
pub record Ready (a : Arrays) (t : Totals) : Type 0 where
  pub sound : T (sound_arrays a)
  pub long : Lengths a
  pub sums : t ≡ totals_of a

-- the answer of a kind's own function, on sound arrays
pub record Obeyed (a : Arrays) (c : Command) (b : Arrays) (l : Line) : Type 0 where
  pub answers : Answers (held_by a) c (answer_by l (held_by b))
  pub back : (l.number ≡ 0 → ⊥) → b ≡ a
  pub rows : normal b ≡ true

-- the answer of a renumbering, on sound arrays
pub record Renewed (a b : Arrays) (l : Line) : Type 0 where
  pub line : l ≡ line_of 0
  pub sheet : sheet_of (held_by b) ≡ renumbered (sheet_of (held_by a))
  pub fits : Fits (held_by b)
  pub rows : normal b ≡ true

-- the answer of either sort of order, on sound arrays
abbrev pub Carried : Arrays → Order → Arrays → Line → Type 0
Carried a (edit c) b l = Obeyed a c b l
Carried a renumber b l = Renewed a b l

-- the arrays hold the sheet s
pub record Holds (s : Sheet) (b : Arrays) : Type 0 where
  pub sheet : sheet_of (held_by b) ≡ s
  pub fits : Fits (held_by b)
  pub long : Lengths b
  pub rows : normal b ≡ true
