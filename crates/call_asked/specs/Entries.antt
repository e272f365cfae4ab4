-- What the calls on lent arrays give for any contents. Definitions only.
use Rattle.std.specs.Prelude.{Option, Some, None}
use Rattle.answer.specs.declared.Totals.{Totals}
use Rattle.std.specs.Prelude.{ℕ, ◌≡◌, false, cond, List, T, pos}
use Rattle.complex.specs.Cells.{empty}
use Rattle.complex.specs.Answer.{rest}
use Rattle.complex.specs.Calls.{Filled, unfilled, star_call, write_call, EulerAnswer, euler_call}
use Rattle.complex.specs.Pieces.{PiecesAnswer, pieces_call}
use Rattle.store.specs.View.{sheet_of}
use Rattle.lent.specs.Arrays.{Arrays, held_by, sound_arrays}
use Rattle.lent.specs.Replies.{Ready}

-- the empty drawing
pub record EmptyIn (a : Arrays) : Type 0 where
  pub sheet : sheet_of (held_by a) ≡ empty
  pub sound : T (sound_arrays a)

-- arrays with this next id and this number of cells, whatever else they hold
abbrev pub Begun : ℕ → ℕ → Type 0
Begun n k = (a : Arrays) → a.next ≡ n → a.count ≡ k → EmptyIn a

-- question 1: sound arrays with their sums, or arrays that are not sound
abbrev pub Asked : Arrays → Option Totals → Type 0
Asked a (Some t) = Ready a t
Asked a None = sound_arrays a ≡ false

-- the rest of the bytes; all of them where the arrays are not sound
abbrev pub rest_on : Arrays → List ℕ → List ℕ
rest_on a bytes = cond (sound_arrays a) (rest (sheet_of (held_by a)) bytes) bytes

-- star, Euler, pieces and write; 1 where the arrays are not sound
abbrev pub star_on : Arrays → ℕ → List ℕ → Filled
star_on a i buffer = cond (sound_arrays a) (star_call (sheet_of (held_by a)) i buffer) (unfilled 1 buffer)

abbrev pub euler_on : Arrays → EulerAnswer
euler_on a = cond (sound_arrays a) (euler_call (sheet_of (held_by a))) (record { number = 1; value = pos 0 })

abbrev pub pieces_on : Arrays → PiecesAnswer
pieces_on a = cond (sound_arrays a) (pieces_call (sheet_of (held_by a))) (record { number = 1; count = 0 })

abbrev pub write_on : Arrays → List ℕ → Filled
write_on a buffer = cond (sound_arrays a) (write_call (sheet_of (held_by a)) buffer) (unfilled 1 buffer)
