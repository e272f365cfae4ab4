-- 0E on lent arrays: a no to questions 4 and 6. Assumes nothing.
use Prim.Native.Nat.{ℕ}
use mathlib.Core.Path.{◌≡◌}
use Rattle.number.specs.Said.{no}
use Rattle.complex.specs.Decode.{uncut}
use Rattle.store.specs.View.{sheet_of}
use Rattle.answer.specs.declared.Totals.{Totals}
use Rattle.law_uncut.proofs.Passing.{uncut_no_4, uncut_no_6}
use Rattle.ask_uncut.specs.Decided.{uncut_asked}
use Rattle.ask_uncut.proofs.Cases.{asked_no}
use Rattle.lent.specs.Arrays.{Arrays, held_by}
use Rattle.lent.specs.declared.Line.{Line}
use Rattle.lent.specs.Replies.{line_of, Ready, Obeyed}
use Rattle.lent.proofs.Sums.{ready_no}

module _ (a : Arrays) (t : Totals) (y : Ready a t) (i : ℕ) where
  pub obeyed_no : (n : ℕ) → no n ≡ uncut_asked (sheet_of (held_by a)) i → (l : Line) → l ≡ line_of n → Obeyed a (uncut i) a l
  obeyed_no n e =
      let s = sheet_of (held_by a) in
      asked_no s i (λ m. (l : Line) → l ≡ line_of m → Obeyed a (uncut i) a l) n e
      (λ v w l q. ready_no a t y (uncut i) 6 l q (uncut_no_6 s i v w)) (λ v l q. ready_no a t y (uncut i) 4 l q (uncut_no_4 s i v))
