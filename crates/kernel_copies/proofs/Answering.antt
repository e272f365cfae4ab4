-- The answer of a command that issues ids and keeps all cells, and of one that is refused. Assumes nothing.
use Prim.Native.Nat.{ℕ, ◌+◌, ◌≤◌}
use mathlib.Core.Path.{◌≡◌, refl, ap, ◌∙◌}
use mathlib.Core.Bool.{true}
use Rattle.complex.specs.Decode.{Command}
use Rattle.answer.specs.declared.Answer.{Answer}
use Rattle.answer.specs.declared.Totals.{Totals}
use Rattle.answer.specs.Answers.{refusal, outcome, Answers}
use Rattle.lent.specs.Arrays.{Arrays, held_by, normal}
use Rattle.lent.specs.declared.Line.{Line}
use Rattle.lent.specs.Replies.{line_of, answer_by, Ready, Obeyed}
use Rattle.lent.proofs.Sums.{ready_rows}
use Rattle.kernel_copies.proofs.Coming.{more_outcome}

-- a no
pub obeyed_refused : (a : Arrays) (t : Totals) → Ready a t → (c : Command) (n : ℕ) (l : Line) → l ≡ line_of n
    → ((q : Answer) → q ≡ refusal (held_by a) n → Answers (held_by a) c q) → Obeyed a c a l
obeyed_refused a t r c n l e f =
    record { answers = f (answer_by l (held_by a)) (ap (λ (k : Line). answer_by k (held_by a)) e); back = λ g. refl; rows = ready_rows a t r }

-- k ids are issued, and as many cells come
pub obeyed_more : (a : Arrays) (c : Command) (b : Arrays) (k : ℕ) → 1 ≤ k → b.next ≡ a.next + k → b.count ≡ a.count + k → normal b ≡ true
    → ((q : Answer) → q ≡ outcome a.next a.count (held_by b) → Answers (held_by a) c q)
    → (l : Line) → l ≡ record { number = 0; first = a.next; new = k; removed = 0 } → Obeyed a c b l
obeyed_more a c b k h ex ec n f l e =
    record {
      answers = f (answer_by l (held_by b)) (ap (λ (q : Line). answer_by q (held_by b)) e ∙ more_outcome a.next a.count k (held_by b) h ex ec);
      back = λ g. absurd (g (ap (λ (q : Line). q.number) e));
      rows = n;
    }
