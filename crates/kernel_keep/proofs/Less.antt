-- The answer of a command that takes cells away and issues no id. Assumes nothing.
use Prim.Native.Nat.{ℕ, ◌+◌, ◌-◌}
use native.Mathlib.Omega.{arith}
use mathlib.Core.Path.{◌≡◌, ap, ◌∙◌}
use mathlib.Core.Bool.{true, cond}
use lib.Dec.{eqb}
use Rattle.complex.specs.Decode.{Command}
use Rattle.store.specs.declared.Drawing.{Drawing}
use Rattle.answer.specs.declared.Answer.{Answer}
use Rattle.answer.specs.Answers.{outcome, Answers}
use Rattle.lent.specs.Arrays.{Arrays, held_by, normal}
use Rattle.lent.specs.declared.Line.{Line}
use Rattle.lent.specs.Replies.{answer_by, Obeyed}

less_outcome : (next n : ℕ) (out : Drawing) → out.next ≡ next
    → record { number = 0; first = 0; new = 0; removed = n - out.count; drawing = out } ≡ outcome next n out
less_outcome next n out e =
    let g : 0 ≡ out.next - next = omega (arith, e) in
    let h : n - out.count ≡ n + (out.next - next) - out.count = omega (arith, e) in
    λ i. record { number = 0; first = cond (eqb (g i) 0) 0 next; new = g i; removed = h i; drawing = out }

-- the line says how many cells went
pub obeyed_less : (a : Arrays) (c : Command) (b : Arrays) → b.next ≡ a.next → normal b ≡ true
    → ((r : Answer) → r ≡ outcome a.next a.count (held_by b) → Answers (held_by a) c r)
    → (k : Line) → k ≡ record { number = 0; first = 0; new = 0; removed = a.count - b.count } → Obeyed a c b k
obeyed_less a c b e n f k ek =
    record {
      answers = f (answer_by k (held_by b)) (ap (λ (u : Line). answer_by u (held_by b)) ek ∙ less_outcome a.next a.count (held_by b) e);
      back = λ z. absurd (z (ap (λ (u : Line). u.number) ek));
      rows = n;
    }
