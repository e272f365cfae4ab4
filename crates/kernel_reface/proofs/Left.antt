-- What is answered where the arrays hold a command's result and no id is issued. Assumes nothing.
use Prim.Native.Nat.{ℕ, ◌+◌, ◌-◌, ◌≤◌}
use native.Mathlib.Omega.{arith}
use mathlib.Core.Path.{◌≡◌, refl, ap, ◌∙◌}
use mathlib.Core.Bool.{cond}
use lib.Dec.{eqb}
use Rattle.complex.specs.Cells.{Sheet}
use Rattle.complex.specs.Decode.{Command}
use Rattle.complex.specs.Commands.{result}
use Rattle.store.specs.declared.Drawing.{Drawing}
use Rattle.store.specs.View.{sheet_of}
use Rattle.answer.specs.declared.Totals.{Totals}
use Rattle.answer.specs.Answers.{outcome}
use Rattle.answer.proofs.Asked.{Asked, counts_done, answers}
use Rattle.lent.specs.Arrays.{Arrays, held_by}
use Rattle.lent.specs.declared.Line.{Line}
use Rattle.lent.specs.Replies.{answer_by, Ready, Obeyed, Holds}
use Rattle.lent.proofs.Held.{held_sizes}
use Rattle.lent.proofs.Sums.{ready_sizes, ready_drawing}

-- the line of a command that removes k cells and issues nothing
abbrev pub less_line : ℕ → Line
less_line k = record { number = 0; first = 0; new = 0; removed = k }

pub less_outcome : (next n : ℕ) (out : Drawing) → out.next ≡ next → answer_by (less_line (n - out.count)) out ≡ outcome next n out
less_outcome next n out e =
    let g : 0 ≡ out.next - next = omega (arith, e) in
    let h : n - out.count ≡ n + (out.next - next) - out.count = omega (arith, e) in
    λ i. record { number = 0; first = cond (eqb (g i) 0) 0 next; new = g i; removed = h i; drawing = out }

module _ (a : Arrays) (t : Totals) (y : Ready a t) (c : Command) (k : Asked (held_by a) c 0) (s : Sheet) (e : s ≡ result (sheet_of (held_by a)) c)
    (o : Arrays) (h : Holds s o) (en : o.next ≡ a.next) where
  pub left_fewer : o.count ≤ a.count
  left_fewer =
      let b =
      (counts_done (held_by a) (ready_sizes a t y) (ready_drawing a t y) c 0 k refl (held_by o) (held_sizes o h.long) h.fits (h.sheet ∙ e)).balance in
      omega (arith, b, en)

  pub left_obeyed : (l : Line) → l ≡ less_line (a.count - o.count) → Obeyed a c o l
  left_obeyed l el =
      record {
        answers =
            answers (held_by a) (ready_sizes a t y) (ready_drawing a t y) c 0 k refl (held_by o) (held_sizes o h.long) h.fits (h.sheet ∙ e)
            (answer_by l (held_by o)) (ap (λ (u : Line). answer_by u (held_by o)) el ∙ less_outcome a.next a.count (held_by o) en);
        back = λ n. absurd (n (ap (λ (u : Line). u.number) el));
        rows = h.rows;
      }
