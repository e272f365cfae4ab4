-- A plan of 0A that says no. Assumes nothing.
use Prim.Native.Nat.{ℕ}
use mathlib.Core.Path.{◌≡◌, sym, ap, subst, ◌∙◌}
use lib.Dec.{T}
use Rattle.std.specs.Prelude.{Result, Err, IsErr, IsErrAnd}
use Rattle.std.proofs.lemmas.Result.{err_from_is_err_and}
use Rattle.complex.specs.Decode.{cut_edge}
use Rattle.complex.specs.Commands.{result}
use Rattle.complex.specs.Answer.{no, asked3}
use Rattle.complex.proofs.Asked.{answered_no}
use Rattle.store.specs.View.{sheet_of}
use Rattle.answer.specs.declared.Question.{Question}
use Rattle.answer.specs.Questions.{no_of}
use Rattle.answer.proofs.Asked.{Asked, answer}
use Rattle.lent.specs.Arrays.{Arrays, held_by, sound_arrays, Lengths}
use Rattle.lent.proofs.Held.{held_sizes}
use Rattle.lent.proofs.Replies.{drawing_of}
use Rattle.kind_cut_plan.specs.declared.Plan.{Plan}
use Rattle.kind_cut_plan.specs.Plans.{Planned}

-- s is the no of r
pub planned_no : (a : Arrays) (e q : ℕ) {A : Type 0} {r : Result A Question} {k : Question} (s : Result Plan Question) → r ≡ Err k
    → IsErr s × IsErrAnd s (λ p. p ≡ k) → asked3 (sheet_of (held_by a)) (cut_edge e q) ≡ no (no_of r) (sheet_of (held_by a)) → Planned a e q s
planned_no a e q s w g h =
    let p = err_from_is_err_and s g.1 in
    subst (Planned a e q) (sym (p.1 ∙ ap Err p.2)) (h ∙ ap (λ (i : ℕ). no i (sheet_of (held_by a))) (ap no_of w))

-- questions 7 and 8 say no
pub late_refuses : (a : Arrays) (l : Lengths a) (w : T (sound_arrays a)) (e q r : ℕ) → Asked (held_by a) (cut_edge e q) r → (r ≡ 0 → ⊥)
    → asked3 (sheet_of (held_by a)) (cut_edge e q) ≡ no r (sheet_of (held_by a))
late_refuses a l w e q r k nz =
    answer (held_by a) (held_sizes a l) (drawing_of a w) (cut_edge e q) r k ∙ answered_no (sheet_of (held_by a)) (result (sheet_of (held_by a)) (cut_edge e q)) r nz
