-- The line of a no that `?` hands on. Assumes nothing.
use mathlib.Core.Path.{◌≡◌, sym, ap, ◌∙◌}
use Rattle.std.specs.Prelude.{Result, Ok, Err, IsErr, IsErrAnd}
use Rattle.std.proofs.lemmas.Result.{err_from_is_err_and}
use Rattle.answer.specs.declared.Question.{Question}
use Rattle.answer.specs.Questions.{number_of, no_of}
use Rattle.lent.specs.declared.Change.{Change}
use Rattle.lent.specs.Replies.{line_of, line_says}

-- s is the no of r
pub handed_on : {A : Type 0} {r : Result A Question} {q : Question} (s : Result Change Question) → r ≡ Err q
    → IsErr s × IsErrAnd s (λ p. p ≡ q) → line_says s ≡ line_of (no_of r)
handed_on s e h =
    let p = err_from_is_err_and s h.1 in
    ap line_says (p.1 ∙ ap Err p.2) ∙ ap line_of (sym (ap no_of e))
