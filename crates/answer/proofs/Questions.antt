-- What a first no, or none, says of its number. Assumes nothing.
use Prim.Native.Nat.{ℕ}
use native.Mathlib.Omega.{arith}
use mathlib.Core.Path.{◌≡◌, sym, ap, ◌∙◌}
use Rattle.std.specs.Prelude.{Result, Ok, Err}
use Rattle.answer.specs.declared.Question.{Question}
use Rattle.answer.specs.declared.Question.TheVariants.{Sound, Whole, Bounds, Live, Exists, Rule, Ids, Ceilings, Buffer, File}
use Rattle.answer.specs.Questions.{number_of, no_of}

-- no question has the number 0
pub not_zero : (q : Question) → number_of q ≡ 0 → ⊥
not_zero Sound e = omega arith
not_zero Whole e = omega arith
not_zero Bounds e = omega arith
not_zero Live e = omega arith
not_zero Exists e = omega arith
not_zero Rule e = omega arith
not_zero Ids e = omega arith
not_zero Ceilings e = omega arith
not_zero Buffer e = omega arith
not_zero File e = omega arith

module _ {A : Type 0} {r : Result A Question} where
  pub all_yes : {x : A} → r ≡ Ok x → no_of r ≡ 0
  all_yes e = ap no_of e

  pub some_no : {q : Question} → r ≡ Err q → no_of r ≡ 0 → ⊥
  some_no {q} e z = not_zero q (sym (ap no_of e) ∙ z)

  pub that_no : {q : Question} → r ≡ Err q → number_of q ≡ no_of r
  that_no e = sym (ap no_of e)
