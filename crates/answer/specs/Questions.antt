-- The questions of document 01 by their numbers. Definitions only.
use Rattle.std.specs.Prelude.{ℕ, Result, Ok, Err}
use Rattle.answer.specs.declared.Question.{Question}
use Rattle.answer.specs.declared.Question.TheVariants.{Sound, Whole, Bounds, Live, Exists, Rule, Ids, Ceilings, Buffer, File}

abbrev pub number_of : Question → ℕ
number_of Sound = 1
number_of Whole = 2
number_of Bounds = 3
number_of Live = 4
number_of Exists = 5
number_of Rule = 6
number_of Ids = 7
number_of Ceilings = 8
number_of Buffer = 9
number_of File = 10

-- 0, or the number of the first no
abbrev pub no_of : {A : Type 0} → Result A Question → ℕ
no_of (Ok x) = 0
no_of (Err q) = number_of q
