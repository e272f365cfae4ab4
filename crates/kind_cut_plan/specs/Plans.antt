-- What a plan of 0A in lent arrays says. Definitions only.
use Rattle.std.specs.Prelude.{ℕ, ◌≡◌, Bool, true, false, Result, Ok, Err}
use Rattle.complex.specs.Decode.{cut_edge}
use Rattle.complex.specs.Answer.{no, asked3}
use Rattle.store.specs.View.{sheet_of}
use Rattle.answer.specs.declared.Question.{Question}
use Rattle.answer.specs.Questions.{number_of}
use Rattle.lent.specs.Arrays.{Arrays, held_by}
use Rattle.kind_cut_plan.specs.declared.Plan.{Plan}
use Rattle.kind_cut_plan.specs.OpenPlans.{OpenGoes}
use Rattle.kind_cut_plan.specs.RingPlans.{RingGoes}

-- what 0A needs of an open edge, and of a closed one
abbrev pub Goes : Bool → Arrays → ℕ → ℕ → Plan → Type 0
Goes true = OpenGoes
Goes false = RingGoes

-- the plan has what 0A needs, or the question says no
abbrev pub Planned : Arrays → ℕ → ℕ → Result Plan Question → Type 0
Planned a e q (Ok r) = Goes r.two a e q r
Planned a e q (Err n) = asked3 (sheet_of (held_by a)) (cut_edge e q) ≡ no (number_of n) (sheet_of (held_by a))
