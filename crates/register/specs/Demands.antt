-- Demand 3 of the entries. Definitions only.
use Rattle.std.specs.Prelude.{ℕ, List, ℤ}
use Rattle.complex.specs.Demands.{Step, Each}
use Rattle.demands.specs.Lists.{Calls, AfterCalls}
use Rattle.demands.specs.Lists as lists
use Rattle.store.specs.declared.Drawing.{Drawing}
use Rattle.store.specs.View.{sheet_of}
use Rattle.sound.specs.Soundness.{sound_drawing}
use Rattle.rows_star.specs.Calls.{star_of}
use Rattle.rows_euler.specs.Calls.{euler_of}
use Rattle.answer.specs.declared.Answer.{Answer}
use Rattle.struct_empty.specs.Entries.{Empty}
use Rattle.register.specs.Entries.{Commanded}

-- any bytes, with what the entry answered to them
pub record Call : Type 0 where
  pub bytes : List ℕ
  pub answer : Answer

abbrev pub call_step : Drawing → Call → Step Drawing
call_step d c = record { number = c.answer.number; state = c.answer.drawing }

abbrev pub calls : Calls Drawing Call
calls = record { sound = sound_drawing; sheet = sheet_of; bytes = λ c. c.bytes; step = call_step; star = star_of; euler = euler_of }

-- each answer meets the entry's contract on the drawing that the one before it gave back
abbrev pub Answered : Drawing → List Call → Type 0
Answered = Each call_step (λ (d : Drawing) (c : Call). Commanded d c.bytes c.answer)

-- the drawing after a list whose accepted commands' shares have this sum
abbrev pub Ends : Drawing → ℤ → Type 0
Ends = lists.Ends calls

-- demand 3: after any list of commands from the empty drawing d
abbrev pub EntriesDemand3 : Type 0
EntriesDemand3 = (d : Drawing) (cs : List Call) → Empty d → Answered d cs → AfterCalls calls d cs
