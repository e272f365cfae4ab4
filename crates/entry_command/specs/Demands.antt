-- Demand 3 of the calls on lent arrays. Definitions only.
use Rattle.std.specs.Prelude.{ℕ, List}
use Rattle.complex.specs.Demands.{Step, Each}
use Rattle.store.specs.View.{sheet_of}
use Rattle.demands.specs.Lists.{Calls, AfterCalls}
use Rattle.lent.specs.Arrays.{Arrays, held_by, sound_arrays}
use Rattle.lent.specs.declared.Line.{Line}
use Rattle.call_asked.specs.Entries.{EmptyIn, star_on, euler_on}
use Rattle.entry_command.specs.Commands.{CommandedIn}

-- any bytes, with the line that a command answered to them and the arrays as it left them
pub record LentCall : Type 0 where
  pub bytes : List ℕ
  pub line : Line
  pub arrays : Arrays

abbrev pub lent_step : Arrays → LentCall → Step Arrays
lent_step a c = record { number = c.line.number; state = c.arrays }

abbrev pub lent_calls : Calls Arrays LentCall
lent_calls =
    record {
      sound = sound_arrays;
      sheet = λ a. sheet_of (held_by a);
      bytes = λ c. c.bytes;
      step = lent_step;
      star = star_on;
      euler = euler_on;
    }

-- each answer meets the command's contract on the arrays that the one before it left
abbrev pub LentAnswered : Arrays → List LentCall → Type 0
LentAnswered = Each lent_step (λ (a : Arrays) (c : LentCall). CommandedIn a c.bytes c.arrays c.line)

-- demand 3: after any list of commands from arrays that hold the empty drawing
abbrev pub LentDemand3 : Type 0
LentDemand3 = (a : Arrays) (cs : List LentCall) → EmptyIn a → LentAnswered a cs → AfterCalls lent_calls a cs
