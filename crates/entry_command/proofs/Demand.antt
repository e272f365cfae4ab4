-- Demand 3 of the calls on lent arrays, over any list. Assumes nothing.
use mathlib.Core.Path.{◌≡◌, sym, ap, ◌∙◌}
use lib.Dec.{T}
use Rattle.complex.specs.Answer.{Answer as Said, command}
use Rattle.store.specs.View.{sheet_of}
use Rattle.sound.proofs.Meaning.{sound_sheet_lem}
use Rattle.answer.specs.Answers.{said_by}
use Rattle.demands.proofs.Lists.{Right, Obeys, after_calls}
use Rattle.lent.specs.Arrays.{Arrays, held_by, sound_arrays}
use Rattle.lent.specs.Replies.{answer_by}
use Rattle.lent.proofs.Replies.{drawing_of}
use Rattle.call_asked.proofs.Questions.{of_sound}
use Rattle.entry_command.specs.Commands.{CommandedIn}
use Rattle.entry_command.specs.Demands.{LentCall, lent_calls, LentDemand3}

right : Right lent_calls
right =
    record {
      sheets = λ a w. sound_sheet_lem (held_by a) (drawing_of a w);
      stars = λ a w i buffer. sym (of_sound a _ _ w);
      eulers = λ a w. sym (of_sound a _ _ w);
    }

obeys : (a : Arrays) (c : LentCall) → T (sound_arrays a) → CommandedIn a c.bytes c.arrays c.line → Obeys lent_calls a c
obeys a c w m =
    let e : said_by (answer_by c.line (held_by c.arrays)) ≡ command (sheet_of (held_by a)) c.bytes = m.said ∙ sym (of_sound a _ _ w) in
    record { number = ap (λ (y : Said). y.number) e; sheet = ap (λ (y : Said). y.sheet) e; sound = m.sound w }

pub lent_demand3 : LentDemand3
lent_demand3 a cs z r = after_calls lent_calls right (λ (b : Arrays) (c : LentCall). CommandedIn b c.bytes c.arrays c.line) obeys a cs z.sheet
    z.sound r
