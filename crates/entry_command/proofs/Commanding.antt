-- From the dispatch's answer to the entry's. Assumes nothing.
use Prim.Native.Nat.{ℕ}
use mathlib.Core.Path.{◌≡◌, refl, sym, ap, ◌∙◌}
use mathlib.Core.Bool.{false}
use mathlib.Core.List.{List}
use lib.Dec.{T}
use Rattle.number.specs.Readers.{got, bad}
use Rattle.complex.specs.Sound.{sound}
use Rattle.complex.specs.Decode.{Order, decode}
use Rattle.complex.specs.Answer.{no, asked2, command}
use Rattle.complex.proofs.Bools.{true_of, false_not}
use Rattle.store.specs.View.{sheet_of}
use Rattle.sound.proofs.Meaning.{sound_sheet_lem}
use Rattle.answer.specs.Answers.{said_by}
use Rattle.lent.specs.Arrays.{Arrays, held_by, sound_arrays}
use Rattle.lent.specs.declared.Line.{Line}
use Rattle.lent.specs.Replies.{line_of, answer_by, Carried, Replied}
use Rattle.lent.proofs.Replies.{drawing_of, carried_says, replied_carried}
use Rattle.call_asked.proofs.Questions.{of_unsound}
use Rattle.entry_command.specs.Commands.{command_in, CommandedIn}

module _ (a : Arrays) (bytes : List ℕ) (l : Line) where
  -- 1
  pub commanded_unsound : sound_arrays a ≡ false → l ≡ line_of 1 → CommandedIn a bytes a l
  commanded_unsound w e =
      record {
        said = ap (λ (k : Line). said_by (answer_by k (held_by a))) e ∙ of_unsound a (command (sheet_of (held_by a)) bytes) (no 1 (sheet_of (held_by a))) w;
        back = λ z. refl;
        sound = λ t. absurd (false_not w t);
      }

  module _ (w : T (sound_arrays a)) where
    command_is : command_in a bytes ≡ asked2 (sheet_of (held_by a)) (decode bytes)
    unfolding command
    command_is = rw (true_of (sound_arrays a) w, true_of (sound (sheet_of (held_by a))) (sound_sheet_lem (held_by a) (drawing_of a w)))

    -- 2
    pub commanded_unread : decode bytes ≡ bad → l ≡ line_of 2 → CommandedIn a bytes a l
    commanded_unread q e =
        record {
          said = ap (λ (k : Line). said_by (answer_by k (held_by a))) e ∙ sym (command_is ∙ ap (asked2 (sheet_of (held_by a))) q);
          back = λ z. refl;
          sound = λ t. t;
        }

    -- 3 to 8, and the rules
    pub commanded_carried : (o : Order) (t : List ℕ) (b : Arrays) → decode bytes ≡ got o t → Carried a o b l → CommandedIn a bytes b l
    commanded_carried o t b q h =
        let r : Replied a o b l = replied_carried a (true_of (sound_arrays a) w) o b l h in
        record { said = carried_says a o b l h ∙ sym (command_is ∙ ap (asked2 (sheet_of (held_by a))) q); back = r.back; sound = r.sound }
