-- One command of a script on lent arrays. Assumes nothing.
use Prim.Native.Nat.{ℕ, ◌+◌, ◌-◌, ◌<◌}
use native.Mathlib.Omega.{arith}
use mathlib.Core.Path.{◌≡◌}
use mathlib.Core.List.{List}
use lib.Dec.{T}
use lib.ListN.{length, drop}
use Rattle.number.specs.Readers.{bad}
use Rattle.complex.specs.Sound.{sound}
use Rattle.complex.specs.Decode.{decode}
use Rattle.complex.proofs.Bools.{true_of}
use Rattle.store.specs.View.{sheet_of}
use Rattle.sound.proofs.Meaning.{sound_sheet_lem}
use Rattle.decode_command.specs.declared.Command.{Command}
use Rattle.decode_command.specs.View.{order_of}
use Rattle.decode.proofs.Laws.{Begins}
use Rattle.answer.specs.Answers.{said_by}
use Rattle.lent.specs.Arrays.{Arrays, held_by, sound_arrays}
use Rattle.lent.specs.declared.Line.{Line}
use Rattle.lent.specs.Replies.{answer_by, line_of, Carried}
use Rattle.lent.proofs.Replies.{drawing_of, carried_says, replied_carried}
use Rattle.entry_told.proofs.Going.{turned_read, turned_unread, left_fits}
use Rattle.entry_run.specs.Turns.{SteppedIn}

pub sheet_sound : (a : Arrays) → T (sound_arrays a) → T (sound (sheet_of (held_by a)))
sheet_sound a w = sound_sheet_lem (held_by a) (drawing_of a w)

module _ (script : List ℕ) (at : ℕ) (h : at < length script) {left : List ℕ} (e : left ≡ drop at script) (a : Arrays) (w : T (sound_arrays a)) where
  -- the command is not read
  pub unread_in : decode left ≡ bad → SteppedIn a script at a (record { line = line_of 2; left = length left; end = length script })
  unread_in d =
      record { turned = turned_unread script at h e (sheet_of (held_by a)) (sheet_sound a w) d; sound = w; fits = left_fits script at h e }

  -- it is read, and the arrays b are left
  pub read_in : {c : Command} {taken : ℕ} → Begins left c taken → (b : Arrays) (l : Line) → Carried a (order_of left c) b l
      → SteppedIn a script at b (record { line = l; left = length script - (at + taken); end = at + taken })
  read_in {c} t b l o =
      record {
        turned = turned_read script at h e (sheet_of (held_by a)) (sheet_sound a w) t (said_by (answer_by l (held_by b)))
            (carried_says a (order_of left c) b l o);
        sound = (replied_carried a (true_of (sound_arrays a) w) (order_of left c) b l o).sound w;
        fits = omega arith;
      }
