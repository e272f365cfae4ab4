-- What a call on the arrays that a struct was taken apart into says of the struct. Assumes nothing.
use Rattle.std.specs.Prelude.{◌≡◌, ℕ, Bool, cond, T, List, pos}
use mathlib.Core.Path.{sym, ap, ◌∙◌, subst}
use Rattle.complex.specs.Answer.{no, command, rest}
use Rattle.complex.specs.Calls.{unfilled, star_call, euler_call, write_call}
use Rattle.complex.specs.Pieces.{pieces_call}
use Rattle.store.specs.declared.Drawing.{Drawing}
use Rattle.store.specs.View.{sheet_of}
use Rattle.sound.specs.Soundness.{sound_drawing}
use Rattle.sound.specs.Visits.{visited_in, check_of}
use Rattle.rows_star.specs.Calls.{star_of}
use Rattle.rows_euler.specs.Calls.{euler_of}
use Rattle.rows_pieces.specs.Calls.{pieces_of}
use Rattle.answer.specs.declared.Answer.{Answer}
use Rattle.file_write.specs.Writes.{write_of}
use Rattle.lent.specs.Arrays.{Arrays, held_by, sound_arrays}
use Rattle.lent.specs.declared.Line.{Line}
use Rattle.lent.specs.Replies.{answer_by}
use Rattle.lent.proofs.Replies.{drawing_of}
use Rattle.lent_sound.specs.Visits.{check_on}
use Rattle.lent_sound.proofs.Whole.{visited_normal}
use Rattle.call_asked.specs.Entries.{rest_on, star_on, euler_on, pieces_on, write_on}
use Rattle.entry_command.specs.Commands.{command_in, CommandedIn}
use Rattle.door.specs.Apart.{Apart}
use Rattle.door.proofs.Sound.{sound_apart}
use Rattle.register.specs.Entries.{command_on, Commanded, rest_of}

-- the struct is apart in the arrays b, which are a
pub apart_seen : {d : Drawing} {b a : Arrays} → b ≡ a → Apart d a → Apart d b
apart_seen {d} e h = subst (Apart d) (sym e) h

module _ (d : Drawing) (a : Arrays) (h : Apart d a) where
  same_sound : sound_arrays a ≡ sound_drawing d
  same_sound = sound_apart a d h.rows h.held

  -- what is f of a sound drawing and g of another, asked of the arrays, is asked of the struct
  same_call : {A : Type 0} (f g : Drawing → A)
      → cond (sound_arrays a) (f (held_by a)) (g (held_by a)) ≡ cond (sound_drawing d) (f d) (g d)
  same_call {A} f g =
      ap (λ (b : Bool). cond b (f (held_by a)) (g (held_by a))) same_sound ∙ ap (λ (x : Drawing). cond (sound_drawing d) (f x) (g x)) h.held

  command_apart : (bytes : List ℕ) → command_in a bytes ≡ command_on d bytes
  command_apart bytes = same_call (λ x. command (sheet_of x) bytes) (λ x. no 1 (sheet_of x))

  -- the line and the struct that the arrays hold afterwards
  pub commanded : (bytes : List ℕ) (b : Arrays) (l : Line) (r : Answer) → CommandedIn a bytes b l → r ≡ answer_by l (held_by b) → Commanded d bytes r
  commanded bytes b l r o e =
      subst (Commanded d bytes) (sym e)
      record {
        said = o.said ∙ command_apart bytes;
        back = λ z. ap held_by (o.back z) ∙ h.held;
        sound = λ w. drawing_of b (o.sound (subst T (sym same_sound) w));
      }

  pub rest_apart : (bytes : List ℕ) → rest_on a bytes ≡ rest_of d bytes
  rest_apart bytes = same_call (λ x. rest (sheet_of x) bytes) (λ x. bytes)

  pub star_apart : (i : ℕ) (buffer : List ℕ) → star_on a i buffer ≡ star_of d i buffer
  unfolding star_of
  star_apart i buffer = same_call (λ x. star_call (sheet_of x) i buffer) (λ x. unfilled 1 buffer)

  pub euler_apart : euler_on a ≡ euler_of d
  unfolding euler_of
  euler_apart = same_call (λ x. euler_call (sheet_of x)) (λ x. record { number = 1; value = pos 0 })

  pub pieces_apart : pieces_on a ≡ pieces_of d
  unfolding pieces_of
  pieces_apart = same_call (λ x. pieces_call (sheet_of x)) (λ x. record { number = 1; count = 0 })

  pub check_apart : check_on a ≡ check_of d
  check_apart i = record { sound = same_sound i; visited = (visited_normal a h.rows ∙ ap visited_in h.held) i }

  pub write_apart : (buffer : List ℕ) → write_on a buffer ≡ write_of d buffer
  write_apart buffer = same_call (λ x. write_call (sheet_of x) buffer) (λ x. unfilled 1 buffer)
