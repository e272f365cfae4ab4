-- From a kind's answer on sound arrays to the entry's. Assumes nothing.
use Prim.Native.Nat.{ℕ}
use mathlib.Core.Path.{◌≡◌, refl, sym, ap, ◌∙◌, subst}
use mathlib.Core.Bool.{Bool, true, ◌&&◌, cond}
use lib.Dec.{T, leb, le→leb}
use Rattle.complex.specs.Cells.{Sheet}
use Rattle.complex.specs.Sound.{sound, cells_most, cycles_most, steps_most, bends_most}
use Rattle.complex.specs.Decode.{Command, Order, edit, renumber}
use Rattle.complex.specs.Renumber.{renumbered}
use Rattle.complex.specs.Answer.{Answer as Said, no, asked3, renewed, ordered}
use Rattle.complex.proofs.Bools.{truth, true_of, pair}
use Rattle.complex.proofs.Keep.{sound_parts, parts_sound}
use Rattle.complex.proofs.Obey.{asked, refusal, passed}
use Rattle.complex.proofs.RenumberSound.{renumber_sound}
use Rattle.complex.proofs.Demand.{keeps}
use Rattle.store.specs.declared.Drawing.{Drawing}
use Rattle.store.specs.View.{sheet_of, Fits, bend_total, cycle_total, step_total}
use Rattle.sound.specs.Soundness.{sums_fit, fits_in, sound_drawing}
use Rattle.sound.proofs.Meaning.{sound_fits, sound_sheet_lem}
use Rattle.answer.specs.Answers.{said_by}
use Rattle.answer.proofs.Laws.{answers_no}
use Rattle.lent.specs.Arrays.{Arrays, held_by, normal, sound_arrays}
use Rattle.lent.proofs.Held.{and_first, and_second}
use Rattle.lent.specs.declared.Line.{Line}
use Rattle.lent.specs.Replies.{line_of, answer_by, Replied, Obeyed, Carried}

fits_in_lem : (d : Drawing) → Fits d → T (fits_in d)
fits_in_lem d f =
    pair (leb d.count cells_most) (sums_fit (bend_total d) (cycle_total d) (step_total d)) (le→leb d.count cells_most f.cells)
    (pair (leb (bend_total d) bends_most) (leb (cycle_total d) cycles_most && leb (step_total d) steps_most) (le→leb (bend_total d) bends_most f.bends)
    (pair (leb (cycle_total d) cycles_most) (leb (step_total d) steps_most) (le→leb (cycle_total d) cycles_most f.cycles)
    (le→leb (step_total d) steps_most f.steps)))

-- an order on a sound sheet leaves a sound one
asked_sound : (s : Sheet) (c : Command) → T (sound s) → T (sound (asked3 s c).sheet)
asked_sound s c w = elim (asked s c) [
  | refusal n z q ↦ subst (λ (a : Said). T (sound a.sheet)) (sym q) w
  | passed p q ↦ subst (λ (a : Said). T (sound a.sheet)) (sym q) (parts_sound _ (keeps c s (sound_parts s w) p))
]

ordered_sound : (s : Sheet) (o : Order) → T (sound s) → T (sound (ordered s o).sheet)
unfolding renewed
ordered_sound s (edit c) w = asked_sound s c w
ordered_sound s renumber w = parts_sound (renumbered s) (renumber_sound s (sound_parts s w))

module _ (a : Arrays) where
  pub rows_of : T (sound_arrays a) → normal a ≡ true
  rows_of w = and_first (normal a) (sound_drawing (held_by a)) (true_of (sound_arrays a) w)

  pub drawing_of : T (sound_arrays a) → T (sound_drawing (held_by a))
  drawing_of w = truth (and_second (normal a) (sound_drawing (held_by a)) (true_of (sound_arrays a) w))

  -- a no
  pub obeyed_no : (w : T (sound_arrays a)) (c : Command) (n : ℕ) (l : Line) → l ≡ line_of n → asked3 (sheet_of (held_by a)) c ≡ no n (sheet_of (held_by a))
      → Obeyed a c a l
  obeyed_no w c n l e q =
      record {
        answers = answers_no (held_by a) (sound_fits (held_by a) (drawing_of w)) c n (answer_by l (held_by a)) (ap (λ (k : Line). answer_by k (held_by a)) e) q;
        back = λ z. refl;
        rows = rows_of w;
      }

  -- what an order that is carried out says, and gives back
  pub carried_says : (o : Order) (b : Arrays) (l : Line) → Carried a o b l → said_by (answer_by l (held_by b)) ≡ ordered (sheet_of (held_by a)) o
  unfolding renewed
  carried_says (edit c) b l h = h.answers.said
  carried_says renumber b l h =
      λ i. record {
        number = (h.line i).number;
        first = (h.line i).first;
        new = (h.line i).new;
        removed = (h.line i).removed;
        sheet = h.sheet i;
      }

  carried_back : (o : Order) (b : Arrays) (l : Line) → Carried a o b l → (l.number ≡ 0 → ⊥) → b ≡ a
  carried_back (edit c) b l h = h.back
  carried_back renumber b l h = λ z. absurd (z (ap (λ (k : Line). k.number) h.line))

  carried_rows : (o : Order) (b : Arrays) (l : Line) → Carried a o b l → normal b ≡ true
  carried_rows (edit c) b l h = h.rows
  carried_rows renumber b l h = h.rows

  carried_fits : (o : Order) (b : Arrays) (l : Line) → Carried a o b l → Fits (held_by b)
  carried_fits (edit c) b l h = h.answers.fits
  carried_fits renumber b l h = h.fits

  pub replied_carried : sound_arrays a ≡ true → (o : Order) (b : Arrays) (l : Line) → Carried a o b l → Replied a o b l
  replied_carried w o b l h =
      let d = held_by b in
      let s = carried_says o b l h in
      record {
        said = s ∙ sym (ap (λ (t : Bool). cond t (ordered (sheet_of (held_by a)) o) (no 1 (sheet_of (held_by a)))) w);
        back = carried_back o b l h;
        sound =
            λ t. pair (normal b) (sound_drawing d) (truth (carried_rows o b l h))
            (pair (fits_in d) (sound (sheet_of d)) (fits_in_lem d (carried_fits o b l h))
            (subst (λ (x : Said). T (sound x.sheet)) (sym s) (ordered_sound (sheet_of (held_by a)) o (sound_sheet_lem (held_by a) (drawing_of t)))));
      }
