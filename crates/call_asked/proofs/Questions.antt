-- From question 1 to what the calls answer. Assumes nothing.
use Rattle.std.specs.Prelude.{Option, Some, None}
use Prim.Native.Nat.{ℕ}
use mathlib.Core.Path.{◌≡◌, refl, sym, ap, ◌∙◌, subst}
use mathlib.Core.Bool.{Bool, true, false, cond}
use mathlib.Core.List.{List}
use lib.Dec.{T}
use lib.IntN.{ℤ, pos}
use Rattle.number.specs.Readers.{Read}
use Rattle.number.specs.Said.{done, no}
use Rattle.complex.specs.Sound.{sound}
use Rattle.complex.specs.Euler.{euler}
use Rattle.complex.specs.Calls.{EulerAnswer, euler_call}
use Rattle.complex.specs.Pieces.{pieces, pieces_call}
use Rattle.complex.specs.Decode.{Order, decode}
use Rattle.complex.specs.Answer.{rest_read, rest}
use Rattle.complex.proofs.Bools.{truth, true_of}
use Rattle.complex.proofs.Obey.{euler_of_lem}
use Rattle.complex.proofs.Pieces.{pieces_of}
use Rattle.store.specs.View.{sheet_of}
use Rattle.sound.proofs.Meaning.{sound_sheet_lem}
use Rattle.answer.specs.declared.Totals.{Totals}
use Rattle.lent.specs.Arrays.{Arrays, held_by, sound_arrays, totals_of, Lengths}
use Rattle.lent.specs.Replies.{Ready}
use Rattle.lent.proofs.Replies.{drawing_of}
use Rattle.lent_sound.specs.Walk.{walk_right, walk_says}
use Rattle.lent_sound.proofs.Whole.{sound_walk}
use Rattle.lent_row.proofs.Rows.{said_no, said_done}
use Rattle.call_asked.specs.Entries.{EmptyIn, Begun, Asked, rest_on, euler_on, pieces_on}

-- ---- next id 1 and no cell
module _ (a : Arrays) where
  abbrev numbered : ℕ → ℕ → Arrays
  numbered n k =
      record {
        next = n;
        count = k;
        ids = a.ids;
        kinds = a.kinds;
        starts = a.starts;
        ends = a.ends;
        bends = a.bends;
        counts = a.counts;
        px = a.px;
        py = a.py;
        cycles = a.cycles;
        steps = a.steps;
        bx = a.bx;
        by = a.by;
      }

  first_empty : EmptyIn (numbered 1 0)
  unfolding sheet_of sound
  first_empty = record { sheet = refl; sound = tt }

  numbers_empty : (n k : ℕ) → n ≡ 1 → k ≡ 0 → EmptyIn (numbered n k)
  numbers_empty n k e f = subst (λ (x : ℕ). EmptyIn (numbered x k)) (sym e) (subst (λ (x : ℕ). EmptyIn (numbered 1 x)) (sym f) first_empty)

pub begun : Begun 1 0
begun a = numbers_empty a a.next a.count

-- ---- question 1
module _ (a : Arrays) where
  sound_said : Lengths a → (r : Option Totals) → walk_says r ≡ cond (sound_arrays a) (done (totals_of a)) (no 1) → Asked a r
  sound_said l (Some t) e =
      let p = said_done (sound_arrays a) t (totals_of a) e in
      record { sound = truth p.0; long = l; sums = p.1 }
  sound_said l None e = said_no (sound_arrays a) (totals_of a) e

  -- by the walk
  pub asked_said : Lengths a → (r : Option Totals) → walk_says r ≡ cond (walk_right true a) (done (totals_of a)) (no 1) → Asked a r
  asked_said l r e = sound_said l r (e ∙ sym (ap (λ (b : Bool). cond b (done (totals_of a)) (no 1)) (sound_walk a l)))

  pub asked_sums : (r : Option Totals) (t : Totals) → Asked a r → r ≡ Some t → Ready a t
  asked_sums r t w e = subst (Asked a) e w

  pub asked_no : (r : Option Totals) → Asked a r → r ≡ None → sound_arrays a ≡ false
  asked_no r w e = subst (Asked a) e w

  -- a call of sound arrays, and of arrays that are not sound
  pub of_sound : {A : Type 0} (x y : A) → T (sound_arrays a) → x ≡ cond (sound_arrays a) x y
  of_sound {A} x y w = sym (ap (λ (b : Bool). cond b x y) (true_of (sound_arrays a) w))

  pub of_unsound : {A : Type 0} (x y : A) → sound_arrays a ≡ false → y ≡ cond (sound_arrays a) x y
  of_unsound {A} x y w = sym (ap (λ (b : Bool). cond b x y) w)

  -- what a call gives after question 1
  pub after_yes : {A : Type 0} (x y : A) (r : Option Totals) (t : Totals) → Asked a r → r ≡ Some t → x ≡ cond (sound_arrays a) x y
  after_yes x y r t w e = of_sound x y (asked_sums r t w e).sound

  pub after_no : {A : Type 0} (x y : A) (r : Option Totals) → Asked a r → r ≡ None → y ≡ cond (sound_arrays a) x y
  after_no x y r w e = of_unsound x y (asked_no r w e)

  sheet_of_lem : T (sound_arrays a) → T (sound (sheet_of (held_by a)))
  sheet_of_lem w = sound_sheet_lem (held_by a) (drawing_of a w)

  -- the Euler number of sound arrays
  pub euler_is : T (sound_arrays a) → (v : ℤ) → v ≡ euler (sheet_of (held_by a)).cells → record { number = 0; value = v } ≡ euler_on a
  euler_is w v e =
      ap (λ (z : ℤ). record { number = 0; value = z }) e
      ∙ sym (euler_of_lem (sheet_of (held_by a)) (sheet_of_lem w))
      ∙ of_sound (euler_call (sheet_of (held_by a))) (record { number = 1; value = pos 0 }) w

  -- the number of pieces of sound arrays
  pub pieces_is : T (sound_arrays a) → (n : ℕ) → n ≡ pieces (sheet_of (held_by a)).cells → record { number = 0; count = n } ≡ pieces_on a
  pieces_is w n e =
      ap (λ (m : ℕ). record { number = 0; count = m }) e
      ∙ sym (pieces_of (sheet_of (held_by a)) (sheet_of_lem w))
      ∙ of_sound (pieces_call (sheet_of (held_by a))) (record { number = 1; count = 0 }) w

  -- the rest of a script is what decoding leaves
  pub rest_is : T (sound_arrays a) → (s : List ℕ) (q : Read Order) → decode s ≡ q → rest_on a s ≡ rest_read s q
  unfolding rest
  rest_is w s q e = rw (true_of (sound_arrays a) w, true_of (sound (sheet_of (held_by a))) (sheet_of_lem w), e)
