-- Question 10 of a file that was loaded is question 1 of the arrays. Assumes nothing.
use Rattle.std.specs.Prelude.{Option, Some, None}
use Prim.Native.Nat.{ℕ}
use native.Mathlib.Omega.{arith}
use mathlib.Core.Path.{◌≡◌, refl, sym, ap, ◌∙◌, subst}
use mathlib.Core.Bool.{Bool, true, false, ◌&&◌}
use mathlib.Core.List.{List}
use lib.Dec.{eqb}
use lib.Ieee.{Float}
use lib.ListN.{take}
use borrow.Author.Tests.{eqb-true, eqb-false, eq-eqb, ne_eqb}
use Rattle.number.specs.Readers.{all}
use Rattle.coordinate.specs.Bounds.{within}
use Rattle.complex.specs.Sound.{sound}
use Rattle.complex.specs.File.{ReadAnswer as Judgement, read_file}
use Rattle.complex.proofs.Bools.{truth, true_of}
use Rattle.complex.proofs.Files.{read_refused}
use Rattle.store.specs.View.{sheet_of}
use Rattle.sound.specs.Soundness.{sound_drawing}
use Rattle.sound.proofs.Testing.{and_true, and_false}
use Rattle.file_read.specs.Outcome.{refused, NotHeld}
use Rattle.file_read.proofs.Verdict.{accepted, sound_read, unsound_read, not_held_refused}
use Rattle.file_read.proofs.Judging.{fitting_sound}
use Rattle.answer.specs.declared.Totals.{Totals}
use Rattle.lent.specs.Arrays.{Arrays, held_by, sound_arrays, Lengths}
use Rattle.lent.proofs.Sums.{bends_held}
use Rattle.lent_sound.specs.Walk.{walk_right}
use Rattle.lent_sound.proofs.Whole.{sound_rows}
use Rattle.call_asked.specs.Entries.{Asked}
use Rattle.call_load.specs.Loads.{SheetIn}
use Rattle.call_load.specs.Bare.{RowsIn, RowsLoaded}
use Rattle.call_open.specs.Taken.{FileIn, OpenedIn, ReadIn}

-- ---- what loading with the bends says
module _ (s : List ℕ) (b : ℕ → ℕ → List Float → List Float → Arrays) (xs ys : List Float) (r : Option (ℕ × ℕ × Bool)) (l : RowsLoaded true s b xs ys r) where
  loaded_in : (next n : ℕ) (g : Bool) → r ≡ Some (next, n, g) → SheetIn s (b next n xs ys) × Lengths (b next n xs ys)
  loaded_in next n g e =
      let R = subst (RowsLoaded true s b xs ys) e l in
      subst (λ (us : List Float). SheetIn s (b next n us ys) × Lengths (b next n us ys)) R.kept.0
      (subst (λ (vs : List Float). SheetIn s (b next n R.bx vs) × Lengths (b next n R.bx vs)) R.kept.1 (R.sheet, R.long))

  pub loaded_some : (next n : ℕ) (g : Bool) → r ≡ Some (next, n, g) → SheetIn s (b next n xs ys)
  loaded_some next n g e = (loaded_in next n g e).0

  pub loaded_long : (next n : ℕ) (g : Bool) → r ≡ Some (next, n, g) → Lengths (b next n xs ys)
  loaded_long next n g e = (loaded_in next n g e).1

  pub loaded_not : r ≡ None → NotHeld s
  loaded_not e = subst (RowsLoaded true s b xs ys) e l

  pub loaded_none : r ≡ None → read_file s ≡ refused
  loaded_none e = not_held_refused s (loaded_not e)

-- ---- the file
pub no_file : (s : List ℕ) → read_file s ≡ refused → (read_file s).number ≡ 10
no_file s e = ap (λ (j : Judgement). j.number) e

no_number : (s : List ℕ) → read_file s ≡ refused → eqb (read_file s).number 0 ≡ false
no_number s e = ne_eqb (read_file s).number 0 (λ z. let h = no_file s e in omega (arith, h, z))

-- what question 10 said
module _ (s : List ℕ) (b : Arrays) (r : Option Totals) (o : OpenedIn s b r) where
  pub opened_file : (t : Totals) → r ≡ Some t → FileIn s b t
  opened_file t e = subst (OpenedIn s b) e o

  pub opened_none : r ≡ None → (read_file s).number ≡ 10
  opened_none e = subst (OpenedIn s b) e o

-- a file that is accepted is loaded
pub no_refusal : (s : List ℕ) → eqb (read_file s).number 0 ≡ true → read_file s ≡ refused → ⊥
no_refusal s y e = let m = eqb-true (read_file s).number 0 y in let k = ap (λ (j : Judgement). j.number) e in omega (arith, m, k)

module _ (s : List ℕ) (b : Arrays) (S : SheetIn s b) where
  pub arrays_sound : sound_arrays b ≡ sound (sheet_of (held_by b))
  arrays_sound = ap (λ (t : Bool). t && sound_drawing (held_by b)) S.rows ∙ fitting_sound (held_by b) S.fits

  file_whole : sound_arrays b ≡ true → read_file s ≡ accepted (sheet_of (held_by b))
  file_whole e = sound_read s (sheet_of (held_by b)) S.read (sym arrays_sound ∙ e)

  file_fault : sound_arrays b ≡ false → read_file s ≡ refused
  file_fault e = unsound_read s (sheet_of (held_by b)) S.read (sym arrays_sound ∙ e)

  -- question 1 of the arrays is question 10
  pub opened_in : (r : Option Totals) → Asked b r → OpenedIn s b r
  opened_in (Some t) w =
      let f = file_whole (true_of (sound_arrays b) w.sound) in
      record { number = ap (λ (j : Judgement). j.number) f; sheet = sym (ap (λ (j : Judgement). j.sheet) f); ready = w }
  opened_in None w = ap (λ (j : Judgement). j.number) (file_fault w)

  -- the arrays are the answer
  pub read_in : (a : Arrays) → eqb (read_file s).number 0 ≡ true → ReadIn s a b 0
  read_in a y = go (sound_arrays b) refl
    where
      go : (t : Bool) → sound_arrays b ≡ t → ReadIn s a b 0
      go true e =
          let f = file_whole e in
          record {
            number = ap (λ (j : Judgement). j.number) (sym f);
            back = λ z. absurd (z refl);
            sheet = λ z. ap (λ (j : Judgement). j.sheet) (sym f);
            sound = λ z. truth e;
          }
      go false e = absurd (no_refusal s y (file_fault e))

-- ---- a file whose bends were only looked at
module _ (s : List ℕ) (b : ℕ → ℕ → List Float → List Float → Arrays) (xs ys : List Float) (r : Option (ℕ × ℕ × Bool)) (l : RowsLoaded false s b xs ys r) where
  pub rows_some : (next n : ℕ) (g : Bool) → r ≡ Some (next, n, g) → RowsIn false s (b next n) xs ys g
  rows_some next n g e = subst (RowsLoaded false s b xs ys) e l

  pub rows_none : r ≡ None → false ≡ eqb (read_file s).number 0
  rows_none e = sym (no_number s (not_held_refused s (subst (RowsLoaded false s b xs ys) e l)))

module _ (s : List ℕ) (b : List Float → List Float → Arrays) (xs ys : List Float) (g : Bool) (R : RowsIn false s b xs ys g) where
  abbrev held : Arrays
  held = b R.bx R.by

  -- its rows and its bends are all that question 1 asks about
  rows_decide : sound_arrays held ≡ g && walk_right false held
  rows_decide =
      sound_rows held R.long
      ∙ ap (λ (t : Bool). t && walk_right false held)
      (ap (λ (k : ℕ). all within (take k (held_by held).bends)) (bends_held held R.long R.sheet.rows) ∙ sym R.kept)

  told : (t : Bool) → sound_arrays held ≡ t → t ≡ eqb (read_file s).number 0
  told true e = sym (eq-eqb (read_file s).number 0 (ap (λ (j : Judgement). j.number) (file_whole s held R.sheet e)))
  told false e = sym (no_number s (file_fault s held R.sheet e))

  pub rows_right : g ≡ true → (t : Bool) → t ≡ walk_right false held → t ≡ eqb (read_file s).number 0
  rows_right y t e = told t (rows_decide ∙ and_true _ y ∙ sym e)

  pub rows_bent : g ≡ false → false ≡ eqb (read_file s).number 0
  rows_bent n = told false (rows_decide ∙ and_false _ n)

-- ---- a refusal
pub not_in : (s : List ℕ) (a b : Arrays) → b ≡ a → eqb (read_file s).number 0 ≡ false → ReadIn s a b 10
not_in s a b same n =
    let e = read_refused s (eqb-false (read_file s).number 0 n) in
    record {
      number = ap (λ (j : Judgement). j.number) (sym e);
      back = λ z. same;
      sheet = λ z. absurd (omega (arith, z));
      sound = λ z. absurd (omega (arith, z));
    }
