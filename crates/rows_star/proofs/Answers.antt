-- What star answers, from the rows of a sound drawing. Assumes nothing.
use Prim.Native.Nat.{ℕ, suc, ◌<◌, ◌≤◌}
use mathlib.Core.Path.{◌≡◌, refl, ap, ap₂, sym, ◌∙◌}
use mathlib.Core.List.{List, [], ◌∷◌}
use mathlib.Core.Bool.{Bool, true, false, cond}
use native.Mathlib.Omega.{arith}
use lib.Dec.{T, eqb, ltb, leb-suc-suc}
use lib.ListN.{length, take}
use borrow.Author.Tests.{lt-ltb, le-ltb}
use Rattle.complex.specs.Cells.{LiveCell, lookup, some_if, cell_at, is_live}
use Rattle.complex.specs.Sound.{sound}
use Rattle.complex.specs.Boundary.{star}
use Rattle.complex.specs.Calls.{filled, unfilled, star_call}
use Rattle.complex.proofs.Bools.{true_of}
use Rattle.store.specs.declared.Drawing.{Drawing}
use Rattle.store.specs.declared.Index.{Index}
use Rattle.store.specs.Sizes.{Sizes}
use Rattle.store.specs.View.{sheet_of}
use Rattle.store.specs.Index.{row_of, Indexes}
use Rattle.sound.specs.Soundness.{sound_drawing}
use Rattle.sound.proofs.Parts.{id_row}
use Rattle.sound.proofs.Meaning.{sound_fits, sound_sheet_lem, ids_are, looks}
use Rattle.rows_star.specs.Marks.{star_marks, Readable, picked}
use Rattle.rows_star.specs.Calls.{star_in, star_of}
use Rattle.rows_star.proofs.Meaning.{readable, star_meant}

-- ---- question 4, of the rows
module _ (is ks ss es cs ns st : List ℕ) (i : ℕ) (buffer : List ℕ) (r : ℕ) (e : r ≡ row_of i is) where
  pub row_found : r < length is → (ms : List Bool) → ms ≡ star_marks is ks ss es cs ns st i → filled (picked ms is) buffer ≡ star_in is ks ss es cs ns st i buffer
  row_found h ms g =
      ap (λ (m : List Bool). filled (picked m is) buffer) g
      ∙ sym (ap (λ (b : Bool). cond b (filled (picked (star_marks is ks ss es cs ns st i) is) buffer) (unfilled 4 buffer))
      (lt-ltb (row_of i is) (length is) (omega arith)))

  pub row_missing : length is ≤ r → unfilled 4 buffer ≡ star_in is ks ss es cs ns st i buffer
  row_missing h =
      sym (ap (λ (b : Bool). cond b (filled (picked (star_marks is ks ss es cs ns st i) is) buffer) (unfilled 4 buffer))
      (le-ltb (row_of i is) (length is) (omega arith)))

-- an id with a row is live
live_row : (xs : List LiveCell) (i : ℕ) → ltb (row_of i (id_row xs)) (length (id_row xs)) ≡ is_live (lookup xs i)
live_row [] i = refl
live_row (x ∷ xs) i = go (eqb x.id i) (live_row xs i)
  where
    go : (b : Bool) → ltb (row_of i (id_row xs)) (length (id_row xs)) ≡ is_live (lookup xs i)
        → ltb (cond b 0 (suc (row_of i (id_row xs)))) (suc (length (id_row xs))) ≡ is_live (some_if b x.figure (lookup xs i))
    go true h = lt-ltb 0 (suc (length (id_row xs))) (omega arith)
    go false h = leb-suc-suc (suc (row_of i (id_row xs))) (length (id_row xs)) ∙ h

-- ---- a sound one
-- the answer is that to its sheet
pub star_of_sheet : (d : Drawing) → T (sound_drawing d) → (i : ℕ) (buffer : List ℕ) → star_of d i buffer ≡ star_call (sheet_of d) i buffer
unfolding star_of
star_of_sheet d s i buffer = ap (λ (b : Bool). cond b (star_call (sheet_of d) i buffer) (unfilled 1 buffer)) (true_of (sound_drawing d) s)

module _ (d : Drawing) (z : Sizes d) (t : Index) (x : Indexes d t) (s : T (sound_drawing d)) where
  pub sound_rows : Readable t.ids t.kinds t.starts t.ends t.cycles d.count d.cycles d.steps
  sound_rows = readable d z (sound_fits d s) t x (looks d z t x s).rising

  sheet_sound : sound (sheet_of d) ≡ true
  sheet_sound = true_of (sound (sheet_of d)) (sound_sheet_lem d s)

  row_live : (i : ℕ) → ltb (row_of i (take d.count t.ids)) (length (take d.count t.ids)) ≡ is_live (cell_at (sheet_of d) i)
  row_live i = ap (λ (l : List ℕ). ltb (row_of i l) (length l)) (ids_are d z (sound_fits d s) t x) ∙ live_row (sheet_of d).cells i

  star_called : (i : ℕ) (buffer : List ℕ) → cond (is_live (cell_at (sheet_of d) i)) (filled (star (sheet_of d).cells i) buffer) (unfilled 4 buffer)
      ≡ star_call (sheet_of d) i buffer
  unfolding star_call
  star_called i buffer =
      sym (ap (λ (b : Bool). cond b (cond (is_live (cell_at (sheet_of d) i)) (filled (star (sheet_of d).cells i) buffer) (unfilled 4 buffer)) (unfilled 1 buffer))
      sheet_sound)

  pub star_answer : (i : ℕ) (buffer : List ℕ)
      → star_in (take d.count t.ids) (take d.count t.kinds) (take d.count t.starts) (take d.count t.ends) (take d.count t.cycles)
      d.cycles d.steps i buffer ≡ star_of d i buffer
  star_answer i buffer =
      ap₂ (λ (b : Bool) (l : List ℕ). cond b (filled l buffer) (unfilled 4 buffer)) (row_live i) (star_meant d z (sound_fits d s) t x i)
      ∙ star_called i buffer
      ∙ sym (star_of_sheet d s i buffer)
