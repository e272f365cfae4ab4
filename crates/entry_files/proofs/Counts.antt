-- How much the calls count at the most. Assumes nothing.
use Prim.Native.Nat.{ℕ, suc, ◌≤◌}
use native.Mathlib.Omega.{arith}
use mathlib.Core.Path.{◌≡◌, refl, sym, ap, ◌∙◌}
use mathlib.Core.Bool.{Bool, true, false, ◌&&◌, cond}
use mathlib.Core.List.{List, [], ◌∷◌}
use lib.Dec.{T, leb, leb→le}
use lib.ListN.{length, length-map}
use Rattle.complex.specs.Lists.{filter, cons_if}
use Rattle.complex.specs.Cells.{LiveCell, Sheet, lookup, cell_at, is_live}
use Rattle.complex.specs.Sound.{cells_most, cycles_most, steps_most, bends_most, cycles_in, steps_in, bends_in, over, sound}
use Rattle.complex.specs.Boundary.{bounds, star}
use Rattle.complex.specs.File.{file_of}
use Rattle.complex.specs.Calls.{Filled, unfilled, filled, star_call, write_call}
use Rattle.complex.proofs.Bools.{truth, both}
use Rattle.complex.proofs.Keep.{sound_parts}
use Rattle.store.specs.View.{sheet_of}
use Rattle.sound.proofs.Meaning.{sound_sheet_lem}
use Rattle.answer.specs.declared.Totals.{Totals}
use Rattle.lent.specs.Arrays.{Arrays, held_by, sound_arrays, totals_of, Lengths}
use Rattle.lent.specs.Replies.{Ready}
use Rattle.lent.proofs.Replies.{drawing_of}
use Rattle.lent.proofs.Sums.{ready_drawing}
use Rattle.call_asked.specs.Entries.{star_on, write_on}
use Rattle.call_cells.proofs.Files.{length_small, call_is}

either_most : (b : Bool) (y z : Filled) (n : ℕ) → y.count ≤ n → z.count ≤ n → (cond b y z).count ≤ n
either_most true y z n p q = p
either_most false y z n p q = q

-- a call that fills a buffer counts what it fills it with
pub filled_count : (xs l : List ℕ) → (filled xs l).count ≡ length xs
filled_count xs l =
    go (leb (length xs) (length l)) (record { number = 0; count = length xs; buffer = _ })
    (record { number = 9; count = length xs; buffer = l }) refl refl
  where
    go : (b : Bool) (y z : Filled) → y.count ≡ length xs → z.count ≡ length xs → (cond b y z).count ≡ length xs
    go true y z p q = p
    go false y z p q = q

one_more : {A : Type 0} (b : Bool) (x : A) (l : List A) → length (cons_if b x l) ≤ suc (length l)
one_more true x l = omega arith
one_more false x l = omega arith

some_most : {A : Type 0} (p : A → Bool) (xs : List A) → length (filter p xs) ≤ length xs
some_most p [] = omega arith
some_most p (x ∷ xs) =
    let h = some_most p xs in
    let g = one_more (p x) x (filter p xs) in
    omega arith

cells_few : (s : Sheet) → T (sound s) → length s.cells ≤ cells_most
cells_few s t =
    let c = s.cells in
    leb→le (length c) cells_most
    (both (leb (length c) cells_most) (leb (over cycles_in c) cycles_most && (leb (over steps_in c) steps_most && leb (over bends_in c) bends_most))
    (sound_parts s t).fits).0

star_most : (s : Sheet) (i : ℕ) → length (star s.cells i) ≤ length s.cells
star_most s i =
    let p : LiveCell → Bool = λ (c : LiveCell). bounds (lookup s.cells) i c.figure in
    let e = length-map (filter p s.cells) (λ (c : LiveCell). c.id) in
    let h = some_most p s.cells in
    omega arith

-- a star has at most 256 ids
pub star_count : (s : Sheet) → T (sound s) → (i : ℕ) (l : List ℕ) → (star_call s i l).count ≤ cells_most
unfolding star_call
star_count s t i l =
    let h = star_most s i in
    let g = cells_few s t in
    let e = filled_count (star s.cells i) l in
    either_most (sound s) (cond (is_live (cell_at s i)) (filled (star s.cells i) l) (unfilled 4 l)) (unfilled 1 l) cells_most
    (either_most (is_live (cell_at s i)) (filled (star s.cells i) l) (unfilled 4 l) cells_most (omega arith) (omega arith))
    (omega arith)

-- of sound arrays
module _ (a : Arrays) (t : Totals) (r : Ready a t) where
  pub star_few : (i : ℕ) (l : List ℕ) → (star_call (sheet_of (held_by a)) i l).count ≤ cells_most
  star_few = star_count (sheet_of (held_by a)) (sound_sheet_lem (held_by a) (ready_drawing a t r))

  pub write_few : (l : List ℕ) → (write_call (sheet_of (held_by a)) l).count ≤ 65536
  write_few l =
      let e = ap (λ (x : Filled). x.count) (sym (call_is a t r l)) ∙ filled_count (file_of (sheet_of (held_by a))) l in
      let h = length_small a t r in
      omega arith

-- ---- of any arrays
pub star_on_few : (a : Arrays) (i : ℕ) (l : List ℕ) → (star_on a i l).count ≤ cells_most
star_on_few a i l = go (sound_arrays a) refl
  where
    go : (b : Bool) → sound_arrays a ≡ b → (cond b (star_call (sheet_of (held_by a)) i l) (unfilled 1 l)).count ≤ cells_most
    go true e = star_count (sheet_of (held_by a)) (sound_sheet_lem (held_by a) (drawing_of a (truth e))) i l
    go false e = omega arith

pub write_on_few : (a : Arrays) → Lengths a → (l : List ℕ) → (write_on a l).count ≤ 65536
write_on_few a h l = go (sound_arrays a) refl
  where
    go : (b : Bool) → sound_arrays a ≡ b → (cond b (write_call (sheet_of (held_by a)) l) (unfilled 1 l)).count ≤ 65536
    go true e = write_few a (totals_of a) (record { sound = truth e; long = h; sums = refl }) l
    go false e = omega arith
