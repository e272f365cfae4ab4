-- The soundness test of a struct, cell by cell: its verdict is that of soundness, and it ends at the first fault. Assumes nothing.
use Prim.Native.Nat.{ℕ, zero, suc, ◌≤◌}
use mathlib.Core.Path.{◌≡◌, refl, ap, ap₂, sym, ◌∙◌}
use mathlib.Core.Bool.{true, ◌&&◌, cond}
use native.Mathlib.Omega.{arith}
use lib.Dec.{leb}
use lib.ListN.{length, take}
use borrow.Author.Tests.{le-leb, leb-true}
use Rattle.complex.specs.Sound.{cells_most, cycles_most, steps_most, bends_most, ids_end}
use Rattle.complex.specs.Visits.{bounds_right, right, visits, visited}
use Rattle.complex.proofs.Bools.{truth, both_true}
use Rattle.complex.proofs.Visits.{Below, visits_same, judged, sound_rights, rights_sound}
use Rattle.store.specs.declared.Cell.{Cell}
use Rattle.store.specs.declared.Drawing.{Drawing}
use Rattle.store.specs.Sizes.{Sizes}
use Rattle.store.specs.View.{sheet_of, Fits, width, bend_count, cycle_count, bend_sum, cycle_sum, width_sum}
use Rattle.store.proofs.Lists.{sum_le}
use Rattle.sound.specs.Soundness.{fits_upto, fits_in, sound_sheet, sound_drawing}
use Rattle.sound.specs.Visits.{right_in, visited_in, StructFaults}
use Rattle.sound.proofs.Testing.{and_true}
use Rattle.sound.proofs.Meaning.{fits_is}
use Rattle.sound.proofs.Cellwise.{sheet_count}

module _ (d : Drawing) where
  next_is : (sheet_of d).next ≡ d.next
  unfolding sheet_of
  next_is = refl

  -- counts that keep within the arrays do so up to each cell
  fits_less : Fits d → (k : ℕ) → k ≤ d.count → fits_upto d k ≡ true
  fits_less f k h =
      let b = sum_le (λ (c : Cell). bend_count c.shape) d.cells k d.count h in
      let c = sum_le (λ (c : Cell). cycle_count c.shape) d.cells k d.count h in
      let s = sum_le width d.cycles (cycle_sum (take k d.cells)) (cycle_sum (take d.count d.cells)) (omega (arith, c)) in
      ap₂ ◌&&◌ (le-leb (bend_sum (take k d.cells)) bends_most (omega (arith, b, f.bends)))
      (ap₂ ◌&&◌ (le-leb (cycle_sum (take k d.cells)) cycles_most (omega (arith, c, f.cycles)))
      (le-leb (width_sum (take (cycle_sum (take k d.cells)) d.cycles)) steps_most (omega (arith, s, f.steps))))

  fits_all : Below (right_in d) d.count → (n : ℕ) → d.count ≡ n → fits_upto d d.count ≡ true
  fits_all f zero e = ap (fits_upto d) e
  fits_all f (suc n) e = ap (fits_upto d) e ∙ (both_true (fits_upto d (suc n)) (right (sheet_of d) n) (f n (omega (arith, e)))).0

  module _ (z : Sizes d) where
    -- the bounds of the drawing are those of the struct
    bounds_same : d.count ≤ cells_most → bounds_right (sheet_of d).next (length (sheet_of d).cells) ≡ bounds_right d.next d.count
    bounds_same few = ap₂ bounds_right next_is (sheet_count d z few)

    rights : sound_drawing d ≡ true → (bounds_right d.next d.count ≡ true) × Below (right_in d) d.count
    rights e =
        let b = both_true (fits_in d) (sound_sheet d) e in
        let f = fits_is d (truth b.0) in
        let r = sound_rights (sheet_of d) b.1 in
        let n = sheet_count d z f.cells in (
          sym (bounds_same f.cells) ∙ r.0,
          λ i h. ap₂ ◌&&◌ (fits_less f (suc i) (omega (arith, h))) (r.1 i (omega (arith, h, n))),
        )

    enough : bounds_right d.next d.count ≡ true → Below (right_in d) d.count → sound_drawing d ≡ true
    enough b r =
        let q = both_true (leb d.next ids_end) (leb d.count cells_most) (both_true (leb 1 d.next) _ b).1 in
        let few = leb-true d.count cells_most q.1 in
        let n = sheet_count d z few in
        ap₂ ◌&&◌ (ap₂ ◌&&◌ q.1 (fits_all r d.count refl))
        (rights_sound (sheet_of d) (bounds_same few ∙ b)
        (λ i h. (both_true (fits_upto d (suc i)) (right (sheet_of d) i) (r i (omega (arith, h, n)))).1))

    -- a struct whose counts keep within its arrays is visited as its drawing is
    pub visited_fits : Fits d → visited_in d ≡ visited (sheet_of d)
    visited_fits f =
        ap (λ (n : ℕ). cond (bounds_right d.next d.count) n 0)
        (visits_same (right_in d) (right (sheet_of d)) d.count (λ i h g. and_true _ (fits_less f (suc i) (omega (arith, h)))))
        ∙ ap₂ (λ (m n : ℕ). cond (bounds_right m n) (visits (right (sheet_of d)) 0 n) 0) (sym next_is) (sym (sheet_count d z f.cells))

pub struct_judged : StructFaults
struct_judged d z = judged (bounds_right d.next d.count) (right_in d) d.count (sound_drawing d) (rights d z) (enough d z)
