-- The rows of two edges and a bare one go, and the edges' bends to the end. Assumes nothing.
use Prim.Native.Nat.{ℕ, ◌+◌, ◌-◌, ◌<◌, ◌≤◌}
use native.Mathlib.Omega.{arith}
use mathlib.Core.Path.{◌≡◌, refl, sym, ap, ap₂, ◌∙◌, subst}
use mathlib.Core.Bool.{Bool, true, cond}
use mathlib.Core.List.{List}
use lib.Dec.{ltb}
use lib.Ieee.{Float}
use lib.ListN.{length, get_or, take, drop}
use lib.Seq.{get_or-take, take-take, length-take-le}
use Rattle.complex.specs.Lists.{total}
use Rattle.store.specs.View.{Fits}
use Rattle.store.specs.Edits.{kept, places_of, PlacesKept, CyclesKept}
use Rattle.answer.specs.Late.{Summed}
use Rattle.answer.proofs.Laws.{summed}
use Rattle.lent.specs.Arrays.{Arrays, positions_in, held_by, rows_by, normal, Lengths}
use Rattle.lent.proofs.Held.{held_sizes, held_indexes, positions_length}
use Rattle.kernel_bends.specs.Turned.{rotated}
use Rattle.kernel_bends.proofs.Last.{rotated_length}
use Rattle.kernel_bends.proofs.Positions.{positions_rotated}
use Rattle.kernel_keep.specs.Keeps.{RowsKept}
use Rattle.kernel_drop.specs.Gone.{EdgeRow}
use Rattle.kernel_drop.specs.Three.{ThreeRows, ThreeGone}
use Rattle.kernel_keep.proofs.Rows.{keeps, count_by}
use Rattle.kernel_drop.proofs.Gone.{row_range, row_below}
use Rattle.kernel_drop.proofs.Three.{three_dead, three_front, three_length, cycles_three, lt_range, second_range, three_kept, three_last, three_less}

module _ (a : Arrays) (l : Lengths a) (f : Fits (held_by a)) (n : normal a ≡ true) (row1 base1 m1 row2 base2 m2 bare t : ℕ)
    (r : ThreeRows a row1 base1 m1 row2 base2 m2 bare t) where
  sums : Summed a.bends a.counts a.count a.cycles
  sums = summed (held_by a) (held_sizes a l) f (rows_by a) (held_indexes a l n)

  abbrev cs : List ℕ
  cs = take a.count a.bends

  cs_length : length (take a.count a.bends) ≡ a.count
  cs_length = length-take-le a.count a.bends sums.bend_rows

  row_in : (row base m : ℕ) → EdgeRow a row base m t → row < length (take a.count a.bends)
  row_in row base m e = omega (arith, cs_length, e.below)

  base_is : (row base m : ℕ) → EdgeRow a row base m t → base ≡ total (places_of 0) (take row (take a.count a.bends))
  base_is row base m e = e.from ∙ ap (total (places_of 0)) (sym (take-take row a.count a.bends (omega (arith, e.below))))

  own_is : (row base m : ℕ) → EdgeRow a row base m t → m ≡ get_or (take a.count a.bends) row 0
  own_is row base m e = e.own ∙ sym (get_or-take a.count a.bends row 0 e.below)

  bare_is : get_or (take a.count a.bends) bare 0 ≡ 0
  bare_is = get_or-take a.count a.bends bare 0 r.bare_in ∙ r.bare_bends

  pub three_below : (row1 < 256) × ((row2 < 256) × (bare < 256))
  three_below = (row_below a l f n row1 base1 m1 t r.one, (row_below a l f n row2 base2 m2 t r.two, omega (arith, r.bare_in, f.cells)))

  pub three_range : (base1 + m1 ≤ t) × (t ≤ 2048)
  three_range = row_range a l f n row1 base1 m1 t r.one

  pub falls : row1 < row2 → m1 ≤ base2
  falls h =
      let k =
      lt_range cs row1 base1 m1 row2 base2 m2 bare t (cond (ltb row1 row2) (base2 - m1) base2) (row_in row1 base1 m1 r.one)
      (row_in row2 base2 m2 r.two) r.apart bare_is
      (base_is row1 base1 m1 r.one) (own_is row1 base1 m1 r.one) (base_is row2 base2 m2 r.two) (own_is row2 base2 m2 r.two) r.one.all refl h in
      omega (arith, k)

  module _ (b2 : ℕ) (eb : b2 ≡ cond (ltb row1 row2) (base2 - m1) base2) where
    pub second_fits : b2 + m2 ≤ t
    second_fits =
        let k =
        second_range cs row1 base1 m1 row2 base2 m2 bare t b2 (row_in row1 base1 m1 r.one) (row_in row2 base2 m2 r.two) r.apart bare_is
        (base_is row1 base1 m1 r.one) (own_is row1 base1 m1 r.one) (base_is row2 base2 m2 r.two) (own_is row2 base2 m2 r.two) r.one.all eb in
        omega (arith, k)

    module _ (b : Arrays) (lb : Lengths b) (dead : List Bool) (ed : dead ≡ three_dead 256 row1 row2 bare) (en : b.next ≡ a.next)
        (k : RowsKept dead a.count a b b.count)
        (bx : b.bx ≡ rotated b2 (b2 + m2) t (rotated base1 (base1 + m1) t a.bx))
        (by : b.by ≡ rotated b2 (b2 + m2) t (rotated base1 (base1 + m1) t a.by))
        (ec : b.cycles ≡ a.cycles) (es : b.steps ≡ a.steps) where
      front : take a.count (three_dead 256 row1 row2 bare) ≡ three_dead (length (take a.count a.bends)) row1 row2 bare
      front = three_front a.count row1 row2 bare f.cells r.one.below r.two.below r.bare_in
          ∙ ap (λ (u : ℕ). three_dead u row1 row2 bare) (sym cs_length)

      kept_rows : RowsKept (three_dead 256 row1 row2 bare) a.count a b b.count
      kept_rows = subst (λ (q : List Bool). RowsKept q a.count a b b.count) ed k

      places : (l₀ l₁ : List Float) → length l₀ ≡ 2048 → l₁ ≡ rotated b2 (b2 + m2) t (rotated base1 (base1 + m1) t l₀)
          → PlacesKept 0 (take a.count (three_dead 256 row1 row2 bare)) cs l₀ l₁
      places l₀ l₁ e q =
          let x =
          three_kept cs row1 base1 m1 row2 base2 m2 bare t b2 (row_in row1 base1 m1 r.one) (row_in row2 base2 m2 r.two) r.apart bare_is
          (base_is row1 base1 m1 r.one) (own_is row1 base1 m1 r.one) (base_is row2 base2 m2 r.two) (own_is row2 base2 m2 r.two)
          r.one.all eb l₀ (omega (arith, e, three_range.1)) in
          subst (λ (w : List Float). PlacesKept 0 (take a.count (three_dead 256 row1 row2 bare)) cs l₀ w) (sym q)
          (subst (λ (w : List Bool). PlacesKept 0 w cs l₀ (rotated b2 (b2 + m2) t (rotated base1 (base1 + m1) t l₀))) (sym front) x)

      cycles : CyclesKept (take a.count (three_dead 256 row1 row2 bare)) (take a.count a.counts) a.cycles a.steps b.cycles b.steps
      cycles =
          let ds = take a.count a.counts in
          let ld : length (take a.count a.counts) ≡ a.count = length-take-le a.count a.counts sums.cycle_rows in
          let at : (row : ℕ) → row < a.count → get_or a.counts row 0 ≡ 0 → get_or (take a.count a.counts) row 0
          ≡ 0 = λ row h e. get_or-take a.count a.counts row 0 h ∙ e in
          let x =
          cycles_three ds row1 row2 bare a.cycles a.steps (at row1 r.one.below r.one.none) (at row2 r.two.below r.two.none)
          (at bare r.bare_in r.bare_cycles)
          (omega (arith, sums.cycle_sum, l.cycles)) (omega (arith, sums.step_sum, l.steps)) in
          let p = three_front a.count row1 row2 bare f.cells r.one.below r.two.below r.bare_in
          ∙ ap (λ (u : ℕ). three_dead u row1 row2 bare) (sym ld) in
          subst (λ (w : List Bool). CyclesKept w ds a.cycles a.steps b.cycles b.steps) (sym p)
          (subst (λ (w : List ℕ). CyclesKept (three_dead (length ds) row1 row2 bare) ds a.cycles a.steps w b.steps) (sym ec)
          (subst (λ (w : List ℕ). CyclesKept (three_dead (length ds) row1 row2 bare) ds a.cycles a.steps a.cycles w) (sym es) x))

      left : take b.count b.bends ≡ kept (three_dead (length (take a.count a.bends)) row1 row2 bare) (take a.count a.bends)
      left =
          ap (λ (u : ℕ). take u b.bends) (count_by (three_dead 256 row1 row2 bare) a b l lb (three_length 256 row1 row2 bare) f.cells
          b.count kept_rows a.bends l.bends)
          ∙ kept_rows.bends.front ∙ ap (λ (w : List Bool). kept w cs) front

      both : positions_in b.bx b.by ≡ rotated b2 (b2 + m2) t (rotated base1 (base1 + m1) t (positions_in a.bx a.by))
      both =
          let g = three_range in
          let e : length a.bx ≡ length a.by = l.bx ∙ sym l.by in
          let lx = rotated_length base1 (base1 + m1) t a.bx (omega arith) g.0 (omega (arith, l.bx, g.1)) in
          let ly = rotated_length base1 (base1 + m1) t a.by (omega arith) g.0 (omega (arith, l.by, g.1)) in
          ap₂ positions_in bx by
          ∙ positions_rotated b2 (b2 + m2) t (rotated base1 (base1 + m1) t a.bx) (rotated base1 (base1 + m1) t a.by) (lx ∙ e ∙ sym ly)
          (omega arith) second_fits (omega (arith, lx, l.bx, g.1))
          ∙ ap (rotated b2 (b2 + m2) t) (positions_rotated base1 (base1 + m1) t a.bx a.by e (omega arith) g.0 (omega (arith, l.bx, g.1)))

      pub three_gone : ThreeGone a row1 base1 m1 row2 base2 m2 bare t b
      three_gone =
          let g = three_range in
          record {
            keeps =
                keeps (three_dead 256 row1 row2 bare) a b l lb (three_length 256 row1 row2 bare) f n en kept_rows
                (record { xs = places a.bx b.bx l.bx bx; ys = places a.by b.by l.by by }) cycles;
            long = lb;
            last =
                ap (drop (t - m1 - m2)) both
                ∙ three_last cs row1 base1 m1 row2 base2 m2 bare t b2 (row_in row1 base1 m1 r.one) (row_in row2 base2 m2 r.two) r.apart bare_is
                (base_is row1 base1 m1 r.one) (own_is row1 base1 m1 r.one) (base_is row2 base2 m2 r.two) (own_is row2 base2 m2 r.two)
                r.one.all eb
                (positions_in a.bx a.by) (omega (arith, g.1, positions_length a.bx a.by (l.bx ∙ sym l.by), l.bx));
            less =
                ap (total (places_of 0)) left
                ∙ three_less cs row1 base1 m1 row2 base2 m2 bare t b2 (row_in row1 base1 m1 r.one) (row_in row2 base2 m2 r.two) r.apart bare_is
                (base_is row1 base1 m1 r.one) (own_is row1 base1 m1 r.one) (base_is row2 base2 m2 r.two) (own_is row2 base2 m2 r.two)
                r.one.all eb;
          }
