-- An edge's row goes, and its bends to the end. Assumes nothing.
use Prim.Native.Nat.{ℕ, suc, ◌+◌, ◌-◌, ◌<◌, ◌≤◌}
use native.Mathlib.Omega.{arith}
use mathlib.Core.Path.{◌≡◌, refl, sym, ap, ap₂, ◌∙◌, subst}
use mathlib.Core.Bool.{Bool, true, false}
use mathlib.Core.List.{List, ◌∷◌, ◌++◌}
use lib.Ieee.{Float}
use lib.ListN.{length, get_or, set, take, drop, replicate, length-set, length-replicate}
use lib.Seq.{get_or-take, take-take, length-take-le}
use Rattle.coordinate.specs.declared.Position.{Position}
use Rattle.complex.specs.Lists.{total}
use Rattle.store.specs.View.{Fits}
use Rattle.store.specs.Edits.{kept, places_of, PlacesKept, CyclesKept}
use Rattle.store.proofs.Lists.{sum_append}
use Rattle.rows_new.specs.Runs.{run_at}
use Rattle.answer.specs.Late.{Summed}
use Rattle.answer.proofs.Laws.{summed}
use Rattle.lent.specs.Arrays.{Arrays, positions_in, held_by, rows_by, normal, Lengths}
use Rattle.lent.proofs.Held.{held_sizes, held_indexes, positions_set}
use Rattle.kernel_bends.specs.Turned.{rotated, moved_last}
use Rattle.kernel_bends.proofs.Turning.{rotated_none}
use Rattle.kernel_bends.proofs.Last.{joined_last}
use Rattle.kernel_bends.proofs.Positions.{positions_rotated}
use Rattle.kernel_keep.specs.Keeps.{RowsKept, Keeps}
use Rattle.kernel_drop.specs.Gone.{EdgeRow, RowGone, BareRow, PairGone}
use Rattle.kernel_keep.proofs.Rows.{keeps, count_by}
use Rattle.kernel_drop.proofs.Dead.{one_dead, dead_front, rows_one, total_row, places_zero}
use Rattle.kernel_drop.proofs.Dead.{cycles_stay, pair_front, total_bare, places_bare, cycles_bare, twice_kept, joined_kept}

-- what packing the rows asks for
pub pack_asks : {a : Arrays} → Lengths a → a.count ≤ 256 → (dead : List Bool) → length dead ≡ 256
    → (a.count ≤ 256) × ((a.count ≤ length dead) × ((length a.ids ≡ 256) × (length a.kinds ≡ 256) × (length a.starts ≡ 256)
    × (length a.ends ≡ 256) × (length a.bends ≡ 256) × (length a.counts ≡ 256) × (length a.px ≡ 256) × (length a.py ≡ 256)))
pack_asks l h dead e = (h, (omega arith, (l.ids, l.kinds, l.starts, l.ends, l.bends, l.counts, l.px, l.py)))

pub one_long : {dead : List Bool} (row : ℕ) → dead ≡ set (replicate 256 false) row true → length dead ≡ 256
one_long row e = ap length e ∙ length-set (replicate 256 false) row true ∙ length-replicate 256 false

module _ (a : Arrays) (l : Lengths a) (f : Fits (held_by a)) (n : normal a ≡ true) (row base m t : ℕ) (r : EdgeRow a row base m t) where
  sums : Summed a.bends a.counts a.count a.cycles
  sums = summed (held_by a) (held_sizes a l) f (rows_by a) (held_indexes a l n)

  abbrev cs : List ℕ
  cs = take a.count a.bends

  cs_length : length cs ≡ a.count
  cs_length = length-take-le a.count a.bends sums.bend_rows

  row_in : row < length cs
  row_in = omega (arith, cs_length, r.below)

  base_is : base ≡ total (places_of 0) (take row cs)
  base_is = r.from ∙ ap (total (places_of 0)) (sym (take-take row a.count a.bends (omega (arith, r.below))))

  own_is : m ≡ get_or cs row 0
  own_is = r.own ∙ sym (get_or-take a.count a.bends row 0 r.below)

  pub row_range : (base + m ≤ t) × (t ≤ 2048)
  row_range =
      let k = total_row cs row row_in in
      let y = places_zero (get_or cs row 0) in
      (omega (arith, k, y, base_is, own_is, r.all), omega (arith, r.all, sums.bend_sum))

  pub row_below : row < 256
  row_below = omega (arith, r.below, f.cells)

  module _ (i j : ℕ) (hi : i ≤ j) (hj : j ≤ m) (b : Arrays) (lb : Lengths b) (dead : List Bool) (ed : dead ≡ set (replicate 256 false) row true)
      (en : b.next ≡ a.next) (k : RowsKept dead a.count a b b.count)
      (bx : b.bx ≡ moved_last base m i j t a.bx) (by : b.by ≡ moved_last base m i j t a.by) (ec : b.cycles ≡ a.cycles) (es : b.steps ≡ a.steps) where
    lf : length (set (replicate 256 false) row true) ≡ 256
    lf = length-set (replicate 256 false) row true ∙ length-replicate 256 false

    front : take a.count (set (replicate 256 false) row true) ≡ one_dead a.count row
    front = dead_front a.count row f.cells r.below

    kept_rows : RowsKept (set (replicate 256 false) row true) a.count a b b.count
    kept_rows = subst (λ (q : List Bool). RowsKept q a.count a b b.count) ed k

    places : (l₀ l₁ : List Float) → length l₀ ≡ 2048 → l₁ ≡ moved_last base m i j t l₀
        → PlacesKept 0 (take a.count (set (replicate 256 false) row true)) cs l₀ l₁
    places l₀ l₁ e q =
        let g = row_range in
        let x = twice_kept base m i j t l₀ hi hj g.0 (omega (arith, e, g.1)) cs row row_in base_is own_is r.all in
        subst (λ (w : List Float). PlacesKept 0 (take a.count (set (replicate 256 false) row true)) cs l₀ w) (sym q)
        (subst (λ (w : List Bool). PlacesKept 0 w cs l₀ (moved_last base m i j t l₀)) (ap (λ (u : ℕ). one_dead u row) cs_length ∙ sym front) x)

    cycles : CyclesKept (take a.count (set (replicate 256 false) row true)) (take a.count a.counts) a.cycles a.steps b.cycles b.steps
    cycles =
        let ds = take a.count a.counts in
        let ld : length (take a.count a.counts) ≡ a.count = length-take-le a.count a.counts sums.cycle_rows in
        let x = cycles_stay ds row a.cycles a.steps (get_or-take a.count a.counts row 0 r.below ∙ r.none)
        (omega (arith, sums.cycle_sum, l.cycles)) (omega (arith, sums.step_sum, l.steps)) in
        let p = ap (λ (u : ℕ). one_dead u row) ld ∙ sym front in
        subst (λ (w : List Bool). CyclesKept w ds a.cycles a.steps b.cycles b.steps) p
        (subst (λ (w : List ℕ). CyclesKept (one_dead (length ds) row) ds a.cycles a.steps w b.steps) (sym ec)
        (subst (λ (w : List ℕ). CyclesKept (one_dead (length ds) row) ds a.cycles a.steps a.cycles w) (sym es) x))

    left : take b.count b.bends ≡ take row cs ++ drop (suc row) cs
    left =
        ap (λ (u : ℕ). take u b.bends) (count_by (set (replicate 256 false) row true) a b l lb lf f.cells b.count kept_rows a.bends l.bends)
        ∙ kept_rows.bends.front
        ∙ ap (λ (w : List Bool). kept w cs) (front ∙ ap (λ (u : ℕ). one_dead u row) (sym cs_length)) ∙ rows_one cs row row_in

    pub row_gone : RowGone a row base m t i j b
    row_gone =
        record {
          keeps = keeps (set (replicate 256 false) row true) a b l lb lf f n en kept_rows
              (record { xs = places a.bx b.bx l.bx bx; ys = places a.by b.by l.by by }) cycles;
          long = lb;
          bx = bx;
          by = by;
          less =
              ap (total (places_of 0)) left ∙ sum_append (places_of 0) (take row cs) (drop (suc row) cs)
              ∙ omega (arith, total_row cs row row_in, places_zero (get_or cs row 0), base_is, own_is, r.all);
        }

  -- a row without bends goes too, and p is put after those in use
  module _ (bare : ℕ) (v : BareRow a bare) (ht : t < 2048) (p : Position) (b : Arrays) (lb : Lengths b) (dead : List Bool)
      (ed : dead ≡ set (set (replicate 256 false) bare true) row true) (en : b.next ≡ a.next)
      (k : RowsKept dead a.count a b b.count) (bx : b.bx ≡ rotated base (base + m) (t + 1) (set a.bx t p.x))
      (by : b.by ≡ rotated base (base + m) (t + 1) (set a.by t p.y))
      (ec : b.cycles ≡ a.cycles) (es : b.steps ≡ a.steps) where
    abbrev both : List Bool
    both = set (set (replicate 256 false) bare true) row true

    both_length : length both ≡ 256
    both_length = length-set (set (replicate 256 false) bare true) row true ∙ length-set (replicate 256 false) bare true ∙ length-replicate 256 false

    both_front : take a.count both ≡ set (one_dead a.count row) bare true
    both_front = pair_front a.count bare row f.cells v.below r.below

    both_rows : RowsKept both a.count a b b.count
    both_rows = subst (λ (q : List Bool). RowsKept q a.count a b b.count) ed k

    bare_own : get_or cs bare 0 ≡ 0
    bare_own = get_or-take a.count a.bends bare 0 v.below ∙ v.bends

    both_places : (l₀ l₁ : List Float) (x : Float) → length l₀ ≡ 2048 → l₁ ≡ rotated base (base + m) (t + 1) (set l₀ t x)
        → PlacesKept 0 (take a.count both) cs l₀ l₁
    both_places l₀ l₁ x e q =
        let g = row_range in
        let y = joined_kept base m t x l₀ g.0 (omega (arith, e, ht)) cs row row_in base_is own_is r.all in
        let y1 = places_bare (one_dead (length cs) row) cs bare l₀ (rotated base (base + m) (t + 1) (set l₀ t x)) bare_own y in
        subst (λ (w : List Float). PlacesKept 0 (take a.count both) cs l₀ w) (sym q)
        (subst (λ (w : List Bool). PlacesKept 0 w cs l₀ (rotated base (base + m) (t + 1) (set l₀ t x)))
        (ap (λ (u : ℕ). set (one_dead u row) bare true) cs_length ∙ sym both_front) y1)

    both_cycles : CyclesKept (take a.count both) (take a.count a.counts) a.cycles a.steps b.cycles b.steps
    both_cycles =
        let ds = take a.count a.counts in
        let ld : length (take a.count a.counts) ≡ a.count = length-take-le a.count a.counts sums.cycle_rows in
        let x = cycles_stay ds row a.cycles a.steps (get_or-take a.count a.counts row 0 r.below ∙ r.none)
        (omega (arith, sums.cycle_sum, l.cycles)) (omega (arith, sums.step_sum, l.steps)) in
        let y = cycles_bare (one_dead (length ds) row) ds bare a.cycles a.steps a.cycles a.steps
        (get_or-take a.count a.counts bare 0 v.below ∙ v.cycles) x in
        let o = ap (λ (u : ℕ). set (one_dead u row) bare true) ld ∙ sym both_front in
        subst (λ (w : List Bool). CyclesKept w ds a.cycles a.steps b.cycles b.steps) o
        (subst (λ (w : List ℕ). CyclesKept (set (one_dead (length ds) row) bare true) ds a.cycles a.steps w b.steps) (sym ec)
        (subst (λ (w : List ℕ). CyclesKept (set (one_dead (length ds) row) bare true) ds a.cycles a.steps a.cycles w) (sym es) y))

    both_left : total (places_of 0) (take b.count b.bends) ≡ total (places_of 0) (take row cs ++ drop (suc row) cs)
    both_left =
        ap (λ (u : ℕ). total (places_of 0) (take u b.bends)) (count_by both a b l lb both_length f.cells b.count both_rows a.bends l.bends)
        ∙ ap (total (places_of 0)) (both_rows.bends.front
        ∙ ap (λ (w : List Bool). kept w cs) (both_front ∙ ap (λ (u : ℕ). set (one_dead u row) bare true) (sym cs_length)))
        ∙ total_bare (one_dead (length cs) row) cs bare bare_own
        ∙ ap (total (places_of 0)) (rows_one cs row row_in)

    last_bends : run_at (t - m) (m + 1) (positions_in b.bx b.by) ≡ p ∷ run_at base m (positions_in a.bx a.by)
    last_bends =
        let g = row_range in
        let lx = length-set a.bx t p.x in
        let ly = length-set a.by t p.y in
        ap (run_at (t - m) (m + 1))
        (ap₂ positions_in bx by
        ∙ positions_rotated base (base + m) (t + 1) (set a.bx t p.x) (set a.by t p.y) (lx ∙ l.bx ∙ sym l.by ∙ sym ly) (omega arith)
        (omega (arith, g.0)) (omega (arith, lx, l.bx, ht))
        ∙ ap (rotated base (base + m) (t + 1)) (positions_set a.bx a.by t p))
        ∙ joined_last base m t p (positions_in a.bx a.by) g.0 (omega (arith, (held_sizes a l).bends, ht))

    pub pair_gone : PairGone a bare row base m t p b
    pair_gone =
        record {
          keeps =
              keeps both a b l lb both_length f n en both_rows
              (record { xs = both_places a.bx b.bx p.x l.bx bx; ys = both_places a.by b.by p.y l.by by }) both_cycles;
          long = lb;
          bends = last_bends;
          less =
              both_left ∙ sum_append (places_of 0) (take row cs) (drop (suc row) cs)
              ∙ omega (arith, total_row cs row row_in, places_zero (get_or cs row 0), base_is, own_is, r.all);
        }

-- ---- a row without bends
module _ {A : Type 0} where
  moved_none : (base t : ℕ) (l : List A) → base ≤ t → moved_last base 0 0 0 t l ≡ l
  moved_none base t l h =
      rotated_none (t - 0 + 0) (t - 0 + 0) t (rotated base (base + 0) t l) refl (omega arith) ∙ rotated_none base (base + 0) t l (omega arith) h

module _ (a : Arrays) (l : Lengths a) (f : Fits (held_by a)) (n : normal a ≡ true) (row : ℕ) (h : row < a.count) (ob : get_or a.bends row 0 ≡ 0)
    (oc : get_or a.counts row 0 ≡ 0)
    (b : Arrays) (lb : Lengths b) (dead : List Bool) (ed : dead ≡ set (replicate 256 false) row true) (en : b.next ≡ a.next)
    (k : RowsKept dead a.count a b b.count)
    (bx : b.bx ≡ a.bx) (by : b.by ≡ a.by) (ec : b.cycles ≡ a.cycles) (es : b.steps ≡ a.steps) where
  pub bare_gone : Keeps (set (replicate 256 false) row true) a b
  bare_gone =
      let base = total (places_of 0) (take row a.bends) in
      let t = total (places_of 0) (take a.count a.bends) in
      let r : EdgeRow a row base 0 t = record { below = h; from = refl; own = sym ob; none = oc; all = refl } in
      let g = row_range a l f n row base 0 t r in
      let hb : base ≤ t = omega (arith, g.0) in
      (row_gone a l f n row base 0 t r 0 0 (omega arith) (omega arith) b lb dead ed en k (bx ∙ sym (moved_none base t a.bx hb))
      (by ∙ sym (moved_none base t a.by hb)) ec es).keeps

-- the bends of a row are among those in use
pub range : {a : Arrays} {row base m t : ℕ} → Lengths a → Fits (held_by a) → normal a ≡ true → EdgeRow a row base m t → (base + m ≤ t) × (t ≤ 2048)
range {a} {row} {base} {m} {t} l f n r = row_range a l f n row base m t r
