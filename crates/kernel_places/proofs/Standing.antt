-- Where a cycle of a face stands in lent arrays. Assumes nothing.
use Prim.Native.Nat.{ℕ, ◌+◌, ◌<◌, ◌≤◌}
use mathlib.Core.Path.{◌≡◌, refl, sym, ap, subst, ◌∙◌}
use mathlib.Core.List.{List}
use lib.ListN.{length, take, drop, get_or}
use Rattle.store.specs.Index.{row_of, Rising}
use Rattle.store.specs.View.{width_sum}
use Rattle.rows_spans.specs.declared.Spans.{Spans}
use Rattle.rows_spans.specs.Runs.{spans_of}
use Rattle.answer.specs.declared.Totals.{Totals}
use Rattle.rows_corners.specs.Faces.{Spanned}
use Rattle.rows_corners.proofs.Rows.{live, finding, spanned}
use Rattle.rows_corners.proofs.Edits.{rows_in_lem}
use Rattle.rows_stretches.specs.declared.Place.{Place}
use Rattle.law_uncut_edge.specs.Needs.{Has, CycleFound}
use Rattle.law_uncut_edge.proofs.Finding.{index_in, place_asks, found}
use Rattle.lent.specs.Arrays.{Arrays, held_by, rows_by}
use Rattle.lent.specs.Replies.{Ready}
use Rattle.lent.proofs.Sums.{ready_sizes, ready_drawing, ready_indexes, ready_cells}
use Rattle.kernel_cycles.specs.Replacing.{RowCounted}
use Rattle.kernel_cycles.proofs.Ready.{ready_counted}
use Rattle.kernel_places.specs.Standing.{Among, HasBy, FoundBy, RowsIn}

-- ---- the arrays themselves
pub among : (a : Arrays) (t : Totals) → Ready a t → Among a.count a.ids a.counts a.cycles t a
among a t r = record { ready = r; same_count = refl; same_ids = refl; same_counts = refl; same_cycles = refl }

pub has_by : (a : Arrays) (t : Totals) → Ready a t → (f c : ℕ) → Has (held_by a) (rows_by a) f c → HasBy a.count a.ids a.counts a.cycles t f c
has_by a t r f c h = record { arrays = a; among = among a t r; has = h }

pub found_by : (a : Arrays) (t : Totals) → Ready a t → (f c : ℕ) → Has (held_by a) (rows_by a) f c
    → (p : Place) → FoundBy a.count a.ids a.counts a.cycles t f c p → CycleFound (held_by a) f c p
found_by a t r f c h p g = g.every a (among a t r) h

-- ---- in some arrays
module _ (a : Arrays) (t : Totals) (r : Ready a t) (f c : ℕ) (h : Has (held_by a) (rows_by a) f c) where
  module _ (row : ℕ) (e : row ≡ row_of f (take a.count a.ids)) where
    counted : RowCounted a.counts a.cycles row t
    counted =
        ready_counted a t r row (subst (λ (i : ℕ). i < a.count) (sym e) (live (held_by a) (ready_sizes a t r) (rows_by a) f h.named))

    module _ (s : Spans) (es : s ≡ spans_of a.counts t.cells row a.cycles) where
      spans_are : Spanned (held_by a) f s
      spans_are =
          spanned (held_by a) (ready_sizes a t r) (rows_by a) f h.named row s e
          (es ∙ ap (λ (n : ℕ). spans_of a.counts n row a.cycles) (ready_cells a t r))

      index_at : s.cycles.first + c < 512
      index_at = index_in (held_by a) (rows_by a) f c h s spans_are

      place_at_lem : (length a.cycles ≡ 512)
          × ((s.cycles.first + c ≤ 512) × (s.steps.first + width_sum (take c (drop s.cycles.first a.cycles)) ≤ 2048))
      place_at_lem = place_asks (held_by a) (rows_by a) f c h s spans_are

      found_at : (at m : ℕ) → at ≡ s.steps.first + width_sum (take c (drop s.cycles.first a.cycles))
          → m ≡ get_or a.cycles (s.cycles.first + c) 0
          → CycleFound (held_by a) f c (record { spans = s; cycle = c; count = m; at = at })
      found_at at m ea em = found (held_by a) (rows_by a) f c h s spans_are at m ea em

-- ---- by some of them
module _ (n : ℕ) (ids counts cycles : List ℕ) (t : Totals) where
  carried : (P : ℕ → List ℕ → List ℕ → List ℕ → Type 0) (a : Arrays) → Among n ids counts cycles t a
      → P a.count a.ids a.counts a.cycles → P n ids counts cycles
  carried P a m p =
      subst (P n ids counts) m.same_cycles
      (subst (λ (l : List ℕ). P n ids l a.cycles) m.same_counts
      (subst (λ (l : List ℕ). P n l a.counts a.cycles) m.same_ids (subst (λ (k : ℕ). P k a.ids a.counts a.cycles) m.same_count p)))

  back : (P : ℕ → List ℕ → List ℕ → List ℕ → Type 0) (a : Arrays) → Among n ids counts cycles t a
      → P n ids counts cycles → P a.count a.ids a.counts a.cycles
  back P a m p =
      subst (λ (k : ℕ). P k a.ids a.counts a.cycles) (sym m.same_count)
      (subst (λ (l : List ℕ). P n l a.counts a.cycles) (sym m.same_ids)
      (subst (λ (l : List ℕ). P n ids l a.cycles) (sym m.same_counts) (subst (P n ids counts) (sym m.same_cycles) p)))

  module _ (f c : ℕ) where
    pub find_by : HasBy n ids counts cycles t f c → (n ≤ 256) × ((length ids ≡ 256) × Rising (take n ids))
    find_by h =
        carried (λ (k : ℕ) (is cs cy : List ℕ). (k ≤ 256) × ((length is ≡ 256) × Rising (take k is))) h.arrays h.among
        (finding (held_by h.arrays) (ready_sizes h.arrays t h.among.ready) (rows_by h.arrays) f h.has.named)

    module _ (row : ℕ) (e : row ≡ row_of f (take n ids)) where
      pub counted_by : HasBy n ids counts cycles t f c → RowCounted counts cycles row t
      counted_by h =
          carried (λ (k : ℕ) (is cs cy : List ℕ). row ≡ row_of f (take k is) → RowCounted cs cy row t) h.arrays h.among
          (counted h.arrays t h.among.ready f c h.has row) e

      module _ (s : Spans) (es : s ≡ spans_of counts t.cells row cycles) where
        pub index_by : HasBy n ids counts cycles t f c → s.cycles.first + c < 512
        index_by h =
            carried (λ (k : ℕ) (is cs cy : List ℕ). row ≡ row_of f (take k is) → s ≡ spans_of cs t.cells row cy → s.cycles.first + c < 512)
            h.arrays h.among
            (λ x y. index_at h.arrays t h.among.ready f c h.has row x s y) e es

        pub place_by : HasBy n ids counts cycles t f c
            → (length cycles ≡ 512) × ((s.cycles.first + c ≤ 512) × (s.steps.first + width_sum (take c (drop s.cycles.first cycles)) ≤ 2048))
        place_by h =
            carried
            (λ (k : ℕ) (is cs cy : List ℕ). row ≡ row_of f (take k is) → s ≡ spans_of cs t.cells row cy
            → (length cy ≡ 512) × ((s.cycles.first + c ≤ 512) × (s.steps.first + width_sum (take c (drop s.cycles.first cy)) ≤ 2048)))
            h.arrays h.among (λ x y. place_at_lem h.arrays t h.among.ready f c h.has row x s y) e es

        pub stands : (at m : ℕ) → at ≡ s.steps.first + width_sum (take c (drop s.cycles.first cycles)) → m ≡ get_or cycles (s.cycles.first + c) 0
            → FoundBy n ids counts cycles t f c (record { spans = s; cycle = c; count = m; at = at })
        stands at m ea em =
            record {
              every = λ a g h.
                  found_at a t g.ready f c h row
                  (back (λ (k : ℕ) (is cs cy : List ℕ). row ≡ row_of f (take k is)) a g e) s
                  (back (λ (k : ℕ) (is cs cy : List ℕ). s ≡ spans_of cs t.cells row cy) a g es) at m
                  (back (λ (k : ℕ) (is cs cy : List ℕ). at ≡ s.steps.first + width_sum (take c (drop s.cycles.first cy))) a g ea)
                  (back (λ (k : ℕ) (is cs cy : List ℕ). m ≡ get_or cy (s.cycles.first + c) 0) a g em);
            }

-- ---- where a step ends
pub rows_by_lem : (a : Arrays) (t : Totals) → Ready a t → RowsIn a.count a.ids a.starts a.ends
rows_by_lem a t r =
    let k = rows_in_lem (held_by a) (ready_sizes a t r) (ready_drawing a t r) (rows_by a) (ready_indexes a t r) in
    record { few = k.few; ids_size = k.ids; starts_size = k.starts; ends_size = k.ends; rising = k.rising }
