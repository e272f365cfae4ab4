-- One face's cycles replaced in lent arrays: what they hold then, and their sums. Assumes nothing.
use Prim.Native.Nat.{ℕ, zero, suc, ◌+◌, ◌-◌, ◌<◌, ◌≤◌}
use mathlib.Core.Path.{◌≡◌, refl, ap, ap₂, sym, subst, ◌∙◌}
use mathlib.Core.Bool.{Bool, true, false}
use mathlib.Core.List.{List, [], ◌∷◌, ◌++◌}
use native.Mathlib.Omega.{arith}
use lib.Dec.{eqb}
use lib.ListN.{length, take, drop, get_or, set, length-set}
use lib.Seq.{get_or-set_same, get_or-set_other, set-get_or, take-set-le, drop-set-lt, drop-cons}
use borrow.Author.Tests.{eqb-true, eqb-false}
use Rattle.complex.specs.Lists.{total}
use Rattle.complex.specs.Cells.{face}
use Rattle.store.specs.declared.Shape.{Shape}
use Rattle.store.specs.declared.Shape.TheVariants.{Face}
use Rattle.store.specs.declared.Cell.{Cell}
use Rattle.store.specs.declared.Drawing.{Drawing}
use Rattle.store.specs.Sizes.{Sizes}
use Rattle.store.specs.Index.{Indexes}
use Rattle.store.specs.View.{sheet_of, Fits, cycles_from}
use Rattle.store.specs.Edits.{places_of}
use Rattle.store.proofs.Lists.{sum_append, width_places}
use Rattle.rows_spans.specs.declared.Span.{Span}
use Rattle.rows_spans.specs.declared.Spans.{Spans}
use Rattle.rows_spans.specs.Runs.{span_of, row_span, kinds, cycle_span, step_span, Spliced, sheet_with_row}
use Rattle.rows_spans.proofs.Splicing.{span_sum}
use Rattle.rows_spans.proofs.Replaced.{kind_read, spans_read, cycle_room_lem, step_room_lem, replaced_is}
use Rattle.answer.specs.declared.Totals.{Totals}
use Rattle.lent.specs.Arrays.{Arrays, shape_by, shape_at, cells_by, position_in, held_by, rows_by, row_normal, normal_at, normal, totals_of, Lengths}
use Rattle.lent.proofs.Held.{held_sizes, held_indexes, cells_set, cells_id, all_at, all_intro}
use Rattle.kernel_cycles.specs.Replacing.{ReplacesIn, ReplacedIn, totals_with}

-- the arrays with another number of cycles in a row, and other cycles and steps
abbrev pub with_cycles : Arrays → ℕ → ℕ → List ℕ → List ℕ → Arrays
with_cycles a row n cy st =
    record {
      next = a.next;
      count = a.count;
      ids = a.ids;
      kinds = a.kinds;
      starts = a.starts;
      ends = a.ends;
      bends = a.bends;
      counts = set a.counts row n;
      px = a.px;
      py = a.py;
      cycles = cy;
      steps = st;
      bx = a.bx;
      by = a.by;
    }

places_zero : (n : ℕ) → places_of 0 n ≡ n
places_zero zero = refl
places_zero (suc n) = refl

-- the sum of counts, another in one row
total_with : (counts : List ℕ) (k row n : ℕ) → row < k → k ≤ length counts
    → total (places_of 0) (take k (set counts row n)) ≡ (span_of 0 counts (row_span k row)).first + n + (span_of 0 counts (row_span k row)).rest
total_with counts k row n h l =
    let c = set counts row n in
    let e : row + 1 + (k - (row + 1)) ≡ k = omega arith in
    let one : take 1 (drop row c) ≡ n ∷ [] =
    ap (take 1) (drop-cons c row 0 (omega (arith, length-set counts row n))) ∙ ap (λ (x : ℕ). x ∷ []) (get_or-set_same counts row n 0 (omega arith)) in
    let p : (span_of 0 c (row_span k row)).first ≡ (span_of 0 counts (row_span k row)).first = ap (total (places_of 0)) (take-set-le row counts row n (omega arith)) in
    let q : (span_of 0 c (row_span k row)).count ≡ n = ap (total (places_of 0)) one ∙ omega (arith, places_zero n) in
    let r : (span_of 0 c (row_span k row)).rest ≡ (span_of 0 counts (row_span k row)).rest = ap (λ (x : List ℕ). total (places_of 0) (take (k - (row + 1)) x))
    (drop-set-lt (row + 1) counts row n (omega arith)) in
    ap (λ (i : ℕ). total (places_of 0) (take i c)) (sym e) ∙ sym (span_sum 0 c (row_span k row)) ∙ omega (arith, p, q, r)

module _ (a : Arrays) (row : ℕ) (s : Spans) (counts : List ℕ) (n : ℕ) (steps : List ℕ) (m : ℕ) (w : ReplacesIn a row s counts n steps m) where
  sizes_in : Sizes (held_by a)
  sizes_in = held_sizes a w.long

  index_in : Indexes (held_by a) (rows_by a)
  index_in = held_indexes a w.long w.rows

  kind_in_lem : get_or a.kinds row 0 ≡ 3
  kind_in_lem = kind_read (held_by a) sizes_in w.replaces.fits (rows_by a) index_in row w.replaces.live ∙ w.replaces.face

  spans_in : (s.cycles ≡ cycle_span (held_by a) row) × (s.steps ≡ step_span (held_by a) row)
  spans_in = spans_read (held_by a) sizes_in row a.counts counts steps n m index_in.cycles w.replaces s w.spans

  -- there is room for what is replaced
  pub in_cycles_lem : (s.cycles.first + s.cycles.count + s.cycles.rest ≤ 512) × (s.cycles.first + n + s.cycles.rest ≤ 512)
  in_cycles_lem = cycle_room_lem (held_by a) sizes_in row a.counts counts steps n m index_in.cycles w.replaces s.cycles spans_in.0

  pub in_steps_lem : (s.steps.first + s.steps.count + s.steps.rest ≤ 2048) × (s.steps.first + m + s.steps.rest ≤ 2048)
  in_steps_lem = step_room_lem (held_by a) sizes_in row a.counts counts steps n m index_in.cycles w.replaces s.steps spans_in.1

  pub in_rows : row < 256
  in_rows = omega (arith, w.replaces.live, w.replaces.fits.cells)

  module _ (cy st : List ℕ) (lc : length cy ≡ 512) (ls : length st ≡ 2048) (kc : Spliced a.cycles s.cycles counts n cy)
      (ks : Spliced a.steps s.steps steps m st) where
    abbrev b : Arrays
    b = with_cycles a row n cy st

    long : Lengths b
    long =
        let l = w.long in
        record {
          ids = l.ids;
          kinds = l.kinds;
          starts = l.starts;
          ends = l.ends;
          bends = l.bends;
          counts = length-set a.counts row n ∙ l.counts;
          px = l.px;
          py = l.py;
          cycles = lc;
          steps = ls;
          bx = l.bx;
          by = l.by;
        }

    -- the row is a face's with n cycles, and the others are as they were
    here : shape_at b row ≡ Face n
    here =
        ap₂ (λ (k c : ℕ). shape_by k (get_or a.starts row 0) (get_or a.ends row 0) (get_or a.bends row 0) c (position_in a.px a.py row))
        kind_in_lem (get_or-set_same a.counts row n 0 (omega (arith, w.long.counts, in_rows)))

    there : (j : ℕ) → (j ≡ row → ⊥) → shape_at b j ≡ shape_at a j
    there j ne =
        ap (λ (c : ℕ). shape_by (get_or a.kinds j 0) (get_or a.starts j 0) (get_or a.ends j 0) (get_or a.bends j 0) c (position_in a.px a.py j))
        (get_or-set_other a.counts row j n 0 ne)

    none : Cell
    none = record { id = 0; shape = Face 0 }

    cells_are : (held_by b).cells ≡ set (held_by a).cells row (record { id = (get_or (held_by a).cells row none).id; shape = Face n })
    cells_are =
        let h : row < length a.ids = omega (arith, w.long.ids, in_rows) in
        ap (cells_by (shape_at b)) (sym (set-get_or a.ids row 0))
        ∙ cells_set (shape_at a) (shape_at b) row (get_or a.ids row 0) a.ids h there
        ∙ ap₂ (λ (i : ℕ) (x : Shape). set (held_by a).cells row (record { id = i; shape = x })) (sym (cells_id (shape_at a) a.ids row none h)) here

    both : (sheet_of (held_by b) ≡ sheet_with_row (sheet_of (held_by a)) row (face (cycles_from (take n counts) steps))) × Fits (held_by b)
    both =
        replaced_is (held_by a) sizes_in w.replaces.fits row w.replaces.live counts steps n m w.replaces (held_by b)
        (held_sizes b long) refl refl none cells_are refl
        (subst (λ (t : Span). Spliced a.cycles t counts n cy) spans_in.0 kc) (subst (λ (t : Span). Spliced a.steps t steps m st) spans_in.1 ks)

    -- the normal form
    rows_are : normal b ≡ true
    rows_are = all_intro (normal_at b.kinds b.starts b.ends b.bends b.counts) a.count one
      where
        was : (j : ℕ) → j < a.count → normal_at a.kinds a.starts a.ends a.bends a.counts j ≡ true
        was j g = all_at (normal_at a.kinds a.starts a.ends a.bends a.counts) a.count j g w.rows

        face_row : (c : ℕ) → row_normal (get_or a.kinds row 0) (get_or a.starts row 0) (get_or a.ends row 0) (get_or a.bends row 0) c
            ≡ row_normal 3 (get_or a.starts row 0) (get_or a.ends row 0) (get_or a.bends row 0) 0
        face_row c = ap (λ (k : ℕ). row_normal k (get_or a.starts row 0) (get_or a.ends row 0) (get_or a.bends row 0) c) kind_in_lem

        own : normal_at b.kinds b.starts b.ends b.bends b.counts row ≡ true
        own = face_row (get_or (set a.counts row n) row 0) ∙ sym (face_row (get_or a.counts row 0)) ∙ was row w.replaces.live

        one : (j : ℕ) → j < a.count → normal_at b.kinds b.starts b.ends b.bends b.counts j ≡ true
        one j g = go (eqb j row) refl
          where
            go : (t : Bool) → eqb j row ≡ t → normal_at b.kinds b.starts b.ends b.bends b.counts j ≡ true
            go true q = ap (normal_at b.kinds b.starts b.ends b.bends b.counts) (eqb-true j row q) ∙ own
            go false q =
                ap (λ (c : ℕ). row_normal (get_or a.kinds j 0) (get_or a.starts j 0) (get_or a.ends j 0) (get_or a.bends j 0) c)
                (get_or-set_other a.counts row j n 0 (eqb-false j row q)) ∙ was j g

    -- the sums
    cycle_sum_lem : (totals_of b).cycles ≡ s.cycles.first + n + s.cycles.rest
    cycle_sum_lem =
        total_with a.counts a.count row n w.replaces.live (omega (arith, w.long.counts, w.replaces.fits.cells))
        ∙ ap (λ (t : Spans). t.cycles.first + n + t.cycles.rest) (sym w.spans)

    step_sum_lem : (totals_of b).steps ≡ s.steps.first + m + s.steps.rest
    step_sum_lem =
        let f = places_of 1 in
        let x = take s.cycles.first a.cycles in
        let y = take n counts in
        let v = take s.cycles.rest (drop (s.cycles.first + s.cycles.count) a.cycles) in
        let e : s.steps ≡ span_of 1 a.cycles s.cycles = ap (λ (t : Spans). t.steps) w.spans
        ∙ ap (λ (t : Spans). span_of 1 a.cycles t.cycles) (sym w.spans) in
        let g = sum_append f x (y ++ v) in
        let h = sum_append f y v in
        let u : total f y ≡ m = width_places y ∙ w.replaces.width in
        let i : s.steps.first ≡ total f x = ap (λ (t : Span). t.first) e in
        let j : s.steps.rest ≡ total f v = ap (λ (t : Span). t.rest) e in
        ap (λ (k : ℕ). total f (take k cy)) cycle_sum_lem ∙ ap (total f) kc.front ∙ omega (arith, g, h, u, i, j)

    pub replaced_in : ReplacedIn a row s n m (cycles_from (take n counts) steps) b
    replaced_in =
        let p = cycle_sum_lem in
        let q = step_sum_lem in
        record {
          sheet = both.0;
          fits = both.1;
          long = long;
          rows = rows_are;
          sums = λ i. record { cells = a.count; cycles = p i; steps = q i; bends = (totals_of a).bends };
        }
