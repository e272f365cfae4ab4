-- The walk takes each row by the rules that the definitions have for its cell: so it ends where they say. Assumes nothing.
use Prim.Native.Nat.{ℕ, zero, suc, ◌+◌, ◌<◌, ◌≤◌}
use mathlib.Core.Path.{◌≡◌, refl, ap, ap₂, sym, ◌∙◌}
use mathlib.Core.Bool.{true, ◌&&◌, cond}
use mathlib.Core.List.{List, [], ◌∷◌, map}
use native.Mathlib.Omega.{arith}
use native.Mathlib.Decide.{dec_lt}
use native.Mathlib.Numerals.{add-one}
use lib.Dec.{eqb, ltb, leb}
use lib.ListN.{length, take, drop, get_or, length-map}
use lib.Seq.{get_or-take, length-take-le}
use borrow.Author.Tests.{ne_eqb, eqb-true, leb-true}
use Rattle.coordinate.specs.declared.Position.{Position}
use Rattle.coordinate.specs.Bounds.{within}
use Rattle.complex.specs.Cells.{LiveCell, lookup, ids}
use Rattle.complex.specs.Sound.{figure_ok, cells_most, cycles_most, steps_most, bends_most}
use Rattle.complex.specs.Visits.{id_right, figure_in}
use Rattle.complex.proofs.Bools.{both_true}
use Rattle.complex.proofs.Visits.{right_parts}
use Rattle.store.specs.declared.Shape.{Shape}
use Rattle.store.specs.declared.Cell.{Cell}
use Rattle.store.specs.Index.{kind_of, shape_start, shape_end}
use Rattle.store.specs.View.{sheet_of, bend_sum, cycle_sum, width_sum, bend_count, cycle_count}
use Rattle.store.proofs.Lists.{width_places}
use Rattle.store.proofs.Rows.{get_d_past}
use Rattle.sound.specs.Soundness.{fits_upto, placed}
use Rattle.sound.specs.Rows.{Rows, edge_good, row_good, cycle_good, all_from}
use Rattle.sound.proofs.Testing.{range_same}
use Rattle.sound.proofs.Looking.{kind_in_lem, row_test}
use Rattle.sound.proofs.Rings.{cell_rows}
use Rattle.sound.proofs.Alike.{Alike, edge_alike, cycle_alike}
use Rattle.sound.proofs.Cellwise.{shape_rows, sheet_ids, sheet_rows, totals_upto_lem, figure_tests}
use Rattle.lent.specs.Arrays.{Arrays, shape_by, shape_at, position_in, cells_by, held_by, normal_at, normal, Lengths}
use Rattle.lent.proofs.Held.{Told, row_told, numbered, numbered_long, all_intro, cells_ids, cells_shape, held_sizes}
use Rattle.lent.proofs.Sums.{bends_held, cycles_held, steps_held}
use Rattle.lent_cycles.specs.Ring.{steps_upto, cycle_right}
use Rattle.lent_row.specs.Row.{places_upto, rows_in}
use Rattle.lent_row.proofs.Rows.{places_more}
use Rattle.lent_sound.specs.Walk.{bend_right, right_at}
use Rattle.lent_sound.specs.Visits.{right_on}
use Rattle.lent_sound.proofs.Ranges.{same_truth}
use Rattle.lent_sound.proofs.Parts.{Parts, parts_of_lem, parts_right, row_placed, bend_in}

-- ---- the rows as the arrays have them, and as the struct that they hold has them
shape_row : (g : Shape → ℕ) (f : ℕ → Shape) (n : ℕ) (is : List ℕ) (r y : ℕ) → n ≤ length is → r < n
    → get_or (map (λ (c : Cell). g c.shape) (take n (cells_by f is))) r y ≡ g (f r)
shape_row g f zero is r y h k = absurd (omega arith)
shape_row g f (suc n) [] r y h k = absurd (omega arith)
shape_row g f (suc n) (x ∷ is) zero y h k = refl
shape_row g f (suc n) (x ∷ is) (suc r) y h k = shape_row g (λ i. f (suc i)) n is r y (omega arith) (omega arith)

cells_few : (f : ℕ → Shape) (n : ℕ) (is : List ℕ) → length (take n (cells_by f is)) ≤ n
cells_few f zero is = omega arith
cells_few f (suc n) [] = omega arith
cells_few f (suc n) (x ∷ is) = let h = cells_few (λ i. f (suc i)) n is in omega (arith, h)

-- a kind that is none counts as a face's
kind_same : (k m s e b c : ℕ) (p : Position) → m < 3 → eqb k m ≡ eqb (kind_of (shape_by k s e b c p)) m
kind_same zero m s e b c p h = refl
kind_same (suc zero) m s e b c p h = refl
kind_same (suc (suc zero)) m s e b c p h = refl
kind_same (suc (suc (suc k))) m s e b c p h = ne_eqb (suc (suc (suc k))) m (λ q. omega (arith, q, h)) ∙ sym (ne_eqb 3 m (λ q. omega (arith, q, h)))

module _ (a : Arrays) (l : Lengths a) (few : a.count ≤ cells_most) where
  -- a number of the row r in the arrays and in the struct, where both have z past the last row
  row_of : {A : Type 0} (z : ℕ) (ks : List ℕ) (g : Shape → ℕ) (f : ℕ → A) (r : ℕ) → length ks ≡ cells_most
      → (r < a.count → f (get_or (take a.count ks) r z) ≡ f (g (shape_at a r)))
      → f (get_or (take a.count ks) r z) ≡ f (get_or (map (λ (c : Cell). g c.shape) (take a.count (held_by a).cells)) r z)
  row_of z ks g f r n same = go (dec_lt r a.count)
    where
      go : Dec (r < a.count) → f (get_or (take a.count ks) r z) ≡ f (get_or (map (λ (c : Cell). g c.shape) (take a.count (held_by a).cells)) r z)
      go (yes h) = same h ∙ ap f (sym (shape_row g (shape_at a) a.count a.ids r z (omega (arith, l.ids, few)) h))
      go (no h) =
          let u = length-take-le a.count ks (omega (arith, n, few)) in
          let v = cells_few (shape_at a) a.count a.ids in
          let w = length-map (take a.count (held_by a).cells) (λ (c : Cell). g c.shape) in
          ap f (get_d_past (take a.count ks) r z (omega (arith, u, h))
          ∙ sym (get_d_past (map (λ (c : Cell). g c.shape) (take a.count (held_by a).cells)) r z (omega (arith, v, w, h))))

  kind_of_lem : (m r : ℕ) → m < 3
      → eqb (get_or (take a.count a.kinds) r 4) m ≡ eqb (get_or (shape_rows (held_by a)).kinds r 4) m
  kind_of_lem m r h =
      row_of 4 a.kinds kind_of (λ (k : ℕ). eqb k m) r l.kinds
      (λ u. ap (λ (k : ℕ). eqb k m) (kind_in_lem a.count a.kinds r (omega (arith, l.kinds, few)) u) ∙ kind_same (get_or a.kinds r 0) m _ _ _ _ _ h)

  -- an open edge's end
  end_of : (es : List ℕ) (g : Shape → ℕ) (r : ℕ) → length es ≡ cells_most
      → ((b c : ℕ) (p : Position) → get_or es r 0 ≡ g (shape_by 1 (get_or a.starts r 0) (get_or a.ends r 0) b c p))
      → eqb (get_or (take a.count a.kinds) r 4) 1 ≡ true
      → get_or (take a.count es) r 0 ≡ get_or (map (λ (c : Cell). g c.shape) (take a.count (held_by a).cells)) r 0
  end_of es g r n same o =
      let b = get_or a.bends r 0 in
      let c = get_or a.counts r 0 in
      let p = position_in a.px a.py r in
      row_of 0 es g (λ (x : ℕ). x) r n
      (λ u.
      let k : get_or a.kinds r 0 ≡ 1 = sym (kind_in_lem a.count a.kinds r (omega (arith, l.kinds, few)) u) ∙ eqb-true _ 1 o in
      get_or-take a.count es r 0 u ∙ same b c p ∙ ap (λ (x : ℕ). g (shape_by x (get_or a.starts r 0) (get_or a.ends r 0) b c p)) (sym k))

  rows_alike : Alike (rows_in a) (shape_rows (held_by a))
  rows_alike =
      record {
        ids = cells_ids (shape_at a) a.count a.ids;
        vertex = λ r. kind_of_lem 0 r (omega arith);
        open_edge = λ r. kind_of_lem 1 r (omega arith);
        closed_edge = λ r. kind_of_lem 2 r (omega arith);
        start = λ r. end_of a.starts shape_start r l.starts (λ b c p. refl);
        end = λ r. end_of a.ends shape_end r l.ends (λ b c p. refl);
      }

  -- ---- the sums of rows in normal form, as the struct has them
  module _ (k : ℕ) (norm : (j : ℕ) → j < k → normal_at a.kinds a.starts a.ends a.bends a.counts j ≡ true) where
    abbrev upto : Arrays
    upto = numbered a a.next k

    upto_normal : normal upto ≡ true
    upto_normal = all_intro (normal_at a.kinds a.starts a.ends a.bends a.counts) k norm

    bends_upto : bend_sum (take k (held_by a).cells) ≡ places_upto a.bends k
    bends_upto = sym (bends_held upto (numbered_long a a.next k l) upto_normal)

    cycles_upto : cycle_sum (take k (held_by a).cells) ≡ places_upto a.counts k
    cycles_upto = sym (cycles_held upto (numbered_long a a.next k l) upto_normal)

    steps_upto_lem : width_sum (take (cycle_sum (take k (held_by a).cells)) a.cycles) ≡ steps_upto a.cycles (places_upto a.counts k)
    steps_upto_lem = sym (steps_held upto (numbered_long a a.next k l) upto_normal)

  -- ---- the row i, where those before it are in normal form
  module _ (i : ℕ) (h : i < a.count) (norm : (j : ℕ) → j < i → normal_at a.kinds a.starts a.ends a.bends a.counts j ≡ true) where
    abbrev cells : List LiveCell
    cells = (sheet_of (held_by a)).cells

    -- its id
    id_same : id_right (sheet_of (held_by a)).next (ids cells) i ≡ id_right a.next a.ids i
    unfolding sheet_of
    id_same = ap (λ (is : List ℕ). id_right a.next is i) ids_are ∙ taken i h
      where
        ids_are : ids cells ≡ take a.count a.ids
        ids_are = sheet_ids (held_by a) ∙ sym (cells_ids (shape_at a) a.count a.ids)

        taken : (j : ℕ) → j < a.count → id_right a.next (take a.count a.ids) j ≡ id_right a.next a.ids j
        taken zero u = ap (λ (x : ℕ). ltb x a.next && ltb 0 x) (get_or-take a.count a.ids 0 0 u)
        taken (suc j) u =
            ap₂ (λ (x y : ℕ). ltb x a.next && ltb y x) (get_or-take a.count a.ids (suc j) 0 u) (get_or-take a.count a.ids j 0 (omega arith))

    module _ (row : normal_at a.kinds a.starts a.ends a.bends a.counts i ≡ true) where
      through : (j : ℕ) → j < suc i → normal_at a.kinds a.starts a.ends a.bends a.counts j ≡ true
      through j u = go (dec_lt j i)
        where
          go : Dec (j < i) → normal_at a.kinds a.starts a.ends a.bends a.counts j ≡ true
          go (yes v) = norm j v
          go (no v) = let e : j ≡ i = omega (arith, u, v) in
              ap (normal_at a.kinds a.starts a.ends a.bends a.counts) e ∙ row

      -- the sums with it
      fits_same : fits_upto (held_by a) (suc i)
          ≡ leb (places_upto a.bends (i + 1)) bends_most
          && (leb (places_upto a.counts (i + 1)) cycles_most && leb (steps_upto a.cycles (places_upto a.counts i + get_or a.counts i 0)) steps_most)
      fits_same =
          let e : suc i ≡ i + 1 = sym (add-one i) in
          let m = places_more a.counts i (omega (arith, h, few, l.counts)) in
          ap₂ ◌&&◌ (ap (λ (n : ℕ). leb n bends_most) (bends_upto (suc i) through ∙ ap (places_upto a.bends) e))
          (ap₂ ◌&&◌ (ap (λ (n : ℕ). leb n cycles_most) (cycles_upto (suc i) through ∙ ap (places_upto a.counts) e))
          (ap (λ (n : ℕ). leb n steps_most) (steps_upto_lem (suc i) through ∙ ap (steps_upto a.cycles) (ap (places_upto a.counts) e ∙ m))))

      told : Told (get_or a.kinds i 0) (get_or a.starts i 0) (get_or a.ends i 0) (get_or a.bends i 0) (get_or a.counts i 0) (shape_at a i)
      told =
          row_told (get_or a.kinds i 0) (get_or a.starts i 0) (get_or a.ends i 0) (get_or a.bends i 0) (get_or a.counts i 0)
          (position_in a.px a.py i) row

      -- its figure
      module _ (f : fits_upto (held_by a) (suc i) ≡ true) where
        abbrev none : Cell
        none = record { id = 0; shape = shape_at a i }

        shape_is : (get_or (held_by a).cells i none).shape ≡ shape_at a i
        shape_is = cells_shape (shape_at a) a.ids i none (omega (arith, h, few, l.ids))

        edge_same : (x : Shape) → x ≡ shape_at a i
            → edge_good (cell_rows cells).ids (cell_rows cells).kinds (kind_of x) (shape_start x) (shape_end x) (bend_count x)
            ≡ row_good (rows_in a) (take a.count a.bends) i
        edge_same x e =
            ap₂ (λ (t : Rows) (y : Shape). edge_good t.ids t.kinds (kind_of y) (shape_start y) (shape_end y) (bend_count y)) (sheet_rows (held_by a)) e
            ∙ sym (edge_alike rows_alike (kind_of (shape_at a i)) (shape_start (shape_at a i)) (shape_end (shape_at a i)) (bend_count (shape_at a i)))
            ∙ ap₂ (λ (k s : ℕ). edge_good (rows_in a).ids (rows_in a).kinds k s (shape_end (shape_at a i)) (bend_count (shape_at a i))) told.kind told.start
            ∙ ap₂ (λ (e m : ℕ). edge_good (rows_in a).ids (rows_in a).kinds (get_or a.kinds i 0) (get_or a.starts i 0) e m) told.end told.bends
            ∙ sym (row_test a.count a.ids a.kinds a.starts a.ends a.bends i h)

        cycle_same : (j : ℕ) → cycle_good (cell_rows cells) (get_or a.cycles j 0) (drop (width_sum (take j a.cycles)) a.steps)
            ≡ cycle_right (rows_in a) a.cycles a.steps j
        cycle_same j =
            ap₂ (λ (t : Rows) (n : ℕ). cycle_good t (get_or a.cycles j 0) (drop n a.steps)) (sheet_rows (held_by a)) (sym (width_places (take j a.cycles)))
            ∙ sym (cycle_alike rows_alike (get_or a.cycles j 0) (drop (steps_upto a.cycles j) a.steps))

        figure_same : figure_ok (lookup cells) (figure_in cells i)
            ≡ (cond (eqb (get_or (take a.count a.kinds) i 0) 0) (within (position_in a.px a.py i)) true
            && row_good (rows_in a) (take a.count a.bends) i)
            && (all_from (bend_right a.bx a.by) (places_upto a.bends i) (get_or a.bends i 0)
            && all_from (cycle_right (rows_in a) a.cycles a.steps) (places_upto a.counts i) (get_or a.counts i 0))
        figure_same =
            figure_tests (held_by a) (held_sizes a l) few i h f none (position_in a.px a.py 0)
            ∙ ap₂ ◌&&◌
            (ap₂ ◌&&◌
            (ap placed shape_is
            ∙ sym (row_placed (get_or a.kinds i 0) (get_or a.starts i 0) (get_or a.ends i 0) (get_or a.bends i 0) (get_or a.counts i 0)
            (position_in a.px a.py i))
            ∙ ap (λ (k : ℕ). cond (eqb k 0) (within (position_in a.px a.py i)) true) (sym (get_or-take a.count a.kinds i 0 h)))
            (edge_same (get_or (held_by a).cells i none).shape shape_is))
            (ap₂ ◌&&◌
            (ap₂ (all_from (λ (j : ℕ). within (get_or (held_by a).bends j (position_in a.px a.py 0)))) (bends_upto i norm) (ap bend_count shape_is ∙ told.bends)
            ∙ range_same _ _ (places_upto a.bends i) (get_or a.bends i 0)
            (λ j u v. ap within (bend_in a l j (omega (arith, v, most)))))
            (ap₂ (all_from (λ (j : ℕ). cycle_good (cell_rows cells) (get_or a.cycles j 0) (drop (width_sum (take j a.cycles)) a.steps)))
            (cycles_upto i norm) (ap cycle_count shape_is ∙ told.cycles)
            ∙ range_same _ _ (places_upto a.counts i) (get_or a.counts i 0) (λ j u v. cycle_same j)))
          where
            most : places_upto a.bends i + get_or a.bends i 0 ≤ bends_most
            most =
                let m = places_more a.bends i (omega (arith, h, few, l.bends)) in
                let b = leb-true (places_upto a.bends (i + 1)) bends_most (both_true (leb (places_upto a.bends (i + 1)) bends_most) _ (sym fits_same ∙ f)).0 in
                omega (arith, m, b)

    -- ---- the row is right as its cell is
    right_on_lem : Parts a i → right_on a i ≡ true
    right_on_lem q =
        let f : fits_upto (held_by a) (suc i) ≡ true = fits_same q.row ∙ ap₂ ◌&&◌ q.bend_sum (ap₂ ◌&&◌ q.cycle_sum q.step_sum) in
        ap₂ ◌&&◌ q.row
        (ap₂ ◌&&◌ f
        (ap₂ ◌&&◌ (id_same ∙ q.id)
        (ap₂ ◌&&◌ (totals_upto_lem (held_by a) (held_sizes a l) few (suc i) (omega (arith, h)) f)
        (figure_same q.row f ∙ ap₂ ◌&&◌ (ap₂ ◌&&◌ q.vertex q.edge) (ap₂ ◌&&◌ q.bends q.cycles)))))

    parts_on : right_on a i ≡ true → Parts a i
    parts_on e =
        let b0 = both_true (normal_at a.kinds a.starts a.ends a.bends a.counts i) _ e in
        let b1 = both_true (fits_upto (held_by a) (suc i)) _ b0.1 in
        let r = right_parts (sheet_of (held_by a)) i b1.1 in
        let s0 = both_true (leb (places_upto a.bends (i + 1)) bends_most) _ (sym (fits_same b0.0) ∙ b1.0) in
        let s1 = both_true (leb (places_upto a.counts (i + 1)) cycles_most) _ s0.1 in
        let g = both_true (cond (eqb (get_or (take a.count a.kinds) i 0) 0) (within (position_in a.px a.py i)) true
        && row_good (rows_in a) (take a.count a.bends) i) _ (sym (figure_same b0.0 b1.0) ∙ r.figure) in
        let g0 = both_true (cond (eqb (get_or (take a.count a.kinds) i 0) 0) (within (position_in a.px a.py i)) true) _ g.0 in
        let g1 = both_true (all_from (bend_right a.bx a.by) (places_upto a.bends i) (get_or a.bends i 0)) _ g.1 in
        record {
          id = sym id_same ∙ r.id;
          row = b0.0;
          bend_sum = s0.0;
          cycle_sum = s1.0;
          edge = g0.1;
          vertex = g0.0;
          bends = g1.0;
          step_sum = s1.1;
          cycles = g1.1;
        }

    pub row_same : right_at true a i ≡ right_on a i
    row_same = same_truth (right_at true a i) (right_on a i) (λ e. right_on_lem (parts_of_lem a i e)) (λ e. parts_right a i (parts_on e))
