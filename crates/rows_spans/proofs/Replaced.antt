-- One face's cycles replaced: where a cell's cycles, steps and bends stand, and what the drawing is then. Assumes nothing.
use Prim.Native.Nat.{ℕ, zero, suc, ◌+◌, ◌-◌, ◌<◌, ◌≤◌}
use mathlib.Core.Path.{◌≡◌, refl, ap, ap₂, sym, subst, ◌∙◌}
use mathlib.Core.Bool.{Bool, true, false, cond, ◌&&◌, false≢true}
use mathlib.Core.List.{List, [], ◌∷◌, ◌++◌, map, append_assoc, append-nil}
use mathlib.Core.Option.{some}
use native.Mathlib.Omega.{arith}
use lib.Dec.{eqb}
use borrow.Author.Tests.{eq-eqb, ne_eqb, eqb-true}
use lib.ListN.{length, take, drop, get_or, set, length-append, length-map, length-take}
use lib.Seq.{drop_at, split_at, set_split, take-set-lt, length-take-le, take_all, get_or-take, get_or_at, set_at}
use Rattle.coordinate.specs.declared.Position.{Position}
use Rattle.number.specs.Readers.{spread}
use Rattle.complex.specs.Lists.{total}
use Rattle.complex.specs.Cells.{Cycle, Figure, vertex, open_edge, closed_edge, face, LiveCell as Entry, some_if, lookup, cell_at, ids, is_face, bends_of}
use Rattle.complex.specs.Cells as cells
use Rattle.complex.specs.Edits.{reshape, replaced}
use Rattle.store.specs.declared.Shape.TheVariants.{Face}
use Rattle.store.specs.declared.Cell.{Cell}
use Rattle.store.specs.declared.Drawing.{Drawing}
use Rattle.store.specs.declared.Index.{Index}
use Rattle.store.specs.Sizes.{Sizes}
use Rattle.store.specs.Sheet.{real, all_real, ids_of}
use Rattle.store.specs.Index.{kind_of, Rising, row_of, Indexes}
use Rattle.store.specs.View.{sheet_of, Fits, cycles_from, cycle_count, width_sum, cycle_total, step_total}
use Rattle.store.specs.Places.{shape_of, entry_cell, figure_cycles, figure_bends, entry_cycles, entry_bends, num_of, cycle_words}
use Rattle.store.specs.Edits.{places_of, with_entries}
use Rattle.store.proofs.Encode.{flat_append, numbers, places, cycles_real, length_cycles, cycles_back, cycle_sum_lem, width_sum_lem}
use Rattle.store.proofs.Lists.{map_append, places_sum, width_places}
use Rattle.store.proofs.Stands.{Begins, begins_split, Stands, stands, viewed, fitting, count_is, cycle_total_lem, step_total_lem, ids_same}
use Rattle.store.proofs.Grow.{sheet_is, next_is, real_append}
use Rattle.rows_spans.specs.declared.Span.{Span}
use Rattle.rows_spans.specs.declared.Spans.{Spans}
use Rattle.rows_spans.specs.Runs.{span_of, spans_of, row_span, cycle_counts, kinds, cycle_span, step_span, Spliced, Replaces, sheet_with_row}
use Rattle.rows_spans.proofs.Splicing.{part_two, span_take, span_sum, span_parts, spliced_begins}

-- ---- one row of a rising list of cells
tail_rises : {n : ℕ} {ns : List ℕ} → Rising (n ∷ ns) → Rising ns
tail_rises r = record { below = λ i j h k. r.below (suc i) (suc j) (omega arith) (omega arith) }

others_stay : (cs : List Entry) (i : ℕ) (y : Figure) → ((j : ℕ) → j < length cs → get_or (ids cs) j 0 ≡ i → ⊥) → cs ≡ reshape (replaced i y) cs
others_stay [] i y f = refl
others_stay (c ∷ cs) i y f =
    ap₂ (λ (b : Bool) (r : List Entry). record { id = c.id; figure = cond b y c.figure } ∷ r)
    (sym (ne_eqb i c.id (λ e. f 0 (omega arith) (sym e)))) (others_stay cs i y (λ j h. f (suc j) (omega arith)))

-- another figure in a row is another figure of that row's id
pub set_row : (cs : List Entry) (row : ℕ) (y : Figure) → Rising (ids cs) → row < length cs
    → set cs row (record { id = get_or (ids cs) row 0; figure = y }) ≡ reshape (replaced (get_or (ids cs) row 0) y) cs
set_row [] row y r h = absurd (omega arith)
set_row (c ∷ cs) zero y r h =
    let l = length-map cs (λ (x : Entry). x.id) in
    ap₂ (λ (b : Bool) (q : List Entry). record { id = c.id; figure = cond b y c.figure } ∷ q)
    (sym (eq-eqb c.id c.id refl)) (others_stay cs c.id y (λ j k e. let u = r.below 0 (suc j) (omega arith) (omega arith) in omega arith))
set_row (c ∷ cs) (suc row) y r h =
    let l = length-map cs (λ (x : Entry). x.id) in
    let u : c.id < get_or (ids cs) row 0 = r.below 0 (suc row) (omega arith) (omega arith) in
    ap₂ (λ (b : Bool) (q : List Entry). record { id = c.id; figure = cond b y c.figure } ∷ q)
    (sym (ne_eqb (get_or (ids cs) row 0) c.id (λ e. omega arith))) (set_row cs row y (tail_rises r) (omega arith))

-- the id of a row stands for the figure in it
pub lookup_row : (cs : List Entry) (row : ℕ) (z : Entry) → Rising (ids cs) → row < length cs → lookup cs (get_or (ids cs) row 0) ≡ some (get_or cs row z).figure
lookup_row [] row z r h = absurd (omega arith)
lookup_row (c ∷ cs) zero z r h = ap (λ (b : Bool). some_if b c.figure (lookup cs c.id)) (eq-eqb c.id c.id refl)
lookup_row (c ∷ cs) (suc row) z r h =
    let l = length-map cs (λ (x : Entry). x.id) in
    let u : c.id < get_or (ids cs) row 0 = r.below 0 (suc row) (omega arith) (omega arith) in
    ap (λ (b : Bool). some_if b c.figure (lookup cs (get_or (ids cs) row 0))) (ne_eqb c.id (get_or (ids cs) row 0) (λ e. omega arith))
    ∙ lookup_row cs row z (tail_rises r) (omega arith)

-- the row that is found for an id has that id
pub row_has : (i : ℕ) (l : List ℕ) → row_of i l < length l → get_or l (row_of i l) 0 ≡ i
row_has i [] h = absurd (omega arith)
row_has i (n ∷ l) h = go (eqb n i) refl h (row_has i l)
  where
    go : (b : Bool) → eqb n i ≡ b → cond b 0 (suc (row_of i l)) < suc (length l) → (row_of i l < length l → get_or l (row_of i l) 0 ≡ i)
        → get_or (n ∷ l) (cond b 0 (suc (row_of i l))) 0 ≡ i
    go true e k f = eqb-true n i e
    go false e k f = f (omega arith)

-- ---- small facts
real_parts : (ks ls : List Cycle) → all_real (ks ++ ls) ≡ true → (all_real ks ≡ true) × (all_real ls ≡ true)
real_parts [] ls h = (refl, h)
real_parts (k ∷ ks) ls h = go (real k) h (real_parts ks ls)
  where
    go : (b : Bool) → (b && all_real (ks ++ ls)) ≡ true → (all_real (ks ++ ls) ≡ true → (all_real ks ≡ true) × (all_real ls ≡ true))
        → ((b && all_real ks) ≡ true) × (all_real ls ≡ true)
    go true e f = f e
    go false e f = absurd (false≢true e)

three : {A B : Type 0} (f : A → List B) (p : List A) (x : A) (q : List A) → spread f (p ++ (x ∷ q)) ≡ spread f p ++ (f x ++ spread f q)
three f p x q = flat_append f p (x ∷ q)

three_parts : {A B : Type 0} (f : A → List B) (p q r : List A) → spread f (p ++ (q ++ r)) ≡ spread f p ++ (spread f q ++ spread f r)
three_parts {A} {B} f p q r = flat_append f p (q ++ r) ∙ ap (λ (l : List B). spread f p ++ l) (flat_append f q r)

map_parts : {A B : Type 0} (f : A → B) (p q r : List A) → map f (p ++ (q ++ r)) ≡ map f p ++ (map f q ++ map f r)
map_parts {A} {B} f p q r = map_append f p (q ++ r) ∙ ap (λ (l : List B). map f p ++ l) (map_append f q r)

face_bends : (x : Figure) → kind_of (shape_of x) ≡ 3 → figure_bends x ≡ []
face_bends (vertex p) e = absurd (omega arith)
face_bends (open_edge a b bs) e = absurd (omega arith)
face_bends (closed_edge bs) e = absurd (omega arith)
face_bends (face ks) e = refl

own_cycles : (x : Figure) → cells.cycles_of (some x) ≡ figure_cycles x
own_cycles (vertex p) = refl
own_cycles (open_edge a b bs) = refl
own_cycles (closed_edge bs) = refl
own_cycles (face ks) = refl

pub own_bends : (x : Figure) → bends_of (some x) ≡ figure_bends x
own_bends (vertex p) = refl
own_bends (open_edge a b bs) = refl
own_bends (closed_edge bs) = refl
own_bends (face ks) = refl

own_kind : (x : Figure) → is_face (some x) ≡ eqb (kind_of (shape_of x)) 3
own_kind (vertex p) = refl
own_kind (open_edge a b bs) = refl
own_kind (closed_edge bs) = refl
own_kind (face ks) = refl

-- ---- a cell between others: where its cycles, steps and bends stand
module _ (d : Drawing) (z : Sizes d) (f : Fits d) (row : ℕ) (p : List Entry) (x : Entry) (q : List Entry) (e : (sheet_of d).cells ≡ p ++ (x ∷ q))
    (lp : length p ≡ row) where
  -- the cycles of the cells before it
  abbrev a : List Cycle
  a = spread entry_cycles p

  abbrev b : List Cycle
  b = entry_cycles x

  abbrev c : List Cycle
  c = spread entry_cycles q

  all_cycles_lem : spread entry_cycles (sheet_of d).cells ≡ a ++ (b ++ c)
  all_cycles_lem = ap (spread entry_cycles) e ∙ three entry_cycles p x q

  cycles_stand : Begins d.cycles (map num_of a ++ (map num_of b ++ map num_of c))
  cycles_stand =
      subst (Begins d.cycles) (ap (map num_of) all_cycles_lem ∙ map_parts num_of a b c) (stands d z f).cycles

  steps_stand : Begins d.steps (spread cycle_words a ++ (spread cycle_words b ++ spread cycle_words c))
  steps_stand =
      subst (Begins d.steps) (ap (spread cycle_words) all_cycles_lem ∙ three_parts cycle_words a b c) (stands d z f).steps

  bends_stand : Begins d.bends (spread entry_bends p ++ (entry_bends x ++ spread entry_bends q))
  bends_stand = subst (Begins d.bends) (ap (spread entry_bends) e ∙ three entry_bends p x q) (stands d z f).bends

  reals : (all_real a ≡ true) × (all_real b ≡ true) × (all_real c ≡ true)
  reals =
      let r = real_parts a (b ++ c) (ap all_real (sym all_cycles_lem) ∙ (stands d z f).real) in
      let t = real_parts b c r.1 in
      (r.0, t.0, t.1)

  -- the cells themselves
  heads_stand : take d.count d.cells ≡ map entry_cell p ++ (entry_cell x ∷ map entry_cell q)
  heads_stand = (stands d z f).cells ∙ ap (map entry_cell) e ∙ map_append entry_cell p (x ∷ q)

  lives : d.count ≡ row + suc (length q)
  lives =
      count_is d (sheet_of d).cells (stands d z f) z f.cells ∙ ap length e ∙ length-append p (x ∷ q) ∙ ap (λ (n : ℕ). n + suc (length q)) lp

  numbers_stand : {B : Type 0} (g : Cell → B) → map g (take d.count d.cells) ≡ map g (map entry_cell p) ++ (g (entry_cell x) ∷ map g (map entry_cell q))
  numbers_stand g = ap (map g) heads_stand ∙ map_append g (map entry_cell p) (entry_cell x ∷ map entry_cell q)

  heads_before : {B : Type 0} (g : Cell → B) → length (map g (map entry_cell p)) ≡ row
  heads_before g = length-map (map entry_cell p) g ∙ length-map p entry_cell ∙ lp

  pub own_number : {B : Type 0} (g : Cell → B) (y : B) → get_or (map g (take d.count d.cells)) row y ≡ g (entry_cell x)
  own_number {B} g y =
      ap (λ (l : List B). get_or l row y) (numbers_stand g) ∙ get_or_at (map g (map entry_cell p)) (g (entry_cell x)) (map g (map entry_cell q)) y row (heads_before g)

  pub own_cell : (y : Cell) → get_or d.cells row y ≡ entry_cell x
  own_cell y =
      let h : row < d.count = omega (arith, lives) in
      sym (get_or-take d.count d.cells row y h) ∙ ap (λ (l : List Cell). get_or l row y) heads_stand
      ∙ get_or_at (map entry_cell p) (entry_cell x) (map entry_cell q) y row (length-map p entry_cell ∙ lp)

  pub own_id : get_or (ids_of (sheet_of d)) row 0 ≡ x.id
  own_id = ap (λ (l : List ℕ). get_or l row 0) (sym (ids_same d z f)) ∙ own_number (λ (k : Cell). k.id) 0

  spans_are : {B : Type 0} (g : Cell → ℕ) (h : Entry → List B) → ((ys : List Entry) → total g (map entry_cell ys) ≡ length (spread h ys))
      → span_of 0 (map g (take d.count d.cells)) (row_span d.count row)
      ≡ record { first = length (spread h p); count = length (h x); rest = length (spread h q) }
  spans_are g h t =
      let k = map g (map entry_cell q) in
      let sum : (ys : List Entry) → total (places_of 0) (map g (map entry_cell ys)) ≡ length (spread h ys) = λ ys. places_sum g (map entry_cell ys) ∙ t ys in
      let u = sum p in
      let v = sum (x ∷ []) ∙ ap length (append-nil (h x)) in
      let w = sum q in
      let lq = length-map (map entry_cell q) g ∙ length-map q entry_cell in
      ap (λ (l : List ℕ). span_of 0 l (row_span d.count row))
      (numbers_stand g ∙ ap (λ (l : List ℕ). map g (map entry_cell p) ++ (g (entry_cell x) ∷ l)) (sym (append-nil k)))
      ∙ span_parts 0 (map g (map entry_cell p)) (g (entry_cell x) ∷ []) k [] (row_span d.count row) (heads_before g) refl (omega (arith, lq, lives))
      ∙ (λ i. record { first = u i; count = v i; rest = w i })

  pub cycle_span_lem : cycle_span d row ≡ record { first = length a; count = length b; rest = length c }
  cycle_span_lem = spans_are (λ (k : Cell). cycle_count k.shape) entry_cycles cycle_sum_lem

  after_cycles_lem : List ℕ
  after_cycles_lem = drop (length (map num_of a ++ (map num_of b ++ map num_of c))) d.cycles

  cycles_split : d.cycles ≡ map num_of a ++ (map num_of b ++ (map num_of c ++ after_cycles_lem))
  unfolding after_cycles_lem
  cycles_split =
      begins_split cycles_stand ∙ append_assoc (map num_of a) (map num_of b ++ map num_of c) after_cycles_lem
      ∙ ap (λ (l : List ℕ). map num_of a ++ l) (append_assoc (map num_of b) (map num_of c) after_cycles_lem)

  steps_are : (ks : List Cycle) → all_real ks ≡ true → total (places_of 1) (map num_of ks) ≡ length (spread cycle_words ks)
  steps_are ks h = width_places (map num_of ks) ∙ width_sum_lem ks h

  pub step_span_lem : step_span d row ≡ record { first = length (spread cycle_words a); count = length (spread cycle_words b); rest = length (spread cycle_words c) }
  step_span_lem =
      let s : Span = record { first = length a; count = length b; rest = length c } in
      let u = steps_are a reals.0 in
      let v = steps_are b reals.1 in
      let w = steps_are c reals.2 in
      ap₂ (span_of 1) cycles_split cycle_span_lem
      ∙ span_parts 1 (map num_of a) (map num_of b) (map num_of c) after_cycles_lem s (length-map a num_of) (length-map b num_of) (length-map c num_of)
      ∙ (λ i. record { first = u i; count = v i; rest = w i })

  after_steps : List ℕ
  after_steps = drop (length (spread cycle_words a ++ (spread cycle_words b ++ spread cycle_words c))) d.steps

  steps_split : d.steps ≡ spread cycle_words a ++ (spread cycle_words b ++ (spread cycle_words c ++ after_steps))
  unfolding after_steps
  steps_split =
      begins_split steps_stand ∙ append_assoc (spread cycle_words a) (spread cycle_words b ++ spread cycle_words c) after_steps
      ∙ ap (λ (l : List ℕ). spread cycle_words a ++ l) (append_assoc (spread cycle_words b) (spread cycle_words c) after_steps)

  -- its cycles are read where they stand
  pub own_list : cycles_from (take (cycle_span d row).count (drop (cycle_span d row).first d.cycles)) (drop (step_span d row).first d.steps)
      ≡ entry_cycles x
  own_list =
      let t : List ℕ = spread cycle_words c ++ after_steps in
      ap₂ (λ (s u : Span). cycles_from (take s.count (drop s.first d.cycles)) (drop u.first d.steps)) cycle_span_lem step_span_lem
      ∙ ap₂ (λ (l m : List ℕ). cycles_from (take (length b) (drop (length a) l)) (drop (length (spread cycle_words a)) m)) cycles_split steps_split
      ∙ ap₂ cycles_from (part_two (map num_of a) (map num_of b) (map num_of c ++ after_cycles_lem) (length a) (length b) (length-map a num_of) (length-map b num_of)
      ∙ sym (append-nil (map num_of b)))
      (drop_at (spread cycle_words a) (spread cycle_words b ++ t) (length (spread cycle_words a)) refl)
      ∙ cycles_back b [] t reals.1
      ∙ append-nil b

  -- ---- the cell with other cycles
  module _ (counts steps : List ℕ) (n m : ℕ) (w : Replaces d row counts n steps m) (r : Drawing) (zr : Sizes r) (ex : r.next ≡ d.next)
      (en : r.count ≡ d.count) (y : Cell)
      (ec : r.cells ≡ set d.cells row (record { id = (get_or d.cells row y).id; shape = Face n })) (eb : r.bends ≡ d.bends)
      (kc : Spliced d.cycles (cycle_span d row) counts n r.cycles) (ks : Spliced d.steps (step_span d row) steps m r.steps) where
    abbrev new : List Cycle
    new = cycles_from (take n counts) steps

    abbrev put : Entry
    put = record { id = x.id; figure = face new }

    cycles_fit_lem : length a + n + length c ≤ 512
    cycles_fit_lem =
        let t = cycle_total_lem d (sheet_of d).cells (stands d z f) ∙ ap length all_cycles_lem ∙ length-append a (b ++ c) in
        omega (arith, t, length-append b c, ap (λ (s : Span). s.count) cycle_span_lem, w.cycle_room)

    steps_fit_lem : length (spread cycle_words a) + m + length (spread cycle_words c) ≤ 2048
    steps_fit_lem =
        let t = step_total_lem d (sheet_of d).cells (stands d z f) ∙ ap (λ (l : List Cycle). length (spread cycle_words l)) all_cycles_lem
        ∙ ap length (three_parts cycle_words a b c)
        ∙ length-append (spread cycle_words a) (spread cycle_words b ++ spread cycle_words c) in
        omega (arith, t, length-append (spread cycle_words b) (spread cycle_words c), ap (λ (s : Span). s.count) step_span_lem, w.step_room)

    widths : width_sum (take n counts) ≤ length steps
    widths = omega (arith, w.width, w.in_steps)

    new_numbers : take n counts ≡ map num_of new
    new_numbers = sym (numbers (take n counts) steps widths)

    new_places : take m steps ≡ spread cycle_words new
    new_places = ap (λ (k : ℕ). take k steps) (sym w.width) ∙ sym (places (take n counts) steps widths)

    replaced_cycles : spread entry_cycles (p ++ (put ∷ q)) ≡ a ++ (new ++ c)
    replaced_cycles = three entry_cycles p put q

    replaced_bends : spread entry_bends (p ++ (put ∷ q)) ≡ spread entry_bends p ++ (entry_bends x ++ spread entry_bends q)
    replaced_bends =
        three entry_bends p put q
        ∙ ap (λ (l : List Position). spread entry_bends p ++ (l ++ spread entry_bends q))
        (sym (face_bends x.figure (sym (own_number (λ (k : Cell). kind_of k.shape) 0) ∙ w.face)))

    replaced_stands : Stands r (p ++ (put ∷ q))
    replaced_stands =
        let sc = cycle_span_lem in
        let ss = step_span_lem in
        let lk : length new ≡ n = length_cycles (take n counts) steps ∙ length-take-le n counts w.in_counts in
        record {
          cells =
              ap₂ take en ec
              ∙ take-set-lt d.count d.cells row (record { id = (get_or d.cells row y).id; shape = Face n }) (omega (arith, lives))
              ∙ ap₂ (λ (l : List Cell) (k : Cell). set l row k) heads_stand
              (ap₂ (λ (k : Cell) (t : ℕ). record { id = k.id; shape = Face t }) (own_cell y) (sym lk))
              ∙ set_at (map entry_cell p) (entry_cell x) (map entry_cell q) (entry_cell put) row (length-map p entry_cell ∙ lp)
              ∙ sym (map_append entry_cell p (put ∷ q));
          cycles =
              rw (replaced_cycles, map_parts num_of a new c)
              (spliced_begins d.cycles counts r.cycles (map num_of a) (map num_of b) (map num_of c) (map num_of new) (cycle_span d row) n cycles_stand
              (length-map a num_of ∙ ap (λ (s : Span). s.first) (sym sc)) (length-map b num_of ∙ ap (λ (s : Span). s.count) (sym sc))
              (length-map c num_of ∙ ap (λ (s : Span). s.rest) (sym sc))
              new_numbers (omega (arith, cycles_fit_lem, zr.cycles, ap (λ (s : Span). s.first) sc, ap (λ (s : Span). s.rest) sc)) kc);
          steps =
              rw (replaced_cycles, three_parts cycle_words a new c)
              (spliced_begins d.steps steps r.steps (spread cycle_words a) (spread cycle_words b) (spread cycle_words c) (spread cycle_words new)
              (step_span d row) m steps_stand
              (ap (λ (s : Span). s.first) (sym ss)) (ap (λ (s : Span). s.count) (sym ss)) (ap (λ (s : Span). s.rest) (sym ss))
              new_places (omega (arith, steps_fit_lem, zr.steps, ap (λ (s : Span). s.first) ss, ap (λ (s : Span). s.rest) ss)) ks);
          bends = rw (eb, replaced_bends) bends_stand;
          real = ap all_real replaced_cycles ∙ real_append a (new ++ c) reals.0 (real_append new c (cycles_real (take n counts) steps widths) reals.2);
        }

    pub replaced_between : ((sheet_of r).cells ≡ p ++ (put ∷ q)) × Fits r
    replaced_between = (viewed r _ replaced_stands, fitting r _ replaced_stands zr (omega (arith, en, f.cells)))

-- ---- the cell in a row
module _ (d : Drawing) (z : Sizes d) (f : Fits d) (row : ℕ) (h : row < d.count) where
  abbrev own : Entry
  own = get_or (sheet_of d).cells row (record { id = 0; figure = face [] })

  abbrev before : List Entry
  before = take row (sheet_of d).cells

  abbrev after : List Entry
  after = drop (suc row) (sheet_of d).cells

  in_sheet : row < length (sheet_of d).cells
  in_sheet = omega (arith, count_is d (sheet_of d).cells (stands d z f) z f.cells)

  split : (sheet_of d).cells ≡ before ++ (own ∷ after)
  split = split_at (sheet_of d).cells row (record { id = 0; figure = face [] }) in_sheet

  ahead : length before ≡ row
  ahead = length-take-le row (sheet_of d).cells (let u = in_sheet in omega arith)

  -- the drawing with other cycles for its face in the row
  pub replaced_is : (counts steps : List ℕ) (n m : ℕ) → Replaces d row counts n steps m → (r : Drawing) → Sizes r → r.next ≡ d.next → r.count ≡ d.count
      → (y : Cell)
      → r.cells ≡ set d.cells row (record { id = (get_or d.cells row y).id; shape = Face n }) → r.bends ≡ d.bends
      → Spliced d.cycles (cycle_span d row) counts n r.cycles → Spliced d.steps (step_span d row) steps m r.steps
      → (sheet_of r ≡ sheet_with_row (sheet_of d) row (face (cycles_from (take n counts) steps))) × Fits r
  replaced_is counts steps n m w r zr ex en y ec eb kc ks =
      let xs = (sheet_of d).cells in
      let t = replaced_between d z f row before own after split ahead counts steps n m w r zr ex en y ec eb kc ks in
      let new : Entry = record { id = get_or (ids_of (sheet_of d)) row 0; figure = face (cycles_from (take n counts) steps) } in (
        sheet_is r (sheet_with_row (sheet_of d) row (face (cycles_from (take n counts) steps))) (ex ∙ sym (next_is d))
            (t.0
            ∙ ap (λ (i : ℕ). before ++ (record { id = i; figure = face (cycles_from (take n counts) steps) } ∷ after))
            (sym (own_id d z f row before own after split ahead))
            ∙ sym (set_split xs row new in_sheet)),
        t.1,
      )

  -- the places of the row are among those in use
  pub cycles_in_use : (cycle_span d row).first + (cycle_span d row).count + (cycle_span d row).rest ≡ cycle_total d
  cycles_in_use =
      span_sum 0 (cycle_counts d) (row_span d.count row)
      ∙ ap (total (places_of 0))
      (take_all (row + 1 + (d.count - (row + 1))) (cycle_counts d) (let l = length-map (take d.count d.cells) (λ (c : Cell). cycle_count c.shape) in
      let t = length-take d.count d.cells in omega arith))
      ∙ places_sum (λ (c : Cell). cycle_count c.shape) (take d.count d.cells)

  pub steps_in_use : (step_span d row).first + (step_span d row).count + (step_span d row).rest ≡ step_total d
  steps_in_use =
      span_sum 1 d.cycles (cycle_span d row) ∙ ap (λ (n : ℕ). total (places_of 1) (take n d.cycles)) cycles_in_use
      ∙ width_places (take (cycle_total d) d.cycles)

  -- what the row's id i stands for, read from the arrays
  module _ (i : ℕ) (has : get_or (ids_of (sheet_of d)) row 0 ≡ i) (rises : Rising (ids_of (sheet_of d))) where
    found : cell_at (sheet_of d) i ≡ some own.figure
    found = ap (cell_at (sheet_of d)) (sym has) ∙ lookup_row (sheet_of d).cells row (record { id = 0; figure = face [] }) rises in_sheet

    pub row_cycles : cells.cycles_of (cell_at (sheet_of d) i) ≡ cycles_from (take (cycle_span d row).count (drop (cycle_span d row).first d.cycles))
        (drop (step_span d row).first d.steps)
    row_cycles = ap cells.cycles_of found ∙ own_cycles own.figure ∙ sym (own_list d z f row before own after split ahead)

    pub row_face : is_face (cell_at (sheet_of d) i) ≡ eqb (get_or (kinds d) row 0) 3
    row_face = ap is_face found ∙ own_kind own.figure
        ∙ ap (λ (n : ℕ). eqb n 3) (sym (own_number d z f row before own after split ahead (λ (c : Cell). kind_of c.shape) 0))

    -- another figure in the row is another figure of i
    pub row_replaced : (y : Figure) → sheet_with_row (sheet_of d) row y ≡ with_entries (sheet_of d) (reshape (replaced i y) (sheet_of d).cells)
    row_replaced y = ap (with_entries (sheet_of d))
        (set_row (sheet_of d).cells row y rises in_sheet ∙ ap (λ (j : ℕ). reshape (replaced j y) (sheet_of d).cells) has)

-- ---- what an index tells of a row
module _ (d : Drawing) (z : Sizes d) (f : Fits d) (ix : Index) (t : Indexes d ix) where
  -- the row that is found for an id has that id
  pub found_has : (i row : ℕ) → row ≡ row_of i (take d.count ix.ids) → row < d.count → get_or (ids_of (sheet_of d)) row 0 ≡ i
  found_has i row e h =
      let l = ix.ids in
      let g : take d.count l ≡ ids_of (sheet_of d) = t.ids ∙ ids_same d z f in
      let n = length-take-le d.count l (omega (arith, t.sizes.0, f.cells)) in
      ap₂ (λ (q : List ℕ) (k : ℕ). get_or q k 0) (sym g) e ∙ row_has i (take d.count l) (omega arith)

  pub kind_read : (row : ℕ) → row < d.count → get_or ix.kinds row 0 ≡ get_or (kinds d) row 0
  kind_read row h = sym (get_or-take d.count ix.kinds row 0 h) ∙ ap (λ (l : List ℕ). get_or l row 0) t.kinds

-- ---- the spans that counts of cycles give, and the room for other cycles
module _ (d : Drawing) (z : Sizes d) (row : ℕ) (at counts steps : List ℕ) (n m : ℕ) (e : take d.count at ≡ cycle_counts d)
    (w : Replaces d row counts n steps m) where
  cycles_read_lem : span_of 0 at (row_span d.count row) ≡ cycle_span d row
  cycles_read_lem =
      sym (span_take 0 at d.count (row_span d.count row) (let h = w.live in omega arith)) ∙ ap (λ (l : List ℕ). span_of 0 l (row_span d.count row)) e

  pub spans_read : (t : Spans) → t ≡ spans_of at d.count row d.cycles → (t.cycles ≡ cycle_span d row) × (t.steps ≡ step_span d row)
  spans_read t g =
      (ap (λ (q : Spans). q.cycles) g ∙ cycles_read_lem, ap (λ (q : Spans). q.steps) g ∙ ap (span_of 1 d.cycles) cycles_read_lem)

  pub cycle_room_lem : (s : Span) → s ≡ cycle_span d row → (s.first + s.count + s.rest ≤ 512) × (s.first + n + s.rest ≤ 512)
  cycle_room_lem s g =
      let u = ap (λ (q : Span). q.first) g in
      let v = ap (λ (q : Span). q.count) g in
      let t = ap (λ (q : Span). q.rest) g in
      let k = cycles_in_use d z w.fits row w.live in
      (omega (arith, w.fits.cycles), omega (arith, w.cycle_room, w.fits.cycles))

  pub step_room_lem : (s : Span) → s ≡ step_span d row → (s.first + s.count + s.rest ≤ 2048) × (s.first + m + s.rest ≤ 2048)
  step_room_lem s g =
      let u = ap (λ (q : Span). q.first) g in
      let v = ap (λ (q : Span). q.count) g in
      let t = ap (λ (q : Span). q.rest) g in
      let k = steps_in_use d z w.fits row w.live in
      (omega (arith, w.fits.steps), omega (arith, w.step_room, w.fits.steps))
