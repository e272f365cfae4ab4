-- Cells that come, in the row after the last. Assumes nothing.
use Prim.Native.Nat.{ℕ, ◌+◌, ◌-◌, ◌<◌}
use native.Mathlib.Omega.{arith}
use native.Mathlib.Numerals.{add-one}
use mathlib.Core.Path.{◌≡◌, refl, sym, ap, ◌∙◌, subst}
use mathlib.Core.Bool.{Bool, true, false}
use mathlib.Core.List.{List, [], ◌∷◌, ◌++◌}
use lib.Ieee.{Float}
use lib.Dec.{eqb}
use lib.ListN.{length, get_or, set, take, length-set}
use lib.Seq.{get_or-set_same, get_or-set_other, take-suc-set, take-add}
use borrow.Author.Tests.{eqb-true, eqb-false}
use Rattle.coordinate.specs.declared.Position.{Position}
use Rattle.complex.specs.Lists.{total}
use Rattle.complex.specs.Cells.{Figure, vertex, open_edge, closed_edge}
use Rattle.store.specs.declared.Shape.{Shape}
use Rattle.store.specs.declared.Shape.TheVariants.{Vertex, Open, Closed, Face}
use Rattle.store.specs.declared.Cell.{Cell}
use Rattle.store.specs.declared.Drawing.{Drawing}
use Rattle.store.specs.Index.{kind_of, shape_start, shape_end}
use Rattle.store.specs.View.{sheet_of, Fits, bend_total, bend_count, cycle_total, cycle_count}
use Rattle.store.specs.Sizes.{Sizes}
use Rattle.store.specs.Places.{shape_of, figure_cycles, figure_bends}
use Rattle.store.specs.Edits.{with_cells, appended}
use Rattle.store.proofs.Grow.{append_edge}
use Rattle.store.proofs.Lists.{sum_append}
use Rattle.rows_new.specs.Appends.{with_cell, CellRoom}
use Rattle.rows_new.specs.Runs.{run_at}
use Rattle.lent.specs.Arrays.{Arrays, shape_by, shape_at, position_in, positions_in, held_by, row_normal, normal_at, normal, Lengths}
use Rattle.lent.specs.Growing.{with_row, with_vertex, with_open, with_closed, with_face, across_with, up_with, RowPut, with_shape}
use Rattle.lent.proofs.Held.{held_sizes, cells_set, all_at, all_intro, place_other, place_same}

-- ---- a cell more has its own bends and cycles more
more : (g : Cell → ℕ) (d : Drawing) → Sizes d → d.count < 256 → (s : Shape)
    → total g (take (d.count + 1) (with_cell d s).cells) ≡ total g (take d.count d.cells) + g (record { id = d.next; shape = s })
more g d z h s =
    let c : Cell = record { id = d.next; shape = s } in
    ap (total g) (ap (λ (n : ℕ). take n (set d.cells d.count c)) (add-one d.count) ∙ take-suc-set d.cells d.count c (omega (arith, z.cells, h)))
    ∙ sum_append g (take d.count d.cells) (c ∷ []) ∙ omega arith

pub bend_more : (d : Drawing) → Sizes d → d.count < 256 → (s : Shape) → bend_total (with_cell d s) ≡ bend_total d + bend_count s
bend_more d z h s = more (λ x. bend_count x.shape) d z h s

pub cycle_more : (d : Drawing) → Sizes d → d.count < 256 → (s : Shape) → cycle_total (with_cell d s) ≡ cycle_total d + cycle_count s
cycle_more d z h s = more (λ x. cycle_count x.shape) d z h s

-- ---- any row
module _ (a : Arrays) (l : Lengths a) (k s e b c : ℕ) (xs ys : List Float) where
  abbrev after : Arrays
  after = with_row a k s e b c xs ys

  pub row_long : length xs ≡ 256 → length ys ≡ 256 → Lengths (with_row a k s e b c xs ys)
  row_long lx ly =
      let n = a.count in
      record {
        ids = length-set a.ids n a.next ∙ l.ids;
        kinds = length-set a.kinds n k ∙ l.kinds;
        starts = length-set a.starts n s ∙ l.starts;
        ends = length-set a.ends n e ∙ l.ends;
        bends = length-set a.bends n b ∙ l.bends;
        counts = length-set a.counts n c ∙ l.counts;
        px = lx;
        py = ly;
        cycles = l.cycles;
        steps = l.steps;
        bx = l.bx;
        by = l.by;
      }

  module _ (h : a.count < 256) where
    same : (ns : List ℕ) (v : ℕ) → length ns ≡ 256 → get_or (set ns a.count v) a.count 0 ≡ v
    same ns v q = get_or-set_same ns a.count v 0 (omega (arith, q, h))

    other : (ns : List ℕ) (v j : ℕ) → (j ≡ a.count → ⊥) → get_or (set ns a.count v) j 0 ≡ get_or ns j 0
    other ns v j n = get_or-set_other ns a.count j v 0 n

    here : shape_at after a.count ≡ shape_by k s e b c (position_in xs ys a.count)
    here =
        let q = same a.kinds k l.kinds in
        let x = same a.starts s l.starts in
        let y = same a.ends e l.ends in
        let u = same a.bends b l.bends in
        let v = same a.counts c l.counts in
        λ i. shape_by (q i) (x i) (y i) (u i) (v i) (position_in xs ys a.count)

    -- the rows before it are as they were
    pub row_held : ((j : ℕ) → (j ≡ a.count → ⊥) → position_in xs ys j ≡ position_in a.px a.py j)
        → held_by (with_row a k s e b c xs ys) ≡ with_cell (held_by a) (shape_by k s e b c (position_in xs ys a.count))
    row_held p =
        ap (with_cells (held_by a) (a.next + 1) (a.count + 1))
        (cells_set (shape_at a) (shape_at after) a.count a.next a.ids (omega (arith, l.ids, h)) there
        ∙ ap (λ (t : Shape). set (held_by a).cells a.count (record { id = a.next; shape = t })) here)
      where
        there : (j : ℕ) → (j ≡ a.count → ⊥) → shape_at after j ≡ shape_at a j
        there j n =
            let q = other a.kinds k j n in
            let x = other a.starts s j n in
            let y = other a.ends e j n in
            let u = other a.bends b j n in
            let v = other a.counts c j n in
            let w = p j n in
            λ i. shape_by (q i) (x i) (y i) (u i) (v i) (w i)

    pub row_normal_lem : row_normal k s e b c ≡ true → normal a ≡ true → normal (with_row a k s e b c xs ys) ≡ true
    row_normal_lem r m = all_intro (normal_at after.kinds after.starts after.ends after.bends after.counts) (a.count + 1) row
      where
        new : normal_at after.kinds after.starts after.ends after.bends after.counts a.count ≡ true
        new =
            let q = same a.kinds k l.kinds in
            let x = same a.starts s l.starts in
            let y = same a.ends e l.ends in
            let u = same a.bends b l.bends in
            let v = same a.counts c l.counts in
            (λ i. row_normal (q i) (x i) (y i) (u i) (v i)) ∙ r

        old : (j : ℕ) → (j ≡ a.count → ⊥) → j < a.count → normal_at after.kinds after.starts after.ends after.bends after.counts j ≡ true
        old j n g =
            let q = other a.kinds k j n in
            let x = other a.starts s j n in
            let y = other a.ends e j n in
            let u = other a.bends b j n in
            let v = other a.counts c j n in
            (λ i. row_normal (q i) (x i) (y i) (u i) (v i)) ∙ all_at (normal_at a.kinds a.starts a.ends a.bends a.counts) a.count j g m

        row : (j : ℕ) → j < a.count + 1 → normal_at after.kinds after.starts after.ends after.bends after.counts j ≡ true
        row j g = go (eqb j a.count) refl
          where
            go : (t : Bool) → eqb j a.count ≡ t → normal_at after.kinds after.starts after.ends after.bends after.counts j ≡ true
            go true q = ap (normal_at after.kinds after.starts after.ends after.bends after.counts) (eqb-true j a.count q) ∙ new
            go false q = let n = eqb-false j a.count q in old j n (below j a.count n g)
              where
                below : (x y : ℕ) → (x ≡ y → ⊥) → x < y + 1 → x < y
                below x y z u = omega (arith, z, u)

-- ---- a cell without cycles: its k bends are those that stand after those in use
plain_comes : (a : Arrays) → Lengths a → (x : Figure) (k : ℕ) (b : Arrays) → CellRoom (held_by a) x → figure_cycles x ≡ [] → length (figure_bends x) ≡ k
    → run_at (bend_total (held_by a)) k (positions_in a.bx a.by) ≡ figure_bends x → held_by b ≡ with_cell (held_by a) (shape_of x)
    → (sheet_of (held_by b) ≡ appended (sheet_of (held_by a)) x) × Fits (held_by b)
plain_comes a l x k b m n lk eb q =
    let d = held_by a in
    let z = held_sizes a l in
    let u = ap (λ (i : ℕ). take (bend_total d + i) d.bends) lk ∙ take-add (bend_total d) k d.bends
    ∙ ap (λ (r : List Position). take (bend_total d) d.bends ++ r) eb in
    let g = append_edge d z m.fits m.cells x d.bends n z.bends m.bends u in
    (ap sheet_of q ∙ g.0, subst Fits (sym q) g.1)

-- ---- a vertex
module _ (a : Arrays) (l : Lengths a) (p : Position) where
  pub vertex_long : Lengths (with_vertex a p)
  vertex_long =
      row_long a l 0 0 0 0 0 (set a.px a.count p.x) (set a.py a.count p.y)
      (length-set a.px a.count p.x ∙ l.px) (length-set a.py a.count p.y ∙ l.py)

  module _ (h : a.count < 256) where
    pub vertex_held : held_by (with_vertex a p) ≡ with_cell (held_by a) (Vertex p)
    vertex_held =
        row_held a l 0 0 0 0 0 (set a.px a.count p.x) (set a.py a.count p.y) h (λ j n. place_other a.px a.py a.count j p n)
        ∙ ap (λ (q : Position). with_cell (held_by a) (Vertex q)) (place_same a.px a.py a.count p (omega (arith, l.px, h)) (omega (arith, l.py, h)))

    pub vertex_normal : normal a ≡ true → normal (with_vertex a p) ≡ true
    vertex_normal m = row_normal_lem a l 0 0 0 0 0 (set a.px a.count p.x) (set a.py a.count p.y) h refl m

    pub vertex_bends : bend_total (held_by (with_vertex a p)) ≡ bend_total (held_by a)
    vertex_bends = ap bend_total vertex_held ∙ bend_more (held_by a) (held_sizes a l) h (Vertex p) ∙ omega arith

  pub vertex_comes : CellRoom (held_by a) (vertex p) → (sheet_of (held_by (with_vertex a p)) ≡ appended (sheet_of (held_by a)) (vertex p))
      × Fits (held_by (with_vertex a p))
  vertex_comes m = plain_comes a l (vertex p) 0 (with_vertex a p) m refl refl refl (vertex_held m.cells)

-- ---- an open edge
module _ (a : Arrays) (l : Lengths a) (s e k : ℕ) where
  pub open_long : Lengths (with_open a s e k)
  open_long = row_long a l 1 s e k 0 a.px a.py l.px l.py

  module _ (h : a.count < 256) where
    pub open_held : held_by (with_open a s e k) ≡ with_cell (held_by a) (Open s e k)
    open_held = row_held a l 1 s e k 0 a.px a.py h (λ j n. refl)

    pub open_normal : normal a ≡ true → normal (with_open a s e k) ≡ true
    open_normal m = row_normal_lem a l 1 s e k 0 a.px a.py h refl m

    pub open_bends : bend_total (held_by (with_open a s e k)) ≡ bend_total (held_by a) + k
    open_bends = ap bend_total open_held ∙ bend_more (held_by a) (held_sizes a l) h (Open s e k)

    pub open_cycles : cycle_total (held_by (with_open a s e k)) ≡ cycle_total (held_by a)
    open_cycles = ap cycle_total open_held ∙ cycle_more (held_by a) (held_sizes a l) h (Open s e k) ∙ omega arith

  pub open_comes : (bs : List Position) → CellRoom (held_by a) (open_edge s e bs) → length bs ≡ k
      → run_at (bend_total (held_by a)) k (positions_in a.bx a.by) ≡ bs
      → (sheet_of (held_by (with_open a s e k)) ≡ appended (sheet_of (held_by a)) (open_edge s e bs)) × Fits (held_by (with_open a s e k))
  open_comes bs m lk eb =
      plain_comes a l (open_edge s e bs) k (with_open a s e k) m refl lk eb (open_held m.cells ∙ ap (λ (n : ℕ). with_cell (held_by a) (Open s e n)) (sym lk))

-- ---- a closed edge of k bends; a face of the k cycles that stand after those in use, their steps after the steps in use
module _ (a : Arrays) (l : Lengths a) (k : ℕ) where
  pub closed_long : Lengths (with_closed a k)
  closed_long = row_long a l 2 0 0 k 0 a.px a.py l.px l.py

  pub face_long : Lengths (with_face a k)
  face_long = row_long a l 3 0 0 0 k a.px a.py l.px l.py

  module _ (h : a.count < 256) where
    pub closed_held : held_by (with_closed a k) ≡ with_cell (held_by a) (Closed k)
    closed_held = row_held a l 2 0 0 k 0 a.px a.py h (λ j n. refl)

    pub face_held : held_by (with_face a k) ≡ with_cell (held_by a) (Face k)
    face_held = row_held a l 3 0 0 0 k a.px a.py h (λ j n. refl)

    pub closed_normal : normal a ≡ true → normal (with_closed a k) ≡ true
    closed_normal m = row_normal_lem a l 2 0 0 k 0 a.px a.py h refl m

    pub face_normal : normal a ≡ true → normal (with_face a k) ≡ true
    face_normal m = row_normal_lem a l 3 0 0 0 k a.px a.py h refl m

    pub closed_cycles : cycle_total (held_by (with_closed a k)) ≡ cycle_total (held_by a)
    closed_cycles = ap cycle_total closed_held ∙ cycle_more (held_by a) (held_sizes a l) h (Closed k) ∙ omega arith

  pub closed_comes : (bs : List Position) → CellRoom (held_by a) (closed_edge bs) → length bs ≡ k
      → run_at (bend_total (held_by a)) k (positions_in a.bx a.by) ≡ bs
      → (sheet_of (held_by (with_closed a k)) ≡ appended (sheet_of (held_by a)) (closed_edge bs)) × Fits (held_by (with_closed a k))
  closed_comes bs m lk eb =
      plain_comes a l (closed_edge bs) k (with_closed a k) m refl lk eb (closed_held m.cells ∙ ap (λ (n : ℕ). with_cell (held_by a) (Closed n)) (sym lk))

-- ---- a cell of whatever shape
module _ (a : Arrays) (l : Lengths a) where
  pub shape_long : (x : Shape) → Lengths (with_shape a x)
  shape_long (Vertex p) = vertex_long a l p
  shape_long (Open s e n) = open_long a l s e n
  shape_long (Closed n) = closed_long a l n
  shape_long (Face k) = face_long a l k

  module _ (h : a.count < 256) where
    pub shape_held : (x : Shape) → held_by (with_shape a x) ≡ with_cell (held_by a) x
    shape_held (Vertex p) = vertex_held a l p h
    shape_held (Open s e n) = open_held a l s e n h
    shape_held (Closed n) = closed_held a l n h
    shape_held (Face k) = face_held a l k h

    pub shape_normal : normal a ≡ true → (x : Shape) → normal (with_shape a x) ≡ true
    shape_normal m (Vertex p) = vertex_normal a l p h m
    shape_normal m (Open s e n) = open_normal a l s e n h m
    shape_normal m (Closed n) = closed_normal a l n h m
    shape_normal m (Face k) = face_normal a l k h m

-- ---- a row that is written, of the shape y that x is
module _ (row i : ℕ) (x y : Shape) (e : x ≡ y) (is ks ss es bs cs : List ℕ) (xs ys : List Float) (is' ks' ss' es' bs' cs' : List ℕ) (xs' ys' : List Float)
  where
    pub row_as : is' ≡ set is row i → ks' ≡ set ks row (kind_of y) → ss' ≡ set ss row (shape_start y) → es' ≡ set es row (shape_end y)
        → bs' ≡ set bs row (bend_count y) → cs' ≡ set cs row (cycle_count y)
        → xs' ≡ across_with xs row y → ys' ≡ up_with ys row y → RowPut row i x is ks ss es bs cs xs ys is' ks' ss' es' bs' cs' xs' ys'
    row_as e0 e1 e2 e3 e4 e5 e6 e7 =
        subst (λ (z : Shape). RowPut row i z is ks ss es bs cs xs ys is' ks' ss' es' bs' cs' xs' ys') (sym e)
        (record { ids = e0; kinds = e1; starts = e2; ends = e3; bends = e4; counts = e5; px = e6; py = e7 })
