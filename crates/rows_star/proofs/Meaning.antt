-- What is read off the rows and the pools of a drawing is what its sheet says of the star. Assumes nothing.
use Prim.Native.Nat.{ℕ, suc}
use mathlib.Core.Path.{◌≡◌, refl, ap, ap₂, sym, ◌∙◌}
use mathlib.Core.List.{List, [], ◌∷◌, ◌++◌, map}
use mathlib.Core.Bool.{Bool, true, false, ◌||◌, cond}
use mathlib.Core.Option.{some}
use native.Mathlib.Omega.{arith}
use lib.Dec.{eqb}
use lib.ListN.{length, take, get_or, length-map}
use lib.Seq.{take_at, drop_at}
use Rattle.number.specs.Readers.{spread}
use Rattle.complex.specs.Lists.{any, cons_if, filter, holds}
use Rattle.complex.specs.Cells.{Halfedge, Cycle, lone, path, Figure, vertex, open_edge, closed_edge, face, LiveCell, lookup, some_if, cell_at, ids}
use Rattle.complex.specs.Boundary.{ends_of, cycle_boundary, bounds, star}
use Rattle.complex.proofs.Bools.{or_none, or_assoc}
use Rattle.store.specs.declared.Drawing.{Drawing}
use Rattle.store.specs.declared.Index.{Index}
use Rattle.store.specs.Sizes.{Sizes}
use Rattle.store.specs.View.{sheet_of, Fits, cycles_from, cycle_count, width_sum}
use Rattle.store.specs.Places.{shape_of, figure_cycles, entry_cycles}
use Rattle.store.specs.Index.{kind_of, shape_start, shape_end, Indexes, Rising, row_of}
use Rattle.store.proofs.Lists.{map_append}
use Rattle.store.proofs.Stands.{used_cycles}
use Rattle.sound.proofs.Parts.{id_row, kind_row, start_row, end_row, cycle_row}
use Rattle.sound.proofs.Meaning.{ids_are, kinds_are, starts_are, ends_are, cycles_are}
use Rattle.rows_marks.specs.Marks.{ends_there, edge_marks, mark_at, any_of, sum_of, cell_marks}
use Rattle.rows_marks.proofs.Marking.{any_map, counts_sum}
use Rattle.rows_star.specs.Marks.{step_holds, cycle_holds, star_marks, Readable, picked}
use Rattle.rows_star.proofs.Marking.{map_same}

-- ---- lists
holds_append : (n : ℕ) (xs ys : List ℕ) → holds n (xs ++ ys) ≡ holds n xs || holds n ys
holds_append n [] ys = refl
holds_append n (x ∷ xs) ys = ap (λ (b : Bool). eqb n x || b) (holds_append n xs ys) ∙ or_assoc (eqb n x) (holds n xs) (holds n ys)

module _ {A : Type 0} where
  -- the lists of some element hold n
  any_holds : (n : ℕ) (f : A → List ℕ) (q : A → Bool) → ((x : A) → q x ≡ holds n (f x)) → (xs : List A) → any q xs ≡ holds n (spread f xs)
  any_holds n f q h [] = refl
  any_holds n f q h (x ∷ xs) = ap₂ ◌||◌ (h x) (any_holds n f q h xs) ∙ sym (holds_append n (f x) (spread f xs))

  picked_filter : (p : A → Bool) (f : A → ℕ) (xs : List A) → picked (map p xs) (map f xs) ≡ map f (filter p xs)
  picked_filter p f [] = refl
  picked_filter p f (x ∷ xs) = ap (cons_if (p x) (f x)) (picked_filter p f xs) ∙ go (p x)
    where
      go : (b : Bool) → cons_if b (f x) (map f (filter p xs)) ≡ map f (cons_if b x (filter p xs))
      go true = refl
      go false = refl

-- ---- the rows of cells
id_row_lem : (xs : List LiveCell) → id_row xs ≡ ids xs
id_row_lem [] = refl
id_row_lem (x ∷ xs) = ap (λ (r : List ℕ). x.id ∷ r) (id_row_lem xs)

-- ---- the star
module _ (i : ℕ) where
  -- whether a cell is an edge with an end at i
  abbrev ending : LiveCell → Bool
  ending x = holds i (ends_of (some x.figure))

  ends_shape : (s : Figure) → ends_there i (kind_of (shape_of s)) (shape_start (shape_of s)) (shape_end (shape_of s)) ≡ holds i (ends_of (some s))
  ends_shape (vertex p) = refl
  ends_shape (open_edge a b bs) = ap (λ (x : Bool). eqb i a || x) (sym (or_none (eqb i b)))
  ends_shape (closed_edge bs) = refl
  ends_shape (face ks) = refl

  edge_row : (xs : List LiveCell) → edge_marks i (kind_row xs) (start_row xs) (end_row xs) ≡ map ending xs
  edge_row [] = refl
  edge_row (x ∷ xs) = ap₂ (λ (b : Bool) (bs : List Bool). b ∷ bs) (ends_shape x.figure) (edge_row xs)

  mark_row : (xs : List LiveCell) (e : ℕ) → mark_at (id_row xs) (map ending xs) e ≡ holds i (ends_of (lookup xs e))
  mark_row [] e = refl
  mark_row (x ∷ xs) e = go (eqb x.id e) (mark_row xs e)
    where
      go : (b : Bool) → mark_at (id_row xs) (map ending xs) e ≡ holds i (ends_of (lookup xs e))
          → get_or (ending x ∷ map ending xs) (cond b 0 (suc (row_of e (id_row xs)))) false ≡ holds i (ends_of (some_if b x.figure (lookup xs e)))
      go true h = refl
      go false h = h

  module _ (xs : List LiveCell) where
    cycle_row_lem : (k : Cycle) → cycle_holds (id_row xs) (map ending xs) i k ≡ holds i (cycle_boundary (lookup xs) k)
    cycle_row_lem (lone v) = sym (or_none (eqb i v))
    cycle_row_lem (path hs) =
        any_holds i (λ (h : Halfedge). h.edge ∷ ends_of (lookup xs h.edge)) (step_holds (id_row xs) (map ending xs) i)
        (λ h. ap (λ (b : Bool). eqb i h.edge || b) (mark_row xs h.edge)) hs

    abbrev on_cycle : Cycle → Bool
    on_cycle k = holds i (cycle_boundary (lookup xs) k)

    cell_row : (s : Figure) → holds i (ends_of (some s)) || any on_cycle (figure_cycles s) ≡ bounds (lookup xs) i s
    cell_row (vertex p) = refl
    cell_row (open_edge a b bs) = or_none (holds i (a ∷ b ∷ []))
    cell_row (closed_edge bs) = refl
    cell_row (face ks) = any_holds i (cycle_boundary (lookup xs)) on_cycle (λ k. refl) ks

  any_of_lem : {A : Type 0} (q : A → Bool) (xs : List A) → any_of (map q xs) ≡ any q xs
  any_of_lem q xs = sym (any_map (λ (b : Bool). b) q xs)

  count_length : (s : Figure) → cycle_count (shape_of s) ≡ length (figure_cycles s)
  count_length (vertex p) = refl
  count_length (open_edge a b bs) = refl
  count_length (closed_edge bs) = refl
  count_length (face ks) = refl

  cells_row : (q : Cycle → Bool) (xs : List LiveCell) → cell_marks (map ending xs) (cycle_row xs) (map q (spread entry_cycles xs))
      ≡ map (λ (x : LiveCell). ending x || any q (entry_cycles x)) xs
  cells_row q [] = refl
  cells_row q (x ∷ xs) =
      let a = map q (entry_cycles x) in
      let b = map q (spread entry_cycles xs) in
      let n : length (map q (entry_cycles x)) ≡ cycle_count (shape_of x.figure) = length-map (entry_cycles x) q ∙ sym (count_length x.figure) in
      ap (cell_marks (map ending (x ∷ xs)) (cycle_row (x ∷ xs))) (map_append q (entry_cycles x) (spread entry_cycles xs))
      ∙ ap₂ (λ (u v : List Bool). (ending x || any_of u) ∷ cell_marks (map ending xs) (cycle_row xs) v) (take_at a b (cycle_count (shape_of x.figure)) n)
      (drop_at a b (cycle_count (shape_of x.figure)) n)
      ∙ ap₂ (λ (y : Bool) (ys : List Bool). (ending x || y) ∷ ys) (any_of_lem q (entry_cycles x)) (cells_row q xs)

  -- the marks of cells whose cycles are those of the pools
  stars_row : (xs : List LiveCell) (ns st : List ℕ) → spread entry_cycles xs ≡ cycles_from (take (sum_of (cycle_row xs)) ns) st
      → star_marks (id_row xs) (kind_row xs) (start_row xs) (end_row xs) (cycle_row xs) ns st i ≡ map (λ (c : LiveCell). bounds (lookup xs) i c.figure) xs
  unfolding star_marks
  stars_row xs ns st e =
      ap₂ (λ (ms : List Bool) (ks : List Cycle). cell_marks ms (cycle_row xs) (map (cycle_holds (id_row xs) ms i) ks)) (edge_row xs) (sym e)
      ∙ ap (cell_marks (map ending xs) (cycle_row xs)) (map_same (cycle_holds (id_row xs) (map ending xs) i) (on_cycle xs) (cycle_row_lem xs) (spread entry_cycles xs))
      ∙ cells_row (on_cycle xs) xs
      ∙ map_same (λ (x : LiveCell). ending x || any (on_cycle xs) (entry_cycles x)) (λ (c : LiveCell). bounds (lookup xs) i c.figure)
      (λ x. cell_row xs x.figure) xs

-- ---- of a drawing
module _ (d : Drawing) (z : Sizes d) (f : Fits d) (t : Index) (x : Indexes d t) where
  -- the rows can be read
  pub readable : Rising (take d.count t.ids) → Readable t.ids t.kinds t.starts t.ends t.cycles d.count d.cycles d.steps
  readable r =
      record {
        rows = f.cells;
        ids = x.sizes.0;
        kinds = x.sizes.1;
        starts = x.sizes.2;
        ends = x.sizes.3;
        counts = x.sizes.5;
        cycles = z.cycles;
        steps = z.steps;
        rising = r;
        cycles_fit = omega (arith, counts_sum d t x, f.cycles);
        steps_fit = omega (arith, ap (λ (n : ℕ). width_sum (take n d.cycles)) (counts_sum d t x), f.steps);
      }

  -- a cell is marked if its boundary holds i
  pub marks_meant : (i : ℕ)
      → star_marks (take d.count t.ids) (take d.count t.kinds) (take d.count t.starts) (take d.count t.ends)
      (take d.count t.cycles) d.cycles d.steps i
      ≡ map (λ (c : LiveCell). bounds (cell_at (sheet_of d)) i c.figure) (sheet_of d).cells
  marks_meant i =
      ap₂ (λ (a b : List ℕ). star_marks a b (take d.count t.starts) (take d.count t.ends) (take d.count t.cycles) d.cycles d.steps i)
      (ids_are d z f t x) (kinds_are d z f t x)
      ∙ ap₂ (λ (a b : List ℕ). star_marks (id_row (sheet_of d).cells) (kind_row (sheet_of d).cells) a b (take d.count t.cycles) d.cycles d.steps i)
      (starts_are d z f t x) (ends_are d z f t x)
      ∙ ap (λ (a : List ℕ). star_marks (id_row (sheet_of d).cells) (kind_row (sheet_of d).cells) (start_row (sheet_of d).cells) (end_row (sheet_of d).cells) a
      d.cycles d.steps i) (cycles_are d z f t x)
      ∙ stars_row i (sheet_of d).cells d.cycles d.steps
      (used_cycles d z f ∙ ap (λ (n : ℕ). cycles_from (take n d.cycles) d.steps) (sym (counts_sum d t x) ∙ ap sum_of (cycles_are d z f t x)))

  -- the ids of the marked rows are the star
  pub star_meant : (i : ℕ)
      → picked (star_marks (take d.count t.ids) (take d.count t.kinds) (take d.count t.starts) (take d.count t.ends)
      (take d.count t.cycles) d.cycles d.steps i) (take d.count t.ids)
      ≡ star (sheet_of d).cells i
  star_meant i =
      ap₂ (λ (a : List Bool) (b : List ℕ). picked a b) (marks_meant i) (ids_are d z f t x ∙ id_row_lem (sheet_of d).cells)
      ∙ picked_filter (λ (c : LiveCell). bounds (lookup (sheet_of d).cells) i c.figure) (λ (c : LiveCell). c.id) (sheet_of d).cells
