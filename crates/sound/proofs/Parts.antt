-- What a figure shows, in parts: vertices, edges, bends, cycles; and lookups in the rows of cells. Assumes nothing.
use Prim.Native.Nat.{ℕ, suc}
use mathlib.Core.Path.{◌≡◌, refl, ap, ap₂, sym, ◌∙◌}
use mathlib.Core.List.{List, [], ◌∷◌, map}
use mathlib.Core.Bool.{Bool, true, false, not, ◌&&◌, cond}
use mathlib.Core.Option.{Option, none, some}
use native.Mathlib.Omega.{arith}
use lib.Dec.{eqb}
use lib.ListN.{length, get_or}
use borrow.Author.Tests.{ne_eqb}
use Rattle.coordinate.specs.declared.Position.{Position}
use Rattle.coordinate.specs.Bounds.{within}
use Rattle.complex.specs.Lists.{all, is_empty}
use Rattle.complex.specs.Cells.{Figure, vertex, open_edge, closed_edge, face, LiveCell, lookup, some_if, is_vertex, is_open, is_closed, is_face, start_of, end_of}
use Rattle.complex.specs.Cells.{bends_of, cycles_of}
use Rattle.complex.specs.Sound.{cycle_ok, figure_ok}
use Rattle.store.specs.declared.Shape.{Shape}
use Rattle.store.specs.declared.Cell.{Cell}
use Rattle.store.specs.Places.{shape_of, entry_cell, figure_cycles, figure_bends}
use Rattle.store.specs.View.{bend_count, cycle_count}
use Rattle.store.specs.Index.{kind_of, shape_start, shape_end, row_of, value_at}
use Rattle.sound.specs.Soundness.{placed}
use Rattle.sound.specs.Rows.{is_vertex_in, edge_good}
use Rattle.sound.specs.Looks.{kind_number}

pub and_unit : (b : Bool) → b && true ≡ b
and_unit true = refl
and_unit false = refl

pub and_assoc : (a b c : Bool) → a && (b && c) ≡ (a && b) && c
and_assoc true b c = refl
and_assoc false b c = refl

module _ {A : Type 0} where
  pub all_same : (p q : A → Bool) → ((x : A) → p x ≡ q x) → (xs : List A) → all p xs ≡ all q xs
  all_same p q h [] = refl
  all_same p q h (x ∷ xs) = ap₂ ◌&&◌ (h x) (all_same p q h xs)

module _ {A B : Type 0} where
  pub all_map : (p : B → Bool) (f : A → B) (xs : List A) → all (λ (x : A). p (f x)) xs ≡ all p (map f xs)
  all_map p f [] = refl
  all_map p f (x ∷ xs) = ap (λ (b : Bool). p (f x) && b) (all_map p f xs)

-- ---- lookups in the rows of the cells
module _ (g : Option Figure → ℕ) (f : Shape → ℕ) (z : ℕ) (e : g none ≡ z) (h : (s : Figure) → g (some s) ≡ f (shape_of s)) where
  lookup_row : (xs : List LiveCell) (i : ℕ) → value_at z (map (λ (c : Cell). c.id) (map entry_cell xs)) (map (λ (c : Cell). f c.shape) (map entry_cell xs)) i
      ≡ g (lookup xs i)
  lookup_row [] i = sym e
  lookup_row (x ∷ xs) i = go (eqb x.id i) (lookup_row xs i)
    where
      go : (b : Bool) → value_at z (map (λ (c : Cell). c.id) (map entry_cell xs)) (map (λ (c : Cell). f c.shape) (map entry_cell xs)) i ≡ g (lookup xs i)
          → get_or (f (shape_of x.figure) ∷ map (λ (c : Cell). f c.shape) (map entry_cell xs))
          (cond b 0 (suc (row_of i (map (λ (c : Cell). c.id) (map entry_cell xs))))) z ≡ g (some_if b x.figure (lookup xs i))
      go true k = sym (h x.figure)
      go false k = k

-- what stands in the rows of a figure
same : (s : Figure) → (kind_number (some s) ≡ kind_of (shape_of s)) × (start_of (some s) ≡ shape_start (shape_of s)) × (end_of (some s) ≡ shape_end (shape_of s))
    × (length (bends_of (some s)) ≡ bend_count (shape_of s)) × (length (cycles_of (some s)) ≡ cycle_count (shape_of s))
same (vertex p) = (refl, refl, refl, refl, refl)
same (open_edge a b bs) = (refl, refl, refl, refl, refl)
same (closed_edge bs) = (refl, refl, refl, refl, refl)
same (face ks) = (refl, refl, refl, refl, refl)

-- the kind by number, and by name
named : (o : Option Figure) → (eqb (kind_number o) 0 ≡ is_vertex o) × (eqb (kind_number o) 1 ≡ is_open o)
    × (eqb (kind_number o) 2 ≡ is_closed o) × (eqb (kind_number o) 3 ≡ is_face o)
named none = (refl, refl, refl, refl)
named (some (vertex p)) = (refl, refl, refl, refl)
named (some (open_edge a b bs)) = (refl, refl, refl, refl)
named (some (closed_edge bs)) = (refl, refl, refl, refl)
named (some (face ks)) = (refl, refl, refl, refl)

module _ (o : Option Figure) where
  pub is_vertex_lem : eqb (kind_number o) 0 ≡ is_vertex o
  is_vertex_lem = (named o).0

  pub is_open_lem : eqb (kind_number o) 1 ≡ is_open o
  is_open_lem = (named o).1

  pub is_closed_lem : eqb (kind_number o) 2 ≡ is_closed o
  is_closed_lem = (named o).2

  pub is_face_lem : eqb (kind_number o) 3 ≡ is_face o
  is_face_lem = (named o).3

module _ (xs : List LiveCell) where
  abbrev pub id_row : List ℕ
  id_row = map (λ (c : Cell). c.id) (map entry_cell xs)

  abbrev pub kind_row : List ℕ
  kind_row = map (λ (c : Cell). kind_of c.shape) (map entry_cell xs)

  abbrev pub start_row : List ℕ
  start_row = map (λ (c : Cell). shape_start c.shape) (map entry_cell xs)

  abbrev pub end_row : List ℕ
  end_row = map (λ (c : Cell). shape_end c.shape) (map entry_cell xs)

  abbrev pub bend_row : List ℕ
  bend_row = map (λ (c : Cell). bend_count c.shape) (map entry_cell xs)

  abbrev pub cycle_row : List ℕ
  cycle_row = map (λ (c : Cell). cycle_count c.shape) (map entry_cell xs)

  pub kind_row_lem : (i : ℕ) → value_at 4 id_row kind_row i ≡ kind_number (lookup xs i)
  kind_row_lem i = lookup_row kind_number kind_of 4 refl (λ s. (same s).0) xs i

  pub start_row_lem : (i : ℕ) → value_at 0 id_row start_row i ≡ start_of (lookup xs i)
  start_row_lem i = lookup_row start_of shape_start 0 refl (λ s. (same s).1) xs i

  pub end_row_lem : (i : ℕ) → value_at 0 id_row end_row i ≡ end_of (lookup xs i)
  end_row_lem i = lookup_row end_of shape_end 0 refl (λ s. (same s).2) xs i

  pub bend_row_lem : (i : ℕ) → value_at 0 id_row bend_row i ≡ length (bends_of (lookup xs i))
  bend_row_lem i = lookup_row (λ (o : Option Figure). length (bends_of o)) bend_count 0 refl (λ s. (same s).3) xs i

  pub cycle_row_lem : (i : ℕ) → value_at 0 id_row cycle_row i ≡ length (cycles_of (lookup xs i))
  cycle_row_lem i = lookup_row (λ (o : Option Figure). length (cycles_of o)) cycle_count 0 refl (λ s. (same s).4) xs i

  pub vertex_row : (i : ℕ) → is_vertex_in id_row kind_row i ≡ is_vertex (lookup xs i)
  vertex_row i = ap (λ (k : ℕ). eqb k 0) (kind_row_lem i) ∙ is_vertex_lem (lookup xs i)

-- ---- what a figure shows, in parts
some_bends : (bs : List Position) → not (eqb (length bs) 0) ≡ not (is_empty bs)
some_bends [] = refl
some_bends (b ∷ bs) = ap not (ne_eqb (suc (length bs)) 0 (λ e. omega arith))

module _ (xs : List LiveCell) where
  -- a vertex in bounds; an edge's ends that are vertices, a closed edge's bend; bends; cycles
  pub figure_parts : (s : Figure) → figure_ok (lookup xs) s
      ≡ (placed (shape_of s) && edge_good (id_row xs) (kind_row xs) (kind_of (shape_of s)) (shape_start (shape_of s)) (shape_end (shape_of s)) (bend_count (shape_of s)))
      && (all within (figure_bends s) && all (cycle_ok (lookup xs)) (figure_cycles s))
  figure_parts (vertex p) = sym (and_unit (within p && true) ∙ and_unit (within p))
  figure_parts (open_edge a b bs) =
      and_assoc (is_vertex (lookup xs a)) (is_vertex (lookup xs b)) (all within bs)
      ∙ ap₂ ◌&&◌ (sym (ap₂ ◌&&◌ (vertex_row xs a) (vertex_row xs b))) (sym (and_unit (all within bs)))
  figure_parts (closed_edge bs) = ap₂ ◌&&◌ (sym (some_bends bs)) (sym (and_unit (all within bs)))
  figure_parts (face ks) = refl
