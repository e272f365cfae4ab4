-- One cell of a struct, where the counts up to it keep within the arrays, whatever those after it do. Assumes nothing.
use Prim.Native.Nat.{ℕ, zero, suc, ◌+◌, ◌<◌, ◌≤◌}
use mathlib.Core.Path.{◌≡◌, refl, ap, ap₂, sym, ◌∙◌}
use mathlib.Core.List.{List, [], ◌∷◌, map}
use mathlib.Core.Bool.{Bool, true, ◌&&◌}
use native.Mathlib.Omega.{arith}
use native.Mathlib.Numerals.{add-one}
use lib.Dec.{leb}
use lib.ListN.{length, take, drop, get_or, length-drop, get_or-map}
use lib.Seq.{length-take-le, take-take, get_or-take, drop-cons}
use borrow.Author.Tests.{le-leb}
use Rattle.coordinate.specs.declared.Position.{Position}
use Rattle.coordinate.specs.Bounds.{within}
use Rattle.complex.specs.Lists.{all, total}
use Rattle.complex.specs.Cells.{Cycle, lone, Figure, face, LiveCell, lookup, ids}
use Rattle.complex.specs.Sound.{cycle_ok, figure_ok, totals_ok, cells_most, cycles_most, bends_most}
use Rattle.complex.specs.Visits.{figure_in}
use Rattle.complex.proofs.Bools.{truth, both_true}
use Rattle.store.specs.declared.Shape.{Shape}
use Rattle.store.specs.declared.Shape.TheVariants.{Vertex, Open, Closed, Face}
use Rattle.store.specs.declared.Cell.{Cell}
use Rattle.store.specs.declared.Drawing.{Drawing}
use Rattle.store.specs.Sizes.{Sizes}
use Rattle.store.specs.Edits.{with_cells}
use Rattle.store.specs.Index.{kind_of, shape_start, shape_end}
use Rattle.store.specs.Places.{shape_of, figure_cycles, figure_bends, entry_cell}
use Rattle.store.specs.View.{sheet_of, Fits, figure_of, cells_of, cycles_from, bend_count, cycle_count, bend_sum, cycle_sum, width_sum}
use Rattle.store.proofs.Lists.{sum_more}
use Rattle.store.proofs.Encode.{length_cycles, length_cells, cycle_at_lem, cell_at_lem, figure_shape, figure_parts as parts_of_lem}
use Rattle.store.proofs.Stands.{heads_ids}
use Rattle.sound.specs.Soundness.{fits_upto, placed}
use Rattle.sound.specs.Rows.{Rows, edge_good, cycle_good, all_from}
use Rattle.sound.proofs.Testing.{range_same}
use Rattle.sound.proofs.Parts.{id_row, kind_row, figure_parts}
use Rattle.sound.proofs.Rings.{cell_rows, cycle_right_lem}
use Rattle.sound.proofs.Meaning.{fits_is}
use Rattle.sound.proofs.Ceilings.{in_ceilings}

-- ---- what the view keeps of the cells, whatever cycles and bends there are
module _ {A : Type 0} (f : Shape → A) (same : (s : Shape) (ks : List Cycle) (bs : List Position) → f (shape_of (figure_of s ks bs)) ≡ f s) where
  shapes_kept : (cs : List Cell) (ks : List Cycle) (bs : List Position)
      → map (λ (c : Cell). f c.shape) (map entry_cell (cells_of cs ks bs)) ≡ map (λ (c : Cell). f c.shape) cs
  shapes_kept [] ks bs = refl
  shapes_kept (c ∷ cs) ks bs =
      ap₂ (λ (x : A) (l : List A). x ∷ l) (same c.shape ks bs) (shapes_kept cs (drop (cycle_count c.shape) ks) (drop (bend_count c.shape) bs))

kind_kept : (s : Shape) (ks : List Cycle) (bs : List Position) → kind_of (shape_of (figure_of s ks bs)) ≡ kind_of s
kind_kept (Vertex p) ks bs = refl
kind_kept (Open s e n) ks bs = refl
kind_kept (Closed n) ks bs = refl
kind_kept (Face k) ks bs = refl

start_kept : (s : Shape) (ks : List Cycle) (bs : List Position) → shape_start (shape_of (figure_of s ks bs)) ≡ shape_start s
start_kept (Vertex p) ks bs = refl
start_kept (Open s e n) ks bs = refl
start_kept (Closed n) ks bs = refl
start_kept (Face k) ks bs = refl

end_kept : (s : Shape) (ks : List Cycle) (bs : List Position) → shape_end (shape_of (figure_of s ks bs)) ≡ shape_end s
end_kept (Vertex p) ks bs = refl
end_kept (Open s e n) ks bs = refl
end_kept (Closed n) ks bs = refl
end_kept (Face k) ks bs = refl

ids_kept : (cs : List Cell) (ks : List Cycle) (bs : List Position) → ids (cells_of cs ks bs) ≡ map (λ (c : Cell). c.id) cs
ids_kept [] ks bs = refl
ids_kept (c ∷ cs) ks bs = ap (λ (l : List ℕ). c.id ∷ l) (ids_kept cs (drop (cycle_count c.shape) ks) (drop (bend_count c.shape) bs))

cells_first : (k : ℕ) (cs : List Cell) (ks : List Cycle) (bs : List Position) → take k (cells_of cs ks bs) ≡ cells_of (take k cs) ks bs
cells_first zero cs ks bs = refl
cells_first (suc k) [] ks bs = refl
cells_first (suc k) (c ∷ cs) ks bs =
    ap (λ (l : List LiveCell). record { id = c.id; figure = figure_of c.shape ks bs } ∷ l)
    (cells_first k cs (drop (cycle_count c.shape) ks) (drop (bend_count c.shape) bs))

figure_at_lem : (cs : List Cell) (ks : List Cycle) (bs : List Position) (j : ℕ) (c : Cell) → j < length cs
    → figure_in (cells_of cs ks bs) j ≡ figure_of (get_or cs j c).shape (drop (cycle_sum (take j cs)) ks) (drop (bend_sum (take j cs)) bs)
figure_at_lem cs ks bs j c h =
    let none : LiveCell = record { id = 0; figure = face [] } in
    get_or-map (λ (x : LiveCell). x.figure) (cells_of cs ks bs) j none ∙ ap (λ (x : LiveCell). x.figure) (cell_at_lem cs ks bs j none c h)

-- ---- tests of a part of a list, by number
all_range : {A : Type 0} (p : A → Bool) (z : A) (l : List A) (k m : ℕ) → k + m ≤ length l
    → all p (take m (drop k l)) ≡ all_from (λ (i : ℕ). p (get_or l i z)) k m
all_range p z l k zero h = refl
all_range {A} p z l k (suc m) h =
    ap (λ (x : List A). all p (take (suc m) x)) (drop-cons l k z (omega arith))
    ∙ ap (λ (b : Bool). p (get_or l k z) && b) (all_range p z l (suc k) m (omega arith))

-- ---- the cells of a struct
-- the struct with so many cells
abbrev first_cells : Drawing → ℕ → Drawing
first_cells d k = with_cells d d.next k d.cells

-- the rows of its shapes
abbrev pub shape_rows : Drawing → Rows
shape_rows d =
    record {
      ids = map (λ (c : Cell). c.id) (take d.count d.cells);
      kinds = map (λ (c : Cell). kind_of c.shape) (take d.count d.cells);
      starts = map (λ (c : Cell). shape_start c.shape) (take d.count d.cells);
      ends = map (λ (c : Cell). shape_end c.shape) (take d.count d.cells);
    }

module _ (d : Drawing) where
  pub sheet_ids : ids (sheet_of d).cells ≡ map (λ (c : Cell). c.id) (take d.count d.cells)
  unfolding sheet_of
  sheet_ids = ids_kept (take d.count d.cells) (cycles_from d.cycles d.steps) d.bends

  pub sheet_rows : cell_rows (sheet_of d).cells ≡ shape_rows d
  unfolding sheet_of
  sheet_rows =
      let cs = take d.count d.cells in
      let ks = cycles_from d.cycles d.steps in
      λ i.
      record {
        ids = (heads_ids (cells_of cs ks d.bends) ∙ ids_kept cs ks d.bends) i;
        kinds = shapes_kept kind_of kind_kept cs ks d.bends i;
        starts = shapes_kept shape_start start_kept cs ks d.bends i;
        ends = shapes_kept shape_end end_kept cs ks d.bends i;
      }

  first_cells_lem : (k : ℕ) → k ≤ d.count → take k (sheet_of d).cells ≡ (sheet_of (first_cells d k)).cells
  unfolding sheet_of
  first_cells_lem k h =
      cells_first k (take d.count d.cells) (cycles_from d.cycles d.steps) d.bends
      ∙ ap (λ (cs : List Cell). cells_of cs (cycles_from d.cycles d.steps) d.bends) (take-take k d.count d.cells h)

  module _ (z : Sizes d) (few : d.count ≤ cells_most) where
    pub sheet_count : length (sheet_of d).cells ≡ d.count
    unfolding sheet_of
    sheet_count =
        length_cells (take d.count d.cells) (cycles_from d.cycles d.steps) d.bends
        ∙ length-take-le d.count d.cells (omega (arith, z.cells, few))

    -- the counts of the first cells, and the totals of the first cells of the drawing
    module _ (k : ℕ) (h : k ≤ d.count) (f : fits_upto d k ≡ true) where
      first_fits : Fits (first_cells d k)
      first_fits = fits_is (first_cells d k) (truth (ap₂ ◌&&◌ (le-leb k cells_most (omega (arith, h, few))) f))

      pub totals_upto_lem : totals_ok (take k (sheet_of d).cells) ≡ true
      totals_upto_lem =
          ap totals_ok (first_cells_lem k h)
          ∙ (both_true (leb (length (sheet_of (first_cells d k)).cells) cells_most) _
          (in_ceilings (first_cells d k) (record { cells = z.cells; cycles = z.cycles; steps = z.steps; bends = z.bends }) first_fits)).1

    -- the figure of the cell in row j
    module _ (j : ℕ) (h : j < d.count) (f : fits_upto d (suc j) ≡ true) (c : Cell) (p : Position) where
      abbrev shape : Shape
      shape = (get_or d.cells j c).shape

      abbrev xs : List LiveCell
      xs = (sheet_of d).cells

      abbrev cycles_before : ℕ
      cycles_before = cycle_sum (take j d.cells)

      abbrev bends_before : ℕ
      bends_before = bend_sum (take j d.cells)

      sum_with : (g : Cell → ℕ) → total g (take (suc j) d.cells) ≡ total g (take j d.cells) + g (get_or d.cells j c)
      sum_with g = ap (λ (n : ℕ). total g (take n d.cells)) (sym (add-one j)) ∙ sum_more g d.cells j c (omega (arith, h, few, z.cells))

      cycles_room : cycles_before + cycle_count shape ≤ cycles_most
      cycles_room = let s = sum_with (λ (x : Cell). cycle_count x.shape) in omega (arith, s, (first_fits (suc j) (omega (arith, h)) f).cycles)

      bends_room : bends_before + bend_count shape ≤ bends_most
      bends_room = let s = sum_with (λ (x : Cell). bend_count x.shape) in omega (arith, s, (first_fits (suc j) (omega (arith, h)) f).bends)

      figure_is : figure_in xs j ≡ figure_of shape (drop cycles_before (cycles_from d.cycles d.steps)) (drop bends_before d.bends)
      unfolding sheet_of
      figure_is =
          let ks = cycles_from d.cycles d.steps in
          figure_at_lem (take d.count d.cells) ks d.bends j c
          (let l = length-take-le d.count d.cells (omega (arith, z.cells, few)) in omega (arith, l, h))
          ∙ ap₂ (λ (x : Cell) (y : List Cell). figure_of x.shape (drop (cycle_sum y) ks) (drop (bend_sum y) d.bends))
          (get_or-take d.count d.cells j c h) (take-take j d.count d.cells (omega (arith, h)))

      shape_is : shape_of (figure_in xs j) ≡ shape
      shape_is =
          let ks = cycles_from d.cycles d.steps in
          ap shape_of figure_is
          ∙ figure_shape shape (drop cycles_before ks) (drop bends_before d.bends)
          (let a = length-drop cycles_before ks in let b = length_cycles d.cycles d.steps in omega (arith, a, b, cycles_room, z.cycles))
          (let a = length-drop bends_before d.bends in omega (arith, a, bends_room, z.bends))

      -- it is right if its own numbers are, and the bends and cycles in its places
      pub figure_tests : figure_ok (lookup xs) (figure_in xs j)
          ≡ (placed shape && edge_good (id_row xs) (kind_row xs) (kind_of shape) (shape_start shape) (shape_end shape) (bend_count shape))
          && (all_from (λ (i : ℕ). within (get_or d.bends i p)) bends_before (bend_count shape)
          && all_from (λ (i : ℕ). cycle_good (cell_rows xs) (get_or d.cycles i 0) (drop (width_sum (take i d.cycles)) d.steps))
          cycles_before (cycle_count shape))
      figure_tests =
          let ks = cycles_from d.cycles d.steps in
          let long : cycles_before + cycle_count shape ≤ length ks =
          let b = length_cycles d.cycles d.steps in omega (arith, b, cycles_room, z.cycles) in
          figure_parts xs (figure_in xs j)
          ∙ ap₂ ◌&&◌
          (ap (λ (s : Shape). placed s && edge_good (id_row xs) (kind_row xs) (kind_of s) (shape_start s) (shape_end s) (bend_count s)) shape_is)
          (ap₂ ◌&&◌
          (ap (λ (x : Figure). all within (figure_bends x)) figure_is
          ∙ ap (all within) (parts_of_lem shape (drop cycles_before ks) (drop bends_before d.bends)).1
          ∙ all_range within p d.bends bends_before (bend_count shape) (omega (arith, bends_room, z.bends)))
          (ap (λ (x : Figure). all (cycle_ok (lookup xs)) (figure_cycles x)) figure_is
          ∙ ap (all (cycle_ok (lookup xs))) (parts_of_lem shape (drop cycles_before ks) (drop bends_before d.bends)).0
          ∙ all_range (cycle_ok (lookup xs)) (lone 0) ks cycles_before (cycle_count shape) long
          ∙ range_same _ _ cycles_before (cycle_count shape)
          (λ i u v.
          ap (cycle_ok (lookup xs)) (cycle_at_lem d.cycles d.steps i (lone 0) (omega (arith, v, cycles_room, z.cycles)))
          ∙ sym (cycle_right_lem xs (get_or d.cycles i 0) (drop (width_sum (take i d.cycles)) d.steps)))))
