-- The cell in a row, where its bends stand, and a drawing with copies of it. Assumes nothing.
use Prim.Native.Nat.{ℕ, zero, suc, ◌+◌, ◌*◌, ◌<◌, ◌≤◌}
use mathlib.Core.Path.{◌≡◌, refl, ap, ap₂, sym, subst, ◌∙◌}
use mathlib.Core.Bool.{false, false≢true}
use mathlib.Core.List.{List, [], ◌∷◌, ◌++◌, map, append_assoc, append-nil}
use mathlib.Core.Option.{some}
use native.Mathlib.Omega.{arith}
use lib.ListN.{length, take, drop, get_or, replicate, length-replicate, length-append, get_or-map}
use lib.Seq.{paste, length-paste, take-paste, take-length, take_all, take_at, drop_at, take-take, get_or-take, split_at}
use Rattle.coordinate.specs.declared.Position.{Position}
use Rattle.number.specs.Readers.{spread}
use Rattle.complex.specs.Cells.{Cycle, Figure, vertex, open_edge, closed_edge, face, LiveCell, is_face, origin}
use Rattle.complex.specs.Edits.{numbered}
use Rattle.store.specs.declared.Shape.{Shape}
use Rattle.store.specs.declared.Cell.{Cell}
use Rattle.store.specs.declared.Drawing.{Drawing}
use Rattle.store.specs.Sizes.{Sizes}
use Rattle.store.specs.Sheet.{all_real}
use Rattle.store.specs.View.{sheet_of, Fits, bend_count, bend_sum, bend_total}
use Rattle.store.specs.Places.{shape_of, entry_cell, figure_cycles, figure_bends, entry_cycles, entry_bends}
use Rattle.store.specs.Edits.{with_bends, with_cells}
use Rattle.store.proofs.Lists.{map_append}
use Rattle.store.proofs.Encode.{flat_append, bend_sum_lem}
use Rattle.store.proofs.Rows.{get_d_any}
pub use Rattle.store.proofs.Rows.{row_lookup}
use Rattle.store.proofs.Stands.{begins_split, Stands, stands, viewed, fitting, bend_total_lem, count_is}
use Rattle.store.proofs.Grow.{begins_more, sheet_is, next_is}
use Rattle.rows_new.specs.Appends.{appended_all, figure_at, with_more_bends}
use Rattle.rows_new.specs.Runs.{run_at}
use Rattle.rows_new.specs.Copies.{repeated, copy_cells}
use Rattle.rows_new.specs.Requirements.{CopiesRoom}
use Rattle.rows_new.proofs.CopyLists.{repeated_length, copies_length, copy_heads, copy_bends, copy_cycles}

take_map : {A B : Type 0} (f : A → B) (n : ℕ) (l : List A) → take n (map f l) ≡ map f (take n l)
take_map f zero l = refl
take_map f (suc n) [] = refl
take_map {A} {B} f (suc n) (x ∷ l) = ap (λ (r : List B). f x ∷ r) (take_map f n l)

abbrev none : LiveCell
none = record { id = 0; figure = vertex origin }

bends_counted : (x : Figure) → bend_count (shape_of x) ≡ length (figure_bends x)
bends_counted (vertex p) = refl
bends_counted (open_edge a b bs) = refl
bends_counted (closed_edge bs) = refl
bends_counted (face ks) = refl

module _ (d : Drawing) (z : Sizes d) (f : Fits d) (row : ℕ) (h : row < d.count) where
  abbrev xs : List LiveCell
  xs = (sheet_of d).cells

  in_rows : row < length (sheet_of d).cells
  in_rows = let e = count_is d (sheet_of d).cells (stands d z f) z f.cells in omega arith

  -- the shape in a row is its figure's
  pub row_shape : (w : Cell) → (get_or d.cells row w).shape ≡ shape_of (figure_at (sheet_of d) row)
  row_shape w =
      let c = z.cells in
      let m = f.cells in
      ap (λ (c : Cell). c.shape)
      (get_d_any d.cells row w (entry_cell none) (omega arith)
      ∙ sym (get_or-take d.count d.cells row (entry_cell none) h)
      ∙ ap (λ (l : List Cell). get_or l row (entry_cell none)) (stands d z f).cells
      ∙ get_or-map entry_cell xs row none)

  pub row_count : (w : Cell) → bend_count (get_or d.cells row w).shape ≡ length (figure_bends (figure_at (sheet_of d) row))
  row_count w = ap bend_count (row_shape w) ∙ bends_counted (figure_at (sheet_of d) row)

  before_length : length (spread entry_bends (take row xs)) ≡ bend_sum (take row d.cells)
  before_length =
      sym (bend_sum_lem (take row xs))
      ∙ ap bend_sum (sym (take_map entry_cell row xs) ∙ ap (take row) (sym (stands d z f).cells) ∙ take-take row d.count d.cells (omega arith))

  bends_split : spread entry_bends xs ≡ spread entry_bends (take row xs) ++ (figure_bends (figure_at (sheet_of d) row) ++ spread entry_bends (drop (suc row) xs))
  bends_split = ap (spread entry_bends) (split_at xs row none in_rows) ∙ flat_append entry_bends (take row xs) (get_or xs row none ∷ drop (suc row) xs)

  -- a row's bends stand after those of the rows before it
  pub row_bends : run_at (bend_sum (take row d.cells)) (length (figure_bends (figure_at (sheet_of d) row))) d.bends ≡ figure_bends (figure_at (sheet_of d) row)
  row_bends =
      let p = spread entry_bends (take row xs) in
      let b = figure_bends (figure_at (sheet_of d) row) in
      let q = spread entry_bends (drop (suc row) xs) in
      let t = drop (length (spread entry_bends xs)) d.bends in
      ap (run_at (bend_sum (take row d.cells)) (length b))
      (begins_split (stands d z f).bends ∙ ap (λ (l : List Position). l ++ t) bends_split ∙ append_assoc p (b ++ q) t
      ∙ ap (λ (l : List Position). p ++ l) (append_assoc b q t))
      ∙ ap (take (length b)) (drop_at p (b ++ (q ++ t)) (bend_sum (take row d.cells)) before_length)
      ∙ take_at b (q ++ t) (length b) refl

  -- and within those in use
  pub row_within : bend_sum (take row d.cells) + length (figure_bends (figure_at (sheet_of d) row)) ≤ bend_total d
  row_within =
      let p = before_length in
      let e = ap length bends_split in
      let t = bend_total_lem d xs (stands d z f) in
      let a = length-append (spread entry_bends (take row xs)) (figure_bends (figure_at (sheet_of d) row) ++ spread entry_bends (drop (suc row) xs)) in
      let b = length-append (figure_bends (figure_at (sheet_of d) row)) (spread entry_bends (drop (suc row) xs)) in
      omega arith

  -- and within the array
  pub row_range : bend_sum (take row d.cells) + length (figure_bends (figure_at (sheet_of d) row)) ≤ 2048
  row_range =
      let r = row_within in
      let m = f.bends in
      omega arith

-- what is no face has no cycles
pub no_cycles : (x : Figure) → is_face (some x) ≡ false → figure_cycles x ≡ []
no_cycles (vertex p) h = refl
no_cycles (open_edge a b bs) h = refl
no_cycles (closed_edge bs) h = refl
no_cycles (face ks) h = absurd (false≢true (sym h))

module _ (d : Drawing) (z : Sizes d) (row n : ℕ) (h : CopiesRoom d row n) where
  abbrev x : Figure
  x = figure_at (sheet_of d) row

  abbrev bs : List Position
  bs = repeated n (figure_bends (figure_at (sheet_of d) row))

  abbrev new : List LiveCell
  new = numbered (sheet_of d).next (replicate n (figure_at (sheet_of d) row))

  abbrev grown_by : Drawing
  grown_by =
      with_cells (with_more_bends d (repeated n (figure_bends (figure_at (sheet_of d) row)))) (d.next + n) (d.count + n)
      (paste d.cells d.count (copy_cells d.next (shape_of (figure_at (sheet_of d) row)) n) n)

  room : bend_total d + length bs ≤ 2048
  room = let e = repeated_length n (figure_bends x) in omega (arith, h.bends)

  grown_sizes : Sizes grown_by
  grown_sizes =
      let l = copies_length d.next (shape_of x) n in
      let c = z.cells in
      let b = z.bends in
      let r = room in
      let m = h.cells in
      record {
        cells = length-paste d.cells d.count (copy_cells d.next (shape_of x) n) n (omega arith) (omega arith) ∙ z.cells;
        cycles = z.cycles;
        steps = z.steps;
        bends = length-paste d.bends (bend_total d) bs (length bs) (omega arith) (omega arith) ∙ z.bends;
      }

  grown_stands : Stands grown_by ((sheet_of d).cells ++ new)
  grown_stands =
      let ys = (sheet_of d).cells in
      let s = stands d z h.fits in
      let l = copies_length d.next (shape_of x) n in
      let zc = z.cells in
      let zb = z.bends in
      let r = room in
      let m = h.cells in
      let g = grown_sizes.bends in
      let fk : spread entry_cycles (ys ++ new) ≡ spread entry_cycles ys =
      flat_append entry_cycles ys new ∙ ap (λ (k : List Cycle). spread entry_cycles ys ++ k) (copy_cycles (sheet_of d).next x n (no_cycles x h.plain))
      ∙ append-nil (spread entry_cycles ys)
      in
      let fb : spread entry_bends (ys ++ new) ≡ spread entry_bends ys ++ bs =
      flat_append entry_bends ys new ∙ ap (λ (k : List Position). spread entry_bends ys ++ k) (copy_bends (sheet_of d).next x n)
      in
      record {
        cells =
            take-paste d.cells d.count (copy_cells d.next (shape_of x) n) n (omega arith) (omega arith)
            ∙ ap₂ (λ (a b : List Cell). a ++ b) s.cells
            (take_all n (copy_cells d.next (shape_of x) n) (omega arith) ∙ ap (λ (i : ℕ). copy_cells i (shape_of x) n) (sym (next_is d))
            ∙ copy_heads (sheet_of d).next x n)
            ∙ sym (map_append entry_cell ys new);
        cycles = rw fk s.cycles;
        steps = rw fk s.steps;
        bends =
            rw fb
            (begins_more grown_by.bends bs (bend_total d) (bend_total_lem d ys s) (omega arith)
            (take-paste d.bends (bend_total d) bs (length bs) (omega arith) (omega arith) ∙ ap (λ (k : List Position). take (bend_total d) d.bends ++ k)
            (take-length bs))
            s.bends);
        real = ap all_real fk ∙ s.real;
      }

  -- the row's bends, put n times after those in use
  pub bends_filled : (base first k : ℕ) (l : List Position) → l ≡ paste d.bends base (repeated n (run_at first k d.bends)) (n * k)
      → base ≡ bend_total d → first ≡ bend_sum (take row d.cells) → k ≡ length (figure_bends (figure_at (sheet_of d) row))
      → l ≡ paste d.bends (bend_total d) (repeated n (figure_bends (figure_at (sheet_of d) row))) (length (repeated n (figure_bends (figure_at (sheet_of d) row))))
  bends_filled base first k l e p q r =
      e
      ∙ ap₂ (λ (i j : ℕ). paste d.bends i (repeated n (run_at j k d.bends)) (n * k)) p q
      ∙ ap (λ (m : ℕ). paste d.bends (bend_total d) (repeated n (run_at (bend_sum (take row d.cells)) m d.bends)) (n * m)) r
      ∙ ap₂ (λ (b : List Position) (m : ℕ). paste d.bends (bend_total d) (repeated n b) m) (row_bends d z h.fits row h.row)
      (sym (repeated_length n (figure_bends x)))

  -- the bends of the copies, and their cells
  pub copies_grown : (l : List Position) (s : Shape) (cs : List Cell)
      → l ≡ paste d.bends (bend_total d) (repeated n (figure_bends (figure_at (sheet_of d) row))) (length (repeated n (figure_bends (figure_at (sheet_of d) row))))
      → s ≡ shape_of (figure_at (sheet_of d) row) → cs ≡ paste d.cells d.count (copy_cells d.next s n) n
      → let r = with_cells (with_bends d l) (d.next + n) (d.count + n) cs in
      (sheet_of r ≡ appended_all (replicate n (figure_at (sheet_of d) row)) (sheet_of d)) × Fits r
  copies_grown l s cs p t e =
      let k = length-replicate n x in
      let i = next_is d in
      subst (λ (t : Drawing). (sheet_of t ≡ appended_all (replicate n x) (sheet_of d)) × Fits t)
      (sym
      (ap₂ (λ (a : List Position) (b : List Cell). with_cells (with_bends d a) (d.next + n) (d.count + n) b) p
      (e ∙ ap (λ (v : Shape). paste d.cells d.count (copy_cells d.next v n) n) t))) (
        sheet_is grown_by (appended_all (replicate n x) (sheet_of d)) (ap₂ ◌+◌ (sym i) (sym k)) (viewed grown_by ((sheet_of d).cells ++ new) grown_stands),
        fitting grown_by ((sheet_of d).cells ++ new) grown_stands grown_sizes h.cells,
      )
