-- `put_cells` meets its contract. The loop's invariant: the first i cells are written, and place is where the next one's parts begin. Assumes nothing.
use Prim.Native.Nat.{ℕ, ◌+◌, ◌-◌, ◌<◌, ◌≤◌}
use mathlib.Core.Path.{◌≡◌, refl, ap, sym, ◌∙◌, subst}
use mathlib.Core.List.{List, []}
use lib.Ieee.{Float}
use native.Mathlib.Omega.{arith}
use lib.ListN.{length, take, drop, get_or, length-drop}
use lib.Seq.{length-take-le}
use Rattle.number.specs.Readers.{spread}
use Rattle.complex.specs.Cells.{LiveCell, closed_edge}
use Rattle.complex.specs.File.{cell_bytes}
use Rattle.store.specs.declared.Cell.{Cell}
use Rattle.store.specs.View.{cycles_from, cells_of}
use Rattle.file_write.specs.declared.Place.{Place}
use Rattle.file_parts.specs.Parts.{BytesPut, positions_from}
use Rattle.file_write.specs.Places.{cell_in, place_after, PlaceFits, CellReady, AllReady}
use Rattle.file_parts.proofs.Laying.{put_none, put_size, put_as, put_turn, put_room, put_all, put_part}
use Rattle.file_write.proofs.Cells.{place_of, cells_length, cell_is, place_next, ready, place_fits}
use Rattle.lent.specs.Arrays.{held_by}
use Rattle.lent.specs.Sheets.{seen}
use Rattle.lent.proofs.Held.{cells_length as rows_length}
use Rattle.call_cells.specs.Rows.{past_cell}
use Rattle.call_cells.proofs.put_cells.Goals as goal

abbrev none : LiveCell
none = record { id = 0; figure = closed_edge [] }

-- the rows' cells with their bends and cycles, and the next one, where its parts begin at the place p
module _ (cs : List Cell) (n : ℕ) (xs ys : List Float) (ns st : List ℕ) (r : AllReady cs n xs ys ns st) (i : ℕ) (h : i < n) (p : Place) (e : p ≡ place_of cs ns i) where
  abbrev figures : List LiveCell
  figures = cells_of (take n cs) (cycles_from ns st) (positions_from xs ys)

  abbrev next_bytes : List ℕ
  next_bytes = cell_bytes (cell_in (get_or cs i past_cell) p ns st (positions_from xs ys))

  next_is : cell_bytes (get_or figures i none) ≡ next_bytes
  next_is =
      ap cell_bytes (cell_is cs n xs ys ns st r i h none past_cell
      ∙ ap (λ (x : Place). cell_in (get_or cs i past_cell) x ns st (positions_from xs ys)) (sym e))

  inside : i < length figures
  inside = let k = cells_length cs n xs ys ns st r in omega arith

  next_room : (o l : List ℕ) (start at : ℕ) → BytesPut o start (spread cell_bytes (take i figures)) l at
      → start + length (spread cell_bytes figures) ≤ length o → at + length next_bytes ≤ length l
  next_room o l start at b g = put_room cell_bytes figures o l start at i inside b none next_bytes next_is g

  is_ready : CellReady (get_or cs i past_cell) p xs ys ns st
  is_ready =
      subst (λ (x : Place). CellReady (get_or cs i past_cell) x xs ys ns st) (sym e) (ready cs n xs ys ns st r i h none past_cell)

  -- what is put is the next cell's bytes
  put_next : (l m : List ℕ) (at k : ℕ) (c : Cell) → c ≡ get_or cs i past_cell
      → BytesPut (take (length l - at) (drop at l)) 0 (cell_bytes (cell_in c p ns st (positions_from xs ys))) m k
      → BytesPut (take (length l - at) (drop at l)) 0 next_bytes m k
  put_next l m at k c f b = put_as (ap (λ (x : Cell). cell_bytes (cell_in x p ns st (positions_from xs ys))) f) b

  put_needs : (l : List ℕ) (at : ℕ) (c : Cell) → c ≡ get_or cs i past_cell → at + length next_bytes ≤ length l
      → CellReady c p xs ys ns st × (length (cell_bytes (cell_in c p ns st (positions_from xs ys))) ≤ length (take (length l - at) (drop at l)))
  put_needs l at c f g =
      let d = length-drop at l in
      let t = length-take-le (length l - at) (drop at l) (omega arith) in
      subst (λ (x : Cell). CellReady x p xs ys ns st
      × (length (cell_bytes (cell_in x p ns st (positions_from xs ys))) ≤ length (take (length l - at) (drop at l))))
      (sym f) (is_ready, omega arith)

pub loop-i-init : goal.loop-i-init
loop-i-init c = (omega arith, refl, put_none _ _)

pub cell_at-c-requires : goal.cell_at-c-requires
cell_at-c-requires c =
    let q = c.requires.all_ready in
    let f = q.few in
    record {
      row_lt_cells_most = omega (arith, c.loop-i-test.true);
      ids_len = sym (rows_length _ c.args.view.now.ids.now) ∙ q.cells;
    }

pub slice_bounds-put_cell-count : goal.slice_bounds-put_cell-count
slice_bounds-put_cell-count c =
    let a = c.args in
    let cs = (held_by (seen a.view.now)).cells in
    let xs = a.view.now.bx.now in
    let ys = a.view.now.by.now in
    let ns = a.view.now.cycles.now in
    let st = a.view.now.steps.now in
    let q = c.requires.all_ready in
    let l = c.loop-i in
    let h = c.loop-i-test.true in
    let e = l.invariant.1 in
    let room = next_room cs a.n xs ys ns st q l.i h l.place e a.buffer.now l.buffer a.start l.at l.invariant.2 c.requires.by_in_bounds in
    omega arith

pub slice_bounds-put_cell-start : goal.slice_bounds-put_cell-start
slice_bounds-put_cell-start c =
    let a = c.args in
    let cs = (held_by (seen a.view.now)).cells in
    let xs = a.view.now.bx.now in
    let ys = a.view.now.by.now in
    let ns = a.view.now.cycles.now in
    let st = a.view.now.steps.now in
    let q = c.requires.all_ready in
    let l = c.loop-i in
    let h = c.loop-i-test.true in
    let e = l.invariant.1 in
    let room = next_room cs a.n xs ys ns st q l.i h l.place e a.buffer.now l.buffer a.start l.at l.invariant.2 c.requires.by_in_bounds in
    omega arith

pub put_cell-at-requires : goal.put_cell-at-requires
put_cell-at-requires c =
    let a = c.args in
    let cs = (held_by (seen a.view.now)).cells in
    let xs = a.view.now.bx.now in
    let ys = a.view.now.by.now in
    let ns = a.view.now.cycles.now in
    let st = a.view.now.steps.now in
    let q = c.requires.all_ready in
    let l = c.loop-i in
    let h = c.loop-i-test.true in
    let e = l.invariant.1 in
    let room = next_room cs a.n xs ys ns st q l.i h l.place e a.buffer.now l.buffer a.start l.at l.invariant.2 c.requires.by_in_bounds in
    let whole = put_needs cs a.n xs ys ns st q l.i h l.place e l.buffer l.at c.cell_at-c.result c.cell_at-c.ensures room in record {
      cell_ready = whole.0;
      ys_in_bounds = whole.1;
    }

pub overflow_add-at : goal.overflow_add-at
overflow_add-at c =
    let a = c.args in
    let cs = (held_by (seen a.view.now)).cells in
    let xs = a.view.now.bx.now in
    let ys = a.view.now.by.now in
    let ns = a.view.now.cycles.now in
    let st = a.view.now.steps.now in
    let q = c.requires.all_ready in
    let l = c.loop-i in
    let h = c.loop-i-test.true in
    let e = l.invariant.1 in
    let room = next_room cs a.n xs ys ns st q l.i h l.place e a.buffer.now l.buffer a.start l.at l.invariant.2 c.requires.by_in_bounds in
    let put = put_next cs a.n xs ys ns st q l.i h l.place e l.buffer c.put_cell-at.new.out l.at c.put_cell-at.result c.cell_at-c.result c.cell_at-c.ensures c.put_cell-at.ensures in
    let z = put_size l.invariant.2 in
    let k = put.next in
    record { fits = omega arith }

pub place_after-place-requires : goal.place_after-place-requires
place_after-place-requires c =
    let a = c.args in
    let cs = (held_by (seen a.view.now)).cells in
    let xs = a.view.now.bx.now in
    let ys = a.view.now.by.now in
    let ns = a.view.now.cycles.now in
    let st = a.view.now.steps.now in
    let q = c.requires.all_ready in
    let l = c.loop-i in
    let h = c.loop-i-test.true in
    let e = l.invariant.1 in
    subst (λ (x : Cell). PlaceFits x.shape ns l.place) (sym c.cell_at-c.ensures)
    (place_fits (is_ready cs a.n xs ys ns st q l.i h l.place e))

pub loop-i-preserved : goal.loop-i-preserved
loop-i-preserved c =
    let a = c.args in
    let cs = (held_by (seen a.view.now)).cells in
    let xs = a.view.now.bx.now in
    let ys = a.view.now.by.now in
    let ns = a.view.now.cycles.now in
    let st = a.view.now.steps.now in
    let q = c.requires.all_ready in
    let l = c.loop-i in
    let h = c.loop-i-test.true in
    let e = l.invariant.1 in
    let room = next_room cs a.n xs ys ns st q l.i h l.place e a.buffer.now l.buffer a.start l.at l.invariant.2 c.requires.by_in_bounds in
    let put = put_next cs a.n xs ys ns st q l.i h l.place e l.buffer c.put_cell-at.new.out l.at c.put_cell-at.result c.cell_at-c.result c.cell_at-c.ensures c.put_cell-at.ensures in
    let f = c.put_cell-at in
    let g = c.cell_at-c.ensures in (
      omega arith,
      c.place_after-place.ensures ∙ ap (λ (x : Cell). place_after x.shape ns l.place) g ∙ ap (place_after (get_or cs l.i past_cell).shape ns) e
          ∙ place_next cs a.n xs ys ns st q l.i h none past_cell,
      put_turn cell_bytes (figures cs a.n xs ys ns st q l.i h l.place e) a.buffer.now l.buffer a.start l.at l.i
          (inside cs a.n xs ys ns st q l.i h l.place e) l.invariant.2 none
          (next_bytes cs a.n xs ys ns st q l.i h l.place e) (next_is cs a.n xs ys ns st q l.i h l.place e)
          (put_part l.buffer (next_bytes cs a.n xs ys ns st q l.i h l.place e) f.new.out l.at f.result room put),
    )

pub shape_of-buffer : goal.shape_of-buffer
shape_of-buffer c = put_size c.loop-i.invariant.2

pub returns : goal.returns
returns c =
    let a = c.args in
    let cs = (held_by (seen a.view.now)).cells in
    let q = c.requires.all_ready in
    let l = c.loop-i in
    let k = cells_length cs a.n a.view.now.bx.now a.view.now.by.now a.view.now.cycles.now a.view.now.steps.now q in
    put_all cell_bytes (cells_of (take a.n cs) (cycles_from a.view.now.cycles.now a.view.now.steps.now) (positions_from a.view.now.bx.now a.view.now.by.now)) l.i (omega arith) l.invariant.2
