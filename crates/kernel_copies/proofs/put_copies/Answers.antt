-- `put_copies` meets its contract: the bends, then the rows. Assumes nothing.
use native.Mathlib.Omega.{arith}
use Rattle.lent.specs.Sheets.{arrays}
use Rattle.kernel_copies.proofs.Coming.{rows_come, with_places, bends_asks, bends_room, long_with, copies_come}
use Rattle.kernel_copies.proofs.put_copies.Goals as goal

pub offset_bounds-sheet-row : goal.offset_bounds-sheet-row
offset_bounds-sheet-row c = omega (arith, c.requires.copies_room.row, c.requires.copies_room.fits.cells)

pub bounds-sheet-row : goal.bounds-sheet-row
bounds-sheet-row c = omega (arith, c.requires.copies_room.row, c.requires.copies_room.fits.cells)

pub bend_start-first-requires : goal.bend_start-first-requires
bend_start-first-requires c =
    let whole = bends_asks (arrays c.args.sheet.now) c.requires.lengths c.requires.by_value c.args.row c.args.n c.requires.copies_room in
    record { row_in_bounds = whole.0; counts_bound = whole.1 }

pub put_bends-requires : goal.put_bends-requires
put_bends-requires c =
    let l = c.requires.lengths in
    let r =
    bends_room (arrays c.args.sheet.now) l c.requires.by_value c.args.row c.args.n c.requires.copies_room c.args.base c.bend_start-first.result
    c.wide-k.result c.requires.base_value c.bend_start-first.ensures c.wide-k.ensures in
    record { k_bound = r.0; k_bound_2 = r.1; bx_len = (l.bx, l.by) }

pub put_rows-requires : goal.put_rows-requires
put_rows-requires c =
    let h = c.requires.copies_room in
    record { row_lt_count = h.row; n_bound = h.cells; n_bound_2 = h.ids }

pub returns-clause-copies_come : goal.returns-clause-copies_come
returns-clause-copies_come c =
    let a = arrays c.args.sheet.now in
    let b = c.put_bends.ensures in
    let h = c.requires.copies_room in
    let l = c.requires.lengths in
    let m = c.requires.by_value in
    let w = c.put_rows.ensures in
    let r =
    rows_come (with_places a c.put_bends.new.bx c.put_bends.new.by) (long_with a l _ _ b.bx_len_2.0 b.bx_len_2.1) m c.args.row c.args.n h.row h.cells
    (arrays c.put_rows.new.sheet) w.kept w.rows_put in
    copies_come a l m c.args.row c.args.n h c.args.base c.bend_start-first.result c.wide-k.result c.requires.base_value c.bend_start-first.ensures
    c.wide-k.ensures _ _ b.by_after _ r
