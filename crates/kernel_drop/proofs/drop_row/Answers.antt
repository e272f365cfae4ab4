-- `drop_row` meets its contract. Assumes nothing.
use native.Mathlib.Omega.{arith}
use Prim.Native.Nat.{◌+◌, ◌-◌}
use mathlib.Core.Path.{ap, ◌∙◌}
use Rattle.lent.specs.Arrays.{Arrays}
use Rattle.lent.specs.Sheets.{arrays}
use Rattle.kernel_bends.specs.Turned.{rotated}
use Rattle.kernel_drop.proofs.Gone.{range, pack_asks, one_long, row_below, row_gone}
use Rattle.kernel_keep.proofs.Rows.{rows_kept}
use Rattle.kernel_drop.proofs.drop_row.Goals as goal

pub overflow_sub-u : goal.overflow_sub-u
overflow_sub-u c =
    let r = range c.requires.lengths c.requires.fits c.requires.by_value c.requires.edge_row in
    omega (arith, r.0)

pub overflow_add-base : goal.overflow_add-base
overflow_add-base c =
    let r = range c.requires.lengths c.requires.fits c.requires.by_value c.requires.edge_row in
    omega (arith, r.0, r.1)

pub rotate-requires : goal.rotate-requires
rotate-requires c =
    let r = range c.requires.lengths c.requires.fits c.requires.by_value c.requires.edge_row in
    record {
      from_le_mid = omega arith;
      mid_le_to = r.0;
      to_in_bounds = omega (arith, r.1, c.requires.lengths.bx);
    }

pub overflow_add-base-2 : goal.overflow_add-base-2
overflow_add-base-2 c =
    let r = range c.requires.lengths c.requires.fits c.requires.by_value c.requires.edge_row in
    omega (arith, r.0, r.1)

pub rotate-requires-2 : goal.rotate-requires-2
rotate-requires-2 c =
    let r = range c.requires.lengths c.requires.fits c.requires.by_value c.requires.edge_row in
    record {
      from_le_mid = omega arith;
      mid_le_to = r.0;
      to_in_bounds = omega (arith, r.1, c.requires.lengths.by);
    }

pub rotate-requires-3 : goal.rotate-requires-3
rotate-requires-3 c =
    let r = range c.requires.lengths c.requires.fits c.requires.by_value c.requires.edge_row in
    record {
      from_le_mid = omega (arith, c.requires.i_le_j);
      mid_le_to = omega (arith, r.0, c.requires.j_le_m);
      to_in_bounds = omega (arith, r.1, c.requires.lengths.bx, c.rotate.auto.l);
    }

pub rotate-requires-4 : goal.rotate-requires-4
rotate-requires-4 c =
    let r = range c.requires.lengths c.requires.fits c.requires.by_value c.requires.edge_row in
    record {
      from_le_mid = omega (arith, c.requires.i_le_j);
      mid_le_to = omega (arith, r.0, c.requires.j_le_m);
      to_in_bounds = omega (arith, r.1, c.requires.lengths.by, c.rotate-2.auto.l);
    }

pub dead_row-dead-requires : goal.dead_row-dead-requires
dead_row-dead-requires c =
    row_below (arrays c.args.sheet.now) c.requires.lengths c.requires.fits c.requires.by_value c.args.row c.args.base c.args.m c.args.t c.requires.edge_row

pub pack_rows-requires : goal.pack_rows-requires
pack_rows-requires c =
    let d = c.dead_row-dead in
    let whole = pack_asks {a = arrays c.args.sheet.now} c.requires.lengths c.requires.fits.cells d.result (one_long c.args.row d.ensures) in record {
      n_le_cells_most = whole.0;
      n_in_bounds = whole.1.0;
      ids_len = whole.1.1;
    }

pub returns-clause-row_gone : goal.returns-clause-row_gone
returns-clause-row_gone c =
    let q = c.pack_rows.ensures in
    let a = c.args in
    let d = c.dead_row-dead in
    let x = c.rotate-3.ensures
    ∙ ap (rotated (a.t - a.m + a.i) (a.t - a.m + a.j) a.t)
    c.rotate.ensures in
    let y = c.rotate-4.ensures
    ∙ ap (rotated (a.t - a.m + a.i) (a.t - a.m + a.j) a.t)
    c.rotate-2.ensures in
    row_gone (arrays c.args.sheet.now) c.requires.lengths c.requires.fits c.requires.by_value a.row a.base a.m a.t c.requires.edge_row a.i a.j
    c.requires.i_le_j c.requires.j_le_m
    _ c.known.ensures d.result d.ensures (ap (λ (u : Arrays). u.next) q.kept)
    (rows_kept _ _ _ _ _ (q.value, (q.compacted, (q.compacted_2, (q.compacted_3, (q.compacted_4, (q.compacted_5, (q.compacted_6, (q.compacted_7, q.compacted_8)))))))))
    (ap (λ (u : Arrays). u.bx) q.kept ∙ x) (ap (λ (u : Arrays). u.by) q.kept ∙ y) (ap (λ (u : Arrays). u.cycles) q.kept) (ap (λ (u : Arrays). u.steps) q.kept)
