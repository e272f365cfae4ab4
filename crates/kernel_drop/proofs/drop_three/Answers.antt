-- `drop_three` meets its contract. Assumes nothing.
use native.Mathlib.Omega.{arith}
use Prim.Native.Nat.{◌+◌}
use mathlib.Core.Path.{ap, ◌∙◌}
use lib.ListN.{length}
use Rattle.lent.specs.Arrays.{Arrays}
use Rattle.lent.specs.Sheets.{arrays}
use Rattle.kernel_bends.specs.Turned.{rotated}
use Rattle.kernel_drop.proofs.Three.{three_length}
use Rattle.kernel_drop.proofs.ThreeGone.{three_range, three_below, falls, second_fits, three_gone}
use Rattle.kernel_keep.proofs.Rows.{rows_kept}
use Rattle.kernel_drop.proofs.drop_three.Goals as goal

pub fallen-b2-requires : goal.fallen-b2-requires
fallen-b2-requires c = falls _ c.requires.lengths c.requires.fits c.requires.by_value _ _ _ _ _ _ _ _ c.requires.three_rows

pub overflow_add-base1 : goal.overflow_add-base1
overflow_add-base1 c =
    let r = three_range _ c.requires.lengths c.requires.fits c.requires.by_value _ _ _ _ _ _ _ _ c.requires.three_rows in
    omega (arith, r.0, r.1)

pub rotate-requires : goal.rotate-requires
rotate-requires c =
    let r = three_range _ c.requires.lengths c.requires.fits c.requires.by_value _ _ _ _ _ _ _ _ c.requires.three_rows in
    record {
      from_le_mid = omega arith;
      mid_le_to = r.0;
      to_in_bounds = omega (arith, r.1, c.requires.lengths.bx);
    }

pub overflow_add-base1-2 : goal.overflow_add-base1-2
overflow_add-base1-2 c =
    let r = three_range _ c.requires.lengths c.requires.fits c.requires.by_value _ _ _ _ _ _ _ _ c.requires.three_rows in
    omega (arith, r.0, r.1)

pub rotate-requires-2 : goal.rotate-requires-2
rotate-requires-2 c =
    let r = three_range _ c.requires.lengths c.requires.fits c.requires.by_value _ _ _ _ _ _ _ _ c.requires.three_rows in
    record {
      from_le_mid = omega arith;
      mid_le_to = r.0;
      to_in_bounds = omega (arith, r.1, c.requires.lengths.by);
    }

pub overflow_add-b2 : goal.overflow_add-b2
overflow_add-b2 c =
    let r = three_range _ c.requires.lengths c.requires.fits c.requires.by_value _ _ _ _ _ _ _ _ c.requires.three_rows in
    let h = second_fits _ c.requires.lengths c.requires.fits c.requires.by_value _ _ _ _ _ _ _ _ c.requires.three_rows _ c.fallen-b2.ensures in
    omega (arith, h, r.1)

pub rotate-requires-3 : goal.rotate-requires-3
rotate-requires-3 c =
    let r = three_range _ c.requires.lengths c.requires.fits c.requires.by_value _ _ _ _ _ _ _ _ c.requires.three_rows in
    let h = second_fits _ c.requires.lengths c.requires.fits c.requires.by_value _ _ _ _ _ _ _ _ c.requires.three_rows _ c.fallen-b2.ensures in
    record {
      from_le_mid = omega arith;
      mid_le_to = h;
      to_in_bounds = omega (arith, r.1, c.requires.lengths.bx, c.rotate.auto.l);
    }

pub overflow_add-b2-2 : goal.overflow_add-b2-2
overflow_add-b2-2 c =
    let r = three_range _ c.requires.lengths c.requires.fits c.requires.by_value _ _ _ _ _ _ _ _ c.requires.three_rows in
    let h = second_fits _ c.requires.lengths c.requires.fits c.requires.by_value _ _ _ _ _ _ _ _ c.requires.three_rows _ c.fallen-b2.ensures in
    omega (arith, h, r.1)

pub rotate-requires-4 : goal.rotate-requires-4
rotate-requires-4 c =
    let r = three_range _ c.requires.lengths c.requires.fits c.requires.by_value _ _ _ _ _ _ _ _ c.requires.three_rows in
    let h = second_fits _ c.requires.lengths c.requires.fits c.requires.by_value _ _ _ _ _ _ _ _ c.requires.three_rows _ c.fallen-b2.ensures in
    record {
      from_le_mid = omega arith;
      mid_le_to = h;
      to_in_bounds = omega (arith, r.1, c.requires.lengths.by, c.rotate-2.auto.l);
    }

pub three_dead-dead-requires : goal.three_dead-dead-requires
three_dead-dead-requires c =
    let whole = three_below _ c.requires.lengths c.requires.fits c.requires.by_value _ _ _ _ _ _ _ _ c.requires.three_rows in
    record {
      a_bound = whole.0;
      b_bound = whole.1.0;
      c_bound = whole.1.1;
    }

pub pack_rows-requires : goal.pack_rows-requires
pack_rows-requires c =
    let l = c.requires.lengths in
    let h = c.requires.fits.cells in
    let d = ap length c.three_dead-dead.ensures
    ∙ three_length 256 c.args.row1 c.args.row2 c.args.bare in
    record {
      n_le_cells_most = h;
      n_in_bounds = omega (arith, h, d);
      ids_len = (l.ids, l.kinds, l.starts, l.ends, l.bends, l.counts, l.px, l.py);
    }

pub returns-clause-three_gone : goal.returns-clause-three_gone
returns-clause-three_gone c =
    let q = c.pack_rows.ensures in
    let a = c.args in
    let b2 = c.fallen-b2.result in
    let d = c.three_dead-dead in
    let x = c.rotate-3.ensures
    ∙ ap (rotated b2 (b2 + a.m2) a.t) c.rotate.ensures in
    let y = c.rotate-4.ensures
    ∙ ap (rotated b2 (b2 + a.m2) a.t) c.rotate-2.ensures in
    three_gone (arrays c.args.sheet.now) c.requires.lengths c.requires.fits c.requires.by_value c.args.row1 c.args.base1 c.args.m1 c.args.row2 c.args.base2
    c.args.m2 c.args.bare c.args.t c.requires.three_rows b2 c.fallen-b2.ensures
    _ c.known.ensures d.result d.ensures (ap (λ (u : Arrays). u.next) q.kept)
    (rows_kept _ _ _ _ _ (q.value, (q.compacted, (q.compacted_2, (q.compacted_3, (q.compacted_4, (q.compacted_5, (q.compacted_6, (q.compacted_7, q.compacted_8)))))))))
    (ap (λ (u : Arrays). u.bx) q.kept ∙ x) (ap (λ (u : Arrays). u.by) q.kept ∙ y) (ap (λ (u : Arrays). u.cycles) q.kept) (ap (λ (u : Arrays). u.steps) q.kept)
