-- `drop_pair` meets its contract. Assumes nothing.
use native.Mathlib.Omega.{arith}
use Prim.Native.Nat.{◌+◌}
use mathlib.Core.Path.{ap, ◌∙◌}
use mathlib.Core.Bool.{true, false}
use lib.ListN.{length, set, replicate, length-set, length-replicate}
use Rattle.lent.specs.Arrays.{Arrays}
use Rattle.lent.specs.Sheets.{arrays}
use Rattle.kernel_bends.specs.Turned.{rotated}
use Rattle.kernel_drop.proofs.Gone.{range, pack_asks, pair_gone}
use Rattle.kernel_keep.proofs.Rows.{rows_kept}
use Rattle.kernel_drop.proofs.drop_pair.Goals as goal

pub overflow_add-base : goal.overflow_add-base
overflow_add-base c =
    let r = range c.requires.lengths c.requires.fits c.requires.by_value c.requires.edge_row in
    omega arith

pub rotate-requires : goal.rotate-requires
rotate-requires c =
    let l = ap length c.put_bend.ensures.bx_after ∙ length-set c.args.sheet.now.bx.now c.args.t c.args.p.x ∙ c.requires.lengths.bx in
    let r = range c.requires.lengths c.requires.fits c.requires.by_value c.requires.edge_row in
    record {
      from_le_mid = omega arith;
      mid_le_to = omega (arith, r.0);
      to_in_bounds = omega (arith, c.requires.t_lt_bends_most, l);
    }

pub overflow_add-base-2 : goal.overflow_add-base-2
overflow_add-base-2 c =
    let r = range c.requires.lengths c.requires.fits c.requires.by_value c.requires.edge_row in
    omega arith

pub rotate-requires-2 : goal.rotate-requires-2
rotate-requires-2 c =
    let l = ap length c.put_bend.ensures.by_after ∙ length-set c.args.sheet.now.by.now c.args.t c.args.p.y ∙ c.requires.lengths.by in
    let r = range c.requires.lengths c.requires.fits c.requires.by_value c.requires.edge_row in
    record {
      from_le_mid = omega arith;
      mid_le_to = omega (arith, r.0);
      to_in_bounds = omega (arith, c.requires.t_lt_bends_most, l);
    }

pub pack_rows-requires : goal.pack_rows-requires
pack_rows-requires c =
    let k = c.dead_rows-dead in
    let d = ap length k.ensures
    ∙ length-set (set (replicate 256 false) c.args.bare true) c.args.row true ∙ length-set (replicate 256 false) c.args.bare true
    ∙ length-replicate 256 false in
    let whole = pack_asks {a = arrays c.args.sheet.now} c.requires.lengths c.requires.fits.cells k.result d in record {
      n_le_cells_most = whole.0;
      n_in_bounds = whole.1.0;
      ids_len = whole.1.1;
    }

pub returns-clause-pair_gone : goal.returns-clause-pair_gone
returns-clause-pair_gone c =
    let q = c.pack_rows.ensures in
    let a = c.args in
    let e = c.requires in
    let x = c.rotate.ensures ∙ ap (rotated a.base (a.base + a.m) (a.t + 1)) c.put_bend.ensures.bx_after in
    let y = c.rotate-2.ensures ∙ ap (rotated a.base (a.base + a.m) (a.t + 1)) c.put_bend.ensures.by_after in
    pair_gone (arrays c.args.sheet.now) c.requires.lengths c.requires.fits c.requires.by_value a.row a.base a.m a.t e.edge_row a.bare e.bare_row e.t_lt_bends_most a.p _
    c.known.ensures c.dead_rows-dead.result c.dead_rows-dead.ensures (ap (λ (u : Arrays). u.next) q.kept)
    (rows_kept _ _ _ _ _ (q.value, (q.compacted, (q.compacted_2, (q.compacted_3, (q.compacted_4, (q.compacted_5, (q.compacted_6, (q.compacted_7, q.compacted_8)))))))))
    (ap (λ (u : Arrays). u.bx) q.kept ∙ x) (ap (λ (u : Arrays). u.by) q.kept ∙ y) (ap (λ (u : Arrays). u.cycles) q.kept) (ap (λ (u : Arrays). u.steps) q.kept)
