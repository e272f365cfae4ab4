-- `drop_bare` meets its contract. Assumes nothing.
use native.Mathlib.Omega.{arith}
use mathlib.Core.Path.{ap}
use Rattle.lent.specs.Arrays.{Arrays}
use Rattle.lent.specs.Sheets.{arrays}
use Rattle.kernel_drop.proofs.Gone.{pack_asks, one_long, bare_gone}
use Rattle.kernel_keep.proofs.Rows.{rows_kept}
use Rattle.kernel_drop.proofs.drop_bare.Goals as goal

pub dead_row-dead-requires : goal.dead_row-dead-requires
dead_row-dead-requires c = omega (arith, c.requires.fits.cells, c.requires.row_lt_count)

pub pack_rows-requires : goal.pack_rows-requires
pack_rows-requires c =
    let whole = pack_asks {a = arrays c.args.sheet.now} c.requires.lengths c.requires.fits.cells c.dead_row-dead.result (one_long c.args.row c.dead_row-dead.ensures) in record {
      n_le_cells_most = whole.0;
      n_in_bounds = whole.1.0;
      ids_len = whole.1.1;
    }

pub returns-clause-keeps : goal.returns-clause-keeps
returns-clause-keeps c =
    let d = c.dead_row-dead in
    let q = c.pack_rows.ensures in
    let p = c.requires in
    bare_gone (arrays c.args.sheet.now) p.lengths p.fits p.by_value c.args.row p.row_lt_count p.row_value p.row_value_2 (arrays c.pack_rows.new.sheet)
    c.known.ensures d.result d.ensures (ap (λ (u : Arrays). u.next) q.kept)
    (rows_kept _ _ _ _ _ (q.value, (q.compacted, (q.compacted_2, (q.compacted_3, (q.compacted_4, (q.compacted_5, (q.compacted_6, (q.compacted_7, q.compacted_8)))))))))
    (ap (λ (u : Arrays). u.bx) q.kept) (ap (λ (u : Arrays). u.by) q.kept) (ap (λ (u : Arrays). u.cycles) q.kept) (ap (λ (u : Arrays). u.steps) q.kept)
