-- `keep_rows` meets its contract. Assumes nothing.
use native.Mathlib.Omega.{arith}
use mathlib.Core.Path.{◌≡◌}
use mathlib.Core.Bool.{true}
use Rattle.store.specs.View.{Fits}
use Rattle.answer.specs.Late.{Summed}
use Rattle.answer.proofs.Laws.{summed}
use Rattle.lent.specs.Arrays.{Arrays, held_by, rows_by, normal, Lengths}
use Rattle.lent.specs.Sheets.{arrays}
use Rattle.lent.proofs.Held.{held_sizes, held_indexes}
use Rattle.kernel_keep.proofs.Rows.{rows_kept, keeps_moved}
use Rattle.kernel_keep.proofs.keep_rows.Goals as goal

sums : (a : Arrays) → Fits (held_by a) → Lengths a → normal a ≡ true → Summed a.bends a.counts a.count a.cycles
sums a f l n = summed (held_by a) (held_sizes a l) f (rows_by a) (held_indexes a l n)

pub drop_cycles-requires-clause-counts_bound : goal.drop_cycles-requires-clause-counts_bound
drop_cycles-requires-clause-counts_bound c =
    (sums (arrays c.args.sheet.now) c.requires.fits c.requires.lengths c.requires.by_value).cycle_sum

pub drop_cycles-requires-clause-cycles_bound : goal.drop_cycles-requires-clause-cycles_bound
drop_cycles-requires-clause-cycles_bound c =
    (sums (arrays c.args.sheet.now) c.requires.fits c.requires.lengths c.requires.by_value).step_sum

pub drop_bends-requires-clause-counts_bound : goal.drop_bends-requires-clause-counts_bound
drop_bends-requires-clause-counts_bound c =
    (sums (arrays c.args.sheet.now) c.requires.fits c.requires.lengths c.requires.by_value).bend_sum

pub pack_rows-requires : goal.pack_rows-requires
pack_rows-requires c =
    let l = c.requires.lengths in
    let h = c.requires.fits.cells in
    record {
      n_le_cells_most = h;
      n_in_bounds = omega (arith, h, c.requires.dead_len);
      ids_len = (l.ids, l.kinds, l.starts, l.ends, l.bends, l.counts, l.px, l.py);
    }

pub returns-clause-keeps : goal.returns-clause-keeps
returns-clause-keeps c =
    let s = c.requires in
    let q = c.pack_rows.ensures in
    keeps_moved c.args.dead.now (arrays c.args.sheet.now) (arrays c.pack_rows.new.sheet) s.lengths c.known.ensures s.dead_len s.fits s.by_value _ _ _ _ q.kept
    (rows_kept _ _ _ _ _ (q.value, (q.compacted, (q.compacted_2, (q.compacted_3, (q.compacted_4, (q.compacted_5, (q.compacted_6, (q.compacted_7, q.compacted_8)))))))))
    c.drop_bends.ensures c.drop_cycles.ensures
