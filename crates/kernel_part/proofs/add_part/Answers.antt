-- `add_part` meets its contract. Assumes nothing.
use mathlib.Core.Path.{sym, subst}
use native.Mathlib.Omega.{arith}
use Rattle.complex.specs.Cells.{face}
use Rattle.store.specs.View.{sheet_of}
use Rattle.store.specs.Edits.{appended}
use Rattle.rows_spans.specs.Building.{built}
use Rattle.lent.specs.Arrays.{held_by}
use Rattle.lent.specs.Replies.{Holds}
use Rattle.lent.specs.Sheets.{arrays}
use Rattle.kernel_part.proofs.Coming.{part_cycles, part_steps, pasted_holds}
use Rattle.kernel_part.proofs.add_part.Goals as goal

-- the list is in its arrays, and there is room after what is in use
pub copy_run-requires : goal.copy_run-requires
copy_run-requires c = let p = part_cycles _ _ _ _ _ _ c.requires in record {
  n_in_bounds = omega (arith, p.0);
  n_in_bounds_2 = p.1;
}

pub copy_run-requires-2 : goal.copy_run-requires-2
copy_run-requires-2 c = let p = part_steps _ _ _ _ _ _ c.requires in record {
  n_in_bounds = omega (arith, p.0);
  n_in_bounds_2 = p.1;
}

pub overflow_cast-u : goal.overflow_cast-u
overflow_cast-u c = omega (arith, c.requires.building.cycle_room, c.requires.building.counts_size)

pub add_row-requires : goal.add_row-requires
add_row-requires c =
    record {
      count_lt_cells_most = c.requires.room.cells;
      next_lt_ids_end = c.requires.room.ids;
    }

pub returns-clause-holds : goal.returns-clause-holds
returns-clause-holds c =
    let a = c.args in
    subst (Holds (appended (sheet_of (held_by (arrays a.sheet.now))) (face (built a.numbers.now a.u a.places.now)))) (sym c.add_row.ensures.added)
    (pasted_holds (arrays a.sheet.now) a.c a.s a.numbers.now a.u a.places.now c.requires _ _ c.copy_run.ensures.out_after c.copy_run-2.ensures.out_after)
