-- `replace_cycles` meets its contract. Assumes nothing.
use mathlib.Core.Path.{◌∙◌}
use native.Mathlib.Omega.{arith}
use Rattle.kernel_cycles.proofs.Held.{in_cycles_lem, in_steps_lem, in_rows, replaced_in}
use Rattle.kernel_cycles.proofs.replace_cycles.Goals as goal

pub splice-requires : goal.splice-requires
splice-requires c =
    let p = c.requires in
    let k = in_cycles_lem _ _ _ _ _ _ _ p in
    record {
      rest_in_bounds = omega (arith, k.0, p.long.cycles);
      n_in_bounds = p.replaces.in_counts;
      rest_in_bounds_2 = omega (arith, k.1, p.long.cycles);
    }

pub splice-requires-2 : goal.splice-requires-2
splice-requires-2 c =
    let p = c.requires in
    let k = in_steps_lem _ _ _ _ _ _ _ p in
    record {
      rest_in_bounds = omega (arith, k.0, p.long.steps);
      n_in_bounds = p.replaces.in_steps;
      rest_in_bounds_2 = omega (arith, k.1, p.long.steps);
    }

pub overflow_cast-sheet : goal.overflow_cast-sheet
overflow_cast-sheet c =
    let p = c.requires in
    omega (arith, (in_cycles_lem _ _ _ _ _ _ _ p).1)

pub offset_bounds-sheet-row : goal.offset_bounds-sheet-row
offset_bounds-sheet-row c =
    let p = c.requires in
    omega (arith, in_rows _ _ _ _ _ _ _ p)

pub bounds-sheet-row : goal.bounds-sheet-row
bounds-sheet-row c =
    let p = c.requires in
    omega (arith, in_rows _ _ _ _ _ _ _ p)

pub returns-clause-replaced_in : goal.returns-clause-replaced_in
returns-clause-replaced_in c =
    let p = c.requires in
    replaced_in _ _ _ _ _ _ _ p _ _ (c.splice.auto.l ∙ p.long.cycles) (c.splice-2.auto.l ∙ p.long.steps) c.splice.ensures c.splice-2.ensures
