-- `add_cycle` meets its contract. Assumes nothing.
use mathlib.Core.Path.{◌∙◌}
use native.Mathlib.Omega.{arith}
use Rattle.kernel_cycles.proofs.Moving.{spliced_one}
use Rattle.kernel_cycles.proofs.Held.{in_cycles_lem, in_steps_lem, in_rows, replaced_in}
use Rattle.kernel_cycles.proofs.add_cycle.Goals as goal

pub add_number-requires : goal.add_number-requires
add_number-requires c =
    let p = c.requires in
    omega (arith, (in_cycles_lem _ _ _ _ _ _ _ p).1, p.long.cycles)

pub add_number-requires-2 : goal.add_number-requires-2
add_number-requires-2 c =
    let p = c.requires in
    omega (arith, (in_steps_lem _ _ _ _ _ _ _ p).1, p.long.steps)

pub overflow_add-sheet : goal.overflow_add-sheet
overflow_add-sheet c =
    let p = c.requires in
    record { fits = omega (arith, (in_cycles_lem _ _ _ _ _ _ _ p).1) }

pub overflow_cast-sheet : goal.overflow_cast-sheet
overflow_cast-sheet c =
    let p = c.requires in
    record { fits = omega (arith, (in_cycles_lem _ _ _ _ _ _ _ p).1) }

pub offset_bounds-sheet-row : goal.offset_bounds-sheet-row
offset_bounds-sheet-row c =
    let p = c.requires in
    omega (arith, in_rows _ _ _ _ _ _ _ p)

pub bounds-sheet-row : goal.bounds-sheet-row
bounds-sheet-row c =
    let p = c.requires in
    omega (arith, in_rows _ _ _ _ _ _ _ p)

pub returns-clause-replaced_in : goal.returns-clause-replaced_in
returns-clause-replaced_in c =
    let a = c.args in
    let p = c.requires in
    let k = in_cycles_lem _ _ _ _ _ _ _ p in
    let l = in_steps_lem _ _ _ _ _ _ _ p in
    replaced_in _ _ _ _ _ _ _ p _ _ (c.add_number.auto.l ∙ p.long.cycles) (c.add_number-2.auto.l ∙ p.long.steps)
    (spliced_one a.sheet.now.cycles.now a.s.cycles a.m _ 512 (omega (arith, k.1)) (omega (arith, k.0, p.long.cycles)) c.add_number.ensures)
    (spliced_one a.sheet.now.steps.now a.s.steps a.h _ 2048 (omega (arith, l.1)) (omega (arith, l.0, p.long.steps)) c.add_number-2.ensures)
