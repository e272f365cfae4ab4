-- `renumber` meets its contract. Assumes nothing.
use borrow.Author.Rules.{rules}
use native.Mathlib.Omega.{arith}
use Rattle.lent.specs.Arrays.{of_lists}
use Rattle.kernel_rename.proofs.Lent.{lone_cycles, lone_steps}
use Rattle.kernel_renumber.proofs.Lent.{renumbered_in}
use Rattle.kernel_renumber.proofs.renumber.Goals as goal

pub rename_cycles-requires : goal.rename_cycles-requires
rename_cycles-requires c =
    let f = c in
    let s = f in
    let a = s.args in
    let b = of_lists a.sheet.now.next.now a.sheet.now.count.now a.sheet.now.ids.now a.sheet.now.kinds.now a.sheet.now.starts.now a.sheet.now.ends.now a.sheet.now.bends.now a.sheet.now.counts.now a.sheet.now.px.now a.sheet.now.py.now a.sheet.now.cycles.now a.sheet.now.steps.now a.sheet.now.bx.now a.sheet.now.by.now in
    let l = s.requires.lengths in
    let e = s.requires in
    record {
      table = f.fill.ensures;
      k_le_cycles_most = lone_cycles b l s.requires.fits s.args.k e.k_value;
      cycles_bound = lone_steps b l s.requires.fits s.args.k e.k_value;
      cycles_len = (l.cycles, l.steps);
    }

pub returns-clause-renumbered_in : goal.returns-clause-renumbered_in
returns-clause-renumbered_in c =
    let w = c.rename_cycles in
    let m = c in
    let s = m in
    let ss = m.rename_ends.new.starts in
    let es = m.rename_ends.new.ends in
    let st = w.new.steps in
    let a = s.args in
    let b = of_lists a.sheet.now.next.now a.sheet.now.count.now a.sheet.now.ids.now a.sheet.now.kinds.now a.sheet.now.starts.now a.sheet.now.ends.now a.sheet.now.bends.now a.sheet.now.counts.now a.sheet.now.px.now a.sheet.now.py.now a.sheet.now.cycles.now a.sheet.now.steps.now a.sheet.now.bx.now a.sheet.now.by.now in
    renumbered_in b s.requires.lengths s.requires.fits s.requires.by_value ss es st c.number_rows.new.ids m.rename_ends.ensures.ends_renamed
    m.rename_ends.ensures.ends_renamed_2 w.ensures.steps_len (rw s.requires.k_value at w.ensures.places_rewritten) c.number_rows.ensures _ (omega arith)
