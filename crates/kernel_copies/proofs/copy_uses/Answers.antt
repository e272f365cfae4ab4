-- `copy_uses` meets its contract. Assumes nothing.
use native.Mathlib.Omega.{arith}
use mathlib.Core.Path.{◌∙◌}
use Rattle.lent.specs.Sheets.{arrays}
use Rattle.kernel_copies.proofs.Coming.{uses_room, uses_copied}
use Rattle.kernel_copies.proofs.copy_uses.Goals as goal

pub copy_cycles-requires : goal.copy_cycles-requires
copy_cycles-requires c =
    let a = c.args in
    let p = c.requires in
    let r = uses_room (arrays a.sheet.now) p.lengths p.fits a.u a.i a.k0 a.m p.m_value in
    record {
      n_in_bounds = r.0;
      cycles_in_bounds = r.1;
      next_le_ids_end = p.next_le_ids_end;
      steps_bound = omega (arith, p.k0_bound, p.lengths.steps);
    }

pub returns-clause-uses_copied : goal.returns-clause-uses_copied
returns-clause-uses_copied c =
    let a = c.args in
    let p = c.requires in
    let y = c.copy_cycles in
    uses_copied (arrays a.sheet.now) p.lengths p.fits a.u a.i a.k0 a.m p.m_value p.t _ (y.auto.steps ∙ p.lengths.steps) y.ensures
