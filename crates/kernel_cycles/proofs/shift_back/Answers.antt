-- `shift_back` meets its contract. Assumes nothing.
use mathlib.Core.Path.{◌≡◌}
use native.Mathlib.Omega.{arith}
use Rattle.kernel_cycles.proofs.Moving.{back_start, back_turn, back_end}
use Rattle.kernel_cycles.proofs.shift_back.Goals as goal

pub loop-i-init : goal.loop-i-init
loop-i-init c = back_start _ _ _ _

pub loop-i-preserved : goal.loop-i-preserved
loop-i-preserved c =
    let a = c.args in
    back_turn a.l.now a.from a.n a.to c.loop-i.i _ c.loop-i.l c.requires.from_le_to c.requires.n_in_bounds (omega arith) c.loop-i.invariant

pub returns : goal.returns
returns c =
    let e : c.loop-i.i ≡ 0 = omega arith in
    back_end _ _ _ _ _ (rw e at c.loop-i.invariant)
