-- `path_uses` meets its contract. The loop keeps: the uses of the steps left are to be added. Assumes nothing.
use Prim.Native.Nat.{◌≤◌, ◌-◌}
use mathlib.Core.Path.{refl}
use native.Mathlib.Omega.{arith}
use Rattle.ask_uncut_uses.proofs.Using.{Pathing, pathing_turn, pathing_end, step_not}
use Rattle.ask_uncut_uses.proofs.path_uses.Goals.{then-e-s, else-e-s}
use Rattle.ask_uncut_uses.proofs.path_uses.Goals as goal

pub loop-i-init : goal.loop-i-init
loop-i-init c = (omega arith, record { rest = refl })

pub loop-i-preserved : goal.loop-i-preserved
loop-i-preserved c =
    let at = c in
    let a = at.args in (
      omega arith,
      elim c.if-e-s.branch [
        | then-e-s w ↦ rw w.x-is
            (pathing_turn a.e a.face a.cycle a.steps.now a.from a.m a.x0 (omega arith) at.loop-i.x _ at.loop-i.i (omega arith)
            at.loop-i.invariant.1 w.step_use-x.ensures)
        | else-e-s w ↦ rw w.x-is
            (pathing_turn a.e a.face a.cycle a.steps.now a.from a.m a.x0 (omega arith) at.loop-i.x _ at.loop-i.i (omega arith)
            at.loop-i.invariant.1 (step_not at.loop-i.x a.e _ a.face a.cycle at.loop-i.i w.if-e-s.false))
      ],
    )

pub returns : goal.returns
returns c =
    let at = c in
    let a = at.args in
    pathing_end a.e a.face a.cycle a.steps.now a.from a.m a.x0 (omega arith) at.loop-i.x at.loop-i.i (omega arith) at.loop-i.invariant.1
