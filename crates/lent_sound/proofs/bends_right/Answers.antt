-- `lent_sound::bends_right` meets its contract. The loop keeps: whether those so far are right, and that the rest decides. Assumes nothing.
use borrow.Author.Rules.{rules}
use Prim.Native.Nat.{◌-◌}
use native.Mathlib.Omega.{arith}
use Rattle.lent_sound.specs.Walk.{bend_right}
use Rattle.lent_sound.proofs.Testing.{Ranging, ranging_start, ranging_turn, ranging_end}
use Rattle.lent_sound.proofs.bends_right.Goals as goal

pub loop-i-init : goal.loop-i-init
loop-i-init c = ranging_start _ _ _

pub loop-i-preserved : goal.loop-i-preserved
loop-i-preserved c =
    let turn = c in
    let at = turn in
    ranging_turn _ _ _ at.loop-i.good at.loop-i.i (omega (arith, turn)) at.loop-i.invariant _ _ c.in_bounds.ensures c.both-good.ensures

pub returns : goal.returns
returns c =
    let at = c in
    ranging_end _ _ _ at.loop-i.good at.loop-i.i (omega arith) at.loop-i.invariant
