-- `decode_parts::skip_cycles` meets its contract. The loop's invariant: the cycles after those that were passed end where all of them end.
-- Assumes nothing.
use native.Mathlib.Omega.{arith}
use Rattle.decode_parts.proofs.Rest.{leaves_cycle}
use Rattle.decode_parts.proofs.Skips.{skipping_start, skipping_stop, skipping_turn, skipping_end}
use Rattle.decode_parts.proofs.Fields.{skip_heard, no_skip}
use Rattle.decode_parts.proofs.skip_cycles.Goals as goal

pub loop-init : goal.loop-init
loop-init c = skipping_start _ _ _ _ c.requires

pub returns-in_default : goal.returns-in_default
returns-in_default c = skipping_stop c.loop.invariant (omega arith)
    (no_skip c.skip_cycle.ensures c.in_default.is)

pub loop-preserved : goal.loop-preserved
loop-preserved c =
    let h = skip_heard c.skip_cycle.ensures leaves_cycle c.loop.invariant.fits c.in-Some.is in
    skipping_turn c.loop.invariant (omega arith) h.1

pub returns : goal.returns
returns c = skipping_end c.loop.invariant (omega arith)
