-- `decode_parts::skip_numbers` meets its contract. The loop's invariant: the numbers after those that were passed end where all of them end.
-- Assumes nothing.
use native.Mathlib.Omega.{arith}
use Rattle.number.specs.Numbers.{read_number}
use Rattle.decode_parts.proofs.Skips.{skipping_start, skipping_stop, skipping_turn, skipping_end}
use Rattle.decode_parts.proofs.Fields.{number_heard}
use Rattle.decode_parts.proofs.skip_numbers.Goals as goal

pub loop-init : goal.loop-init
loop-init c = skipping_start _ _ _ _ c.requires

pub returns-in_default : goal.returns-in_default
returns-in_default c = skipping_stop c.loop.invariant (omega arith)
    (number_heard c.read_number.ensures c.in_default.is)

pub loop-preserved : goal.loop-preserved
loop-preserved c =
    skipping_turn c.loop.invariant (omega arith) (number_heard c.read_number.ensures c.in-Some.is)

pub returns : goal.returns
returns c = skipping_end c.loop.invariant (omega arith)
