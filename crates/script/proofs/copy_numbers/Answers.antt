-- `script::copy_numbers` meets its contract. The loop's invariant: what is left to copy makes, from here on, what all of it makes. Assumes nothing.
use native.Mathlib.Omega.{arith}
use mathlib.Core.Path.{◌≡◌}
use Prim.Native.Nat.{◌+◌, ◌-◌}
use Rattle.decode_parts.proofs.Rest.{leaves_number}
use Rattle.script.proofs.Steps.{one_passed, one_stands}
use Rattle.script.proofs.Loads.{copying_start, copying_turn, copying_end}
use Rattle.script.proofs.copy_numbers.Goals as goal

pub loop-row-init : goal.loop-row-init
loop-row-init c =
    let e : c.args.to + c.args.count - c.args.to ≡ c.args.count = omega arith in
    rw e (copying_start c.requires.stand)

pub take_number-taken-requires : goal.take_number-taken-requires
take_number-taken-requires c = one_stands c.loop-row.invariant.walk.stand (omega arith) leaves_number

pub loop-row-preserved : goal.loop-row-preserved
loop-row-preserved c = rw one_passed (copying_turn c.loop-row.invariant (omega arith) c.take_number-taken.ensures)

pub returns : goal.returns
returns c = copying_end c.loop-row.invariant (omega arith)
