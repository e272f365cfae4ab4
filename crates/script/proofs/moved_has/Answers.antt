-- `script::moved_has` meets its contract. The loop's invariant: the numbers that are left hold it if all of them do. Assumes nothing.
use native.Mathlib.Omega.{arith}
use mathlib.Core.Path.{◌≡◌, refl}
use Prim.Native.Nat.{◌-◌}
use Rattle.decode_parts.proofs.Rest.{leaves_number}
use Rattle.script.proofs.Steps.{one_passed, one_stands, walking_start, asking_stop, asking_turn, asking_end}
use Rattle.script.proofs.Moved.{has_here, has_later}
use Rattle.script.proofs.moved_has.Goals as goal

pub loop-init : goal.loop-init
loop-init c =
    let e : c.args.count - 0 ≡ c.args.count = omega arith in
    rw e (record { walk = walking_start c.requires; is = refl })

pub take_number-taken-requires : goal.take_number-taken-requires
take_number-taken-requires c = one_stands c.loop.invariant.walk.stand (omega arith) leaves_number

pub returns-then-cycle-other : goal.returns-then-cycle-other
returns-then-cycle-other c =
    asking_stop c.loop.invariant leaves_number (omega arith) c.take_number-taken.ensures (λ ms. has_here ms c.if-cycle-other.true)

pub loop-preserved : goal.loop-preserved
loop-preserved c =
    rw one_passed (asking_turn c.loop.invariant leaves_number (omega arith) c.take_number-taken.ensures (λ ms. has_later ms c.if-cycle-other.false))

pub returns : goal.returns
returns c = asking_end c.loop.invariant leaves_number (omega arith)
