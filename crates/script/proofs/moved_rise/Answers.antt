-- `script::moved_rise` meets its contract. The loop's invariant: the test of all the numbers is the test of those that are left, from the least that may come.
-- Assumes nothing.
use native.Mathlib.Omega.{arith}
use mathlib.Core.Path.{◌≡◌, refl}
use Prim.Native.Nat.{◌-◌}
use Rattle.decode_parts.proofs.Rest.{leaves_number}
use Rattle.script.proofs.Steps.{one_passed, one_stands, walking_start, asking_stop, asking_turn, asking_end}
use Rattle.script.proofs.Moved.{rise_low, rise_high, rise_next}
use Rattle.script.proofs.moved_rise.Goals as goal

pub loop-init : goal.loop-init
loop-init c =
    let e : c.args.count - 0 ≡ c.args.count = omega arith in
    rw e (record { walk = walking_start c.requires; is = refl })

pub take_number-taken-requires : goal.take_number-taken-requires
take_number-taken-requires c = one_stands c.loop.invariant.walk.stand (omega arith) leaves_number

pub returns-then-cycle-least : goal.returns-then-cycle-least
returns-then-cycle-least c =
    asking_stop c.loop.invariant leaves_number (omega arith) c.take_number-taken.ensures
    (λ ns. rise_low ns c.args.limit c.if-cycle-least.true)

pub returns-then-limit-cycle : goal.returns-then-limit-cycle
returns-then-limit-cycle c =
    asking_stop c.loop.invariant leaves_number (omega arith) c.take_number-taken.ensures
    (λ ns. rise_high ns c.if-cycle-least.false c.if-limit-cycle.true)

pub loop-preserved : goal.loop-preserved
loop-preserved c =
    rw one_passed (asking_turn c.loop.invariant leaves_number (omega arith) c.take_number-taken.ensures
    (λ ns. rise_next ns c.if-cycle-least.false c.if-limit-cycle.false))

pub returns : goal.returns
returns c = asking_end c.loop.invariant leaves_number (omega arith)
