-- `script::count_cycle_steps` meets its contract. The loop's invariant: the sum so far and the steps of the cycles that are left make the whole count.
-- Assumes nothing.
use mathlib.Core.Path.{◌≡◌, ap}
use native.Mathlib.Omega.{arith}
use Prim.Native.Nat.{◌-◌}
use Rattle.complex.specs.Lists.{total}
use Rattle.complex.specs.Sound.{step_count}
use Rattle.complex.specs.Decode.{read_cycle}
use Rattle.decode_parts.specs.Lists.{cycles_read}
use Rattle.decode_parts.proofs.Rest.{leaves_cycle}
use Rattle.script.proofs.Steps.{one_passed, one_stands, none_left}
use Rattle.script.proofs.Loads.{length_stands, first_steps, steps_after_lem, cycles_after}
use Rattle.script.proofs.count_cycle_steps.Goals as goal

pub take_number-size-requires : goal.take_number-size-requires
take_number-size-requires c = length_stands c.loop-i.invariant.0 (omega arith)

pub returns-then-most-sum : goal.returns-then-most-sum
returns-then-most-sum c =
    let v = c.loop-i.invariant in
    let f = (first_steps v.0 (omega arith) c.take_number-size.ensures).1.0 in
    let p = c.places-n.ensures in
    let h = c.if-most-sum.true in
    omega arith

pub returns-then-i-count : goal.returns-then-i-count
returns-then-i-count c =
    let v = c.loop-i.invariant in
    let f = (first_steps v.0 (omega arith) c.take_number-size.ensures).1 in
    let e = f.0 in
    let o = f.1 (omega arith) in
    let p = c.places-n.ensures in
    let h = c.if-most-sum.false in
    omega arith

pub cycle_end-at-requires : goal.cycle_end-at-requires
cycle_end-at-requires c = one_stands c.loop-i.invariant.0 (omega arith)
    leaves_cycle

pub loop-i-preserved : goal.loop-i-preserved
loop-i-preserved c =
    let v = c.loop-i.invariant in
    let w = steps_after_lem v.0 (omega arith) c.take_number-size.ensures c.cycle_end-at.ensures in
    let p = c.places-n.ensures in
    let h = c.if-most-sum.false in
    rw one_passed (cycles_after v.0 (omega arith) c.take_number-size.ensures c.cycle_end-at.ensures, v.1, omega arith, omega arith)

pub returns : goal.returns
returns c =
    let l = c.loop-i in
    let s = c.args.script.now in
    let w : total step_count (cycles_read s l.at (c.args.count - c.loop-i.i)) ≡ 0 = ap (total step_count) (none_left read_cycle s l.at (c.args.count - c.loop-i.i) (omega arith)) in
    let v = l.invariant in
    omega arith
