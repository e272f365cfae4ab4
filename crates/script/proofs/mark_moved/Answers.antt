-- `script::mark_moved` meets its contract. The loop's invariant: what is flagged, with the numbers that are left, is all that is to be flagged.
-- Assumes nothing.
use native.Mathlib.Omega.{arith}
use mathlib.Core.Path.{◌≡◌}
use Prim.Native.Nat.{◌-◌}
use Rattle.number.specs.Numbers.{read_number}
use Rattle.decode_parts.specs.Lists.{numbers_read}
use Rattle.decode_parts.proofs.Rest.{leaves_number}
use Rattle.script.proofs.Steps.{one_passed, turn, one_stands, none_left}
use Rattle.script.proofs.Moved.{marking_start, marking_as, marking_small, marking_turn, marking_end}
use Rattle.script.proofs.mark_moved.Goals as goal

pub loop-init : goal.loop-init
loop-init c =
    let e : c.args.count - 0 ≡ c.args.count = omega arith in
    rw e (c.requires.stand, marking_start (numbers_read c.args.script.now c.args.place c.args.count) c.requires.count_value)

pub take_number-taken-requires : goal.take_number-taken-requires
take_number-taken-requires c = one_stands c.loop.invariant.0 (omega arith) leaves_number

pub bounds-flags-i : goal.bounds-flags-i
bounds-flags-i c =
    let l = c.loop.invariant in
    let t = turn l.0 (omega arith) leaves_number c.take_number-taken.ensures in
    let h = marking_small (marking_as t.0 l.1) in
    let e = c.wide-i.ensures in
    omega arith

pub loop-preserved : goal.loop-preserved
loop-preserved c =
    let l = c.loop.invariant in
    let t = turn l.0 (omega arith) leaves_number c.take_number-taken.ensures in
    rw one_passed (t.1, marking_turn (marking_as t.0 l.1) c.wide-i.ensures)

pub returns : goal.returns
returns c =
    let l = c.loop in
    let s = c.args.script.now in
    marking_end (marking_as (none_left read_number s l.at (c.args.count - c.loop.counter) (omega arith)) l.invariant.1)
