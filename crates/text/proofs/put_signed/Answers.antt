-- `text::put_signed` meets its contract: a hyphen if negative, then the digits. Assumes nothing.
use Prim.Native.Nat.{◌+◌}
use native.Mathlib.Omega.{arith}
use mathlib.Core.Path.{ap}
use lib.ListN.{length, set, length-set}
use Rattle.text.proofs.Signs.{signed_negative, signed_plain}
use Rattle.text.proofs.Puts.{put_number, put_byte, put_then, put_as, put_within}
use Rattle.text.proofs.put_signed.Goals as goal

pub bounds-out-at : goal.bounds-out-at
bounds-out-at c =
    let m = c in
    let s = m in
    let e = ap length (signed_negative s.args.v s.ranges.v c.if-v-lt0.true m.magnitude-n.result m.magnitude-n.ensures) in
    let h = s.requires in
    omega arith

pub put_decimal-requires : goal.put_decimal-requires
put_decimal-requires c =
    let m = c in
    let s = m in
    let e = ap length (signed_negative s.args.v s.ranges.v c.if-v-lt0.true m.magnitude-n.result m.magnitude-n.ensures) in
    let h = s.requires in
    let l = length-set s.args.out.now s.args.at 45 in
    omega arith

pub returns-then-v-lt0 : goal.returns-then-v-lt0
returns-then-v-lt0 c =
    let p = c in
    let t = p in
    let m = t in
    let s = m in
    let l = s.args.out.now in
    let q = put_number (set l s.args.at 45) (s.args.at + 1) m.magnitude-n.result p.put_decimal.new.out p.put_decimal.result
    m.magnitude-n.type_inv p.put_decimal.ensures.value p.put_decimal.ensures.out_after in
    put_as (put_then (put_byte l s.args.at 45) q) (signed_negative s.args.v s.ranges.v t.if-v-lt0.true m.magnitude-n.result m.magnitude-n.ensures)

pub put_decimal-requires-2 : goal.put_decimal-requires-2
put_decimal-requires-2 c =
    let m = c in
    let s = m in
    let e = ap length (signed_plain s.args.v s.ranges.v c.if-v-lt0.false m.magnitude-n.result m.magnitude-n.ensures) in
    let h = s.requires in
    omega arith

pub returns : goal.returns
returns c =
    let p = c in
    let t = p in
    let m = t in
    let s = m in
    let q = put_number s.args.out.now s.args.at m.magnitude-n.result p.put_decimal-2.new.out p.put_decimal-2.result m.magnitude-n.type_inv
    p.put_decimal-2.ensures.value p.put_decimal-2.ensures.out_after in
    put_within (omega arith) (put_as q (signed_plain s.args.v s.ranges.v t.if-v-lt0.false m.magnitude-n.result m.magnitude-n.ensures))
