-- `text::put_bytes` meets its contract. Assumes nothing.
use native.Mathlib.Omega.{arith}
use Prim.Native.Nat.{ℕ, ◌+◌}
use mathlib.Core.Path.{◌≡◌, refl, subst}
use lib.ListN.{length}
use Rattle.text.specs.Texts.{TextPut}
use Rattle.text.proofs.Puts.{put_length, upto_more, upto_all}
use Rattle.text.proofs.put_bytes.Goals as goal

pub loop-i-init : goal.loop-i-init
loop-i-init c = (omega arith, record { stands = refl; ends = refl; short = omega arith })

pub bounds-text-i : goal.bounds-text-i
bounds-text-i c = omega arith

pub overflow_add-out : goal.overflow_add-out
overflow_add-out c = let l = c in omega (arith, l.well_formed.1.0.0)

pub bounds-out-at : goal.bounds-out-at
bounds-out-at c = let l = c in let e = put_length l.loop-i.invariant.1 in omega arith

pub loop-i-preserved : goal.loop-i-preserved
loop-i-preserved c =
    let l = c in
    let a = l.args in
    upto_more a.out.now a.at a.text.now l.loop-i.i l.loop-i.out l.loop-i.invariant c.loop-i-test.true

pub overflow_add-result : goal.overflow_add-result
overflow_add-result c = omega (arith, c.well_formed.1.0.0)

pub shape_of-out : goal.shape_of-out
shape_of-out c = put_length c.loop-i.invariant.1

pub returns : goal.returns
returns c =
    let l = c in
    let a = l.args in
    let e : l.loop-i.i ≡ length a.text.now = omega (arith, l.loop-i.invariant.0) in
    subst (λ (k : ℕ). TextPut a.out.now a.at a.text.now (length a.text.now) l.loop-i.out (a.at + k)) e
    (upto_all a.out.now a.at a.text.now l.loop-i.i l.loop-i.out l.loop-i.invariant c.loop-i-test.false)
