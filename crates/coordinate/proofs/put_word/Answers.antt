-- `coordinate::put_word` meets its contract. What is stored, with the bytes of the rest to store from at + k on, is the whole. Assumes nothing.
use borrow.Author.Rules.{rules}
use native.Mathlib.Omega.{arith}
use mathlib.Core.Path.{◌≡◌, refl, sym, ap, ◌∙◌}
use Prim.Native.Nat.{ℕ, ◌+◌, ◌-◌, ◌≤◌}
use native.Mathlib.Nat.{add-zero}
use lib.Dec.{lit≤}
use lib.ListN.{length, length-set}
use lib.Seq.{sets}
use Rattle.coordinate.specs.Positions.{bytes_of}
use Rattle.coordinate.proofs.Bytes.{store_more}
use Rattle.coordinate.proofs.put_word.Goals as goal

pub loop-k-init : goal.loop-k-init
loop-k-init c = (lit≤ tt, refl, ap (λ (i : ℕ). sets c.args.out.now i (bytes_of 8 c.args.n)) (add-zero c.args.at))

pub loop-k-preserved : goal.loop-k-preserved
loop-k-preserved c =
    let l = c.before.loop-k in
    let at = c.before.before.args.at in
    (search rules, simp length-set l.invariant.1, store_more l.out at l.k l.rest c.loop-k-test.true ∙ l.invariant.2)

pub shape_of-out : goal.shape_of-out
shape_of-out c = c.before.loop-k.invariant.1

pub returns : goal.returns
returns c =
    let l = c.before.loop-k in
    let e : 8 - l.k ≡ 0 = omega arith in
    ap (λ (j : ℕ). sets l.out (c.before.before.args.at + l.k) (bytes_of j l.rest)) (sym e) ∙ l.invariant.2
