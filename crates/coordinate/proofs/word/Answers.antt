-- `coordinate::word` meets its contract. The loop goes down from 8: n is the value of the bytes from at + k on. Assumes nothing.
use native.Mathlib.Omega.{arith}
use mathlib.Core.Path.{◌≡◌, ap, ◌∙◌}
use Prim.Native.Nat.{ℕ, ◌+◌, ◌-◌, ◌*◌, ◌<◌}
use native.Mathlib.Nat.{add-zero}
use lib.ListN.{get_or, take, drop}
use Rattle.coordinate.specs.Positions.{value_of}
use Rattle.coordinate.proofs.Bytes.{value_more, seven_bytes, byte_more}
use Rattle.coordinate.proofs.word.Goals as goal

pub overflow_mul-n : goal.overflow_mul-n
overflow_mul-n c =
    let h : c.loop-k.n < 72057594037927936 = seven_bytes c.loop-k.k (omega arith) (omega arith) c.loop-k.n c.loop-k.invariant.1 in
    omega arith

pub overflow_add-n-in-loop-k : goal.overflow_add-n-in-loop-k
overflow_add-n-in-loop-k c =
    let h : c.loop-k.n < 72057594037927936 = seven_bytes c.loop-k.k (omega arith) (omega arith) c.loop-k.n c.loop-k.invariant.1 in
    omega (arith, c.type_inv.s (c.args.at + (c.loop-k.k - 1)))

pub loop-k-preserved : goal.loop-k-preserved
loop-k-preserved c =
    let l = c.loop-k in
    let s = c.args.s.now in
    let at = c.args.at in
    let i = at + (l.k - 1) in (
      ap (λ (z : ℕ). get_or s i 0 + 256 * z) l.invariant.0 ∙ value_more l.k (omega arith) (omega arith) s at c.requires,
      byte_more l.k (omega arith) (omega arith) (get_or s i 0) l.n (c.type_inv.s i).fits l.invariant.1,
    )

pub returns : goal.returns
returns c =
    let l = c.loop-k in
    let s = c.args.s.now in
    let at = c.args.at in
    let z : l.k ≡ 0 = omega arith in
    l.invariant.0
    ∙ ap (λ (k : ℕ). value_of (take (8 - k) (drop (at + k) s))) z
    ∙ ap (λ (i : ℕ). value_of (take 8 (drop i s))) (add-zero at)
