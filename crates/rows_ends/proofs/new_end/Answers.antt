-- `new_end` meets its contract. Assumes nothing.
use Prim.Native.Nat.{ℕ, suc, ◌+◌, ◌-◌}
use native.Mathlib.Omega.{arith}
use mathlib.Core.Path.{◌≡◌, sym, ap, ◌∙◌}
use mathlib.Core.Bool.{Bool, cond}
use Rattle.complex.specs.Unglue.{copy_of}
use Rattle.rows_ends.proofs.new_end.Goals as goal

copy_first : (v next k : ℕ) → k ≡ 0 → v ≡ copy_of v next k
copy_first v next k e = ap (copy_of v next) (sym e)

copy_later : (v next k n : ℕ) → k ≡ suc n → next + n ≡ copy_of v next k
copy_later v next k n e = ap (copy_of v next) (sym e)

pub returns-then-not-mark : goal.returns-then-not-mark
returns-then-not-mark c = let a = c.args in sym (ap (λ (b : Bool). cond b (copy_of a.v a.next (a.g - 1)) a.a) c.if-not-mark.true)

pub returns-then-g-lt2 : goal.returns-then-g-lt2
returns-then-g-lt2 c =
    let a = c.args in
    copy_first a.v a.next (a.g - 1) (let l = c.if-g-lt2.true in omega arith)
    ∙ sym (ap (λ (b : Bool). cond b (copy_of a.v a.next (a.g - 1)) a.a) c.if-not-mark.false)

pub returns : goal.returns
returns c =
    let a = c.args in
    copy_later a.v a.next (a.g - 1) (a.g - 2) (let l = c.if-g-lt2.false in omega arith)
    ∙ sym (ap (λ (b : Bool). cond b (copy_of a.v a.next (a.g - 1)) a.a) c.if-not-mark.false)
