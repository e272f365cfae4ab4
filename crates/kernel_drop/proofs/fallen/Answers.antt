-- `fallen` meets its contract. Assumes nothing.
use Prim.Native.Nat.{◌-◌}
use mathlib.Core.Path.{sym, ap}
use mathlib.Core.Bool.{Bool, cond}
use borrow.Author.Tests.{lt-ltb, le-ltb}
use Rattle.kernel_drop.proofs.fallen.Goals as goal

pub overflow_sub-result : goal.overflow_sub-result
overflow_sub-result c = c.requires c.if-other-row.true

pub returns-then-other-row : goal.returns-then-other-row
returns-then-other-row c =
    let a = c.args in
    sym (ap (λ (b : Bool). cond b (a.base - a.m) a.base) (lt-ltb a.other a.row c.if-other-row.true))

pub returns : goal.returns
returns c =
    let a = c.args in
    sym (ap (λ (b : Bool). cond b (a.base - a.m) a.base) (le-ltb a.other a.row c.if-other-row.false))
