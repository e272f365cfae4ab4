-- `rows_star::put_if` meets its contract. Assumes nothing.
use mathlib.Core.Path.{ap, sym}
use mathlib.Core.Bool.{Bool, cond}
use native.Mathlib.Omega.{arith}
use lib.ListN.{set}
use Rattle.store.specs.Places.{bit}
use borrow.Author.Rules.{rules}
use Rattle.rows_star.proofs.put_if.Goals as goal

pub bounds-out-at : goal.bounds-out-at
bounds-out-at c = let e = ap bit c.if-mark.true in omega (arith, e)

pub returns-then-mark : goal.returns-then-mark
returns-then-mark c =
    let a = c.args in
    sym (ap (λ (b : Bool). cond b (set a.out.now a.at a.v) a.out.now) c.if-mark.true)
