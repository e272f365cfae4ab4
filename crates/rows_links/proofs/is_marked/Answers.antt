-- `is_marked` meets its contract. Assumes nothing.
use borrow.Author.Rules.{rules}
use Prim.Native.Nat.{ℕ, ◌-◌}
use native.Mathlib.Omega.{arith}
use mathlib.Core.Path.{sym, ap}
use mathlib.Core.Bool.{false}
use lib.ListN.{get_or, get_or-eq_default}
use Rattle.rows_links.proofs.is_marked.Goals as goal

pub returns-then-i-at : goal.returns-then-i-at
returns-then-i-at c = ap (λ (i : ℕ). get_or c.args.at.now i false) c.wide-i.ensures

pub returns : goal.returns
returns c =
    let a = c.args in
    sym (get_or-eq_default a.at.now false (let e = c.wide-i.ensures in let l = c.if-i-at.false in omega arith))
