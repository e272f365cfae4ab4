-- `put_pair` meets its contract. Assumes nothing.
use borrow.Author.Rules.{rules}
use borrow.Author.Tests.{not-true, not-false}
use Prim.Native.Nat.{◌+◌, ◌-◌}
use mathlib.Core.Path.{sym, subst}
use mathlib.Core.Bool.{Bool, true}
use Rattle.rows_links.specs.Links.{Paired}
use Rattle.rows_links.proofs.Links.{pair_none, pair_one, pair_as}
use Rattle.rows_links.proofs.put_pair.Goals as goal

pub returns-then-not-keep : goal.returns-then-not-keep
returns-then-not-keep c =
    let a = c.args in
    subst (λ (b : Bool). Paired b a.x a.y a.used a.xs.now a.ys.now a.used a.xs.now a.ys.now) (sym (c.if-not-keep.true))
    (pair_none a.x a.y a.used a.xs.now a.ys.now)

pub returns : goal.returns
returns c =
    let a = c.args in
    pair_as a.keep true (c.if-not-keep.false) a.x a.y a.used a.xs.now a.ys.now (a.used + 1) _ _
    (pair_one a.x a.y a.used a.xs.now a.ys.now c.requires.used_in_bounds c.requires.used_in_bounds_2)
