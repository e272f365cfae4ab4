-- `next_step` meets its contract. Assumes nothing.
use borrow.Author.Rules.{rules}
use borrow.Author.Tests.{lt-ltb, le-ltb}
use Prim.Native.Nat.{◌+◌, ◌-◌}
use mathlib.Core.Path.{sym, ap}
use mathlib.Core.Bool.{Bool, cond}
use lib.ListN.{get_or}
use Rattle.rows_links.proofs.next_step.Goals as goal

pub returns-then-j-c : goal.returns-then-j-c
returns-then-j-c c =
    let a = c.args in
    sym (ap (λ (b : Bool). cond b (get_or a.l.now (a.j + 1) 0) (get_or a.l.now 0 0)) (lt-ltb (a.j + 1) a.c c.if-j-c.true))

pub returns : goal.returns
returns c =
    let a = c.args in
    sym (ap (λ (b : Bool). cond b (get_or a.l.now (a.j + 1) 0) (get_or a.l.now 0 0)) (le-ltb (a.j + 1) a.c c.if-j-c.false))
