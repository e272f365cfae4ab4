-- `is_end` meets its contract. Assumes nothing.
use borrow.Author.Tests.{eq-eqb, ne_eqb}
use Prim.Native.Nat.{◌-◌}
use mathlib.Core.Path.{sym, ap}
use mathlib.Core.Bool.{Bool, ◌&&◌}
use lib.Dec.{eqb}
use Rattle.rows_ends.proofs.is_end.Goals as goal

pub returns-then-k-ne1 : goal.returns-then-k-ne1
returns-then-k-ne1 c = let a = c.args in sym (ap (λ (b : Bool). b && eqb a.a a.v) (ne_eqb a.k 1 c.if-k-ne1.true))

pub returns : goal.returns
returns c = let a = c.args in sym (ap (λ (b : Bool). b && eqb a.a a.v) (eq-eqb a.k 1 c.if-k-ne1.false))
