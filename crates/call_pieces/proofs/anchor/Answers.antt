-- `anchor` meets its contract. Assumes nothing.
use mathlib.Core.Path.{sym, ap}
use mathlib.Core.Bool.{Bool, cond}
use Prim.Native.Nat.{◌/◌}
use borrow.Author.Tests.{eq-eqb, ne_eqb}
use Rattle.call_pieces.proofs.anchor.Goals as goal

pub returns-then-c-eq0 : goal.returns-then-c-eq0
returns-then-c-eq0 c = let s = c.args.s in sym (ap (λ (b : Bool). cond b s (s / 2)) (eq-eqb _ 0 c.if-c-eq0.true))

pub returns : goal.returns
returns c = let s = c.args.s in sym (ap (λ (b : Bool). cond b s (s / 2)) (ne_eqb _ 0 c.if-c-eq0.false))
