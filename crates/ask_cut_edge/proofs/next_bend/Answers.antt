-- `next_bend` meets its contract. Assumes nothing.
use borrow.Author.Rules.{rules}
use borrow.Author.Tests.{eq-eqb, ne_eqb}
use Prim.Native.Nat.{◌+◌}
use Rattle.ask_cut_edge.proofs.next_bend.Goals as goal

pub returns-then-i-m : goal.returns-then-i-m
returns-then-i-m c = rw (eq-eqb (c.args.i + 1) c.args.m c.if-i-m.true)

pub returns : goal.returns
returns c = rw (ne_eqb (c.args.i + 1) c.args.m c.if-i-m.false)
