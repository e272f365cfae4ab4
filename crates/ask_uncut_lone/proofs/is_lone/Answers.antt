-- `is_lone` meets its contract. Assumes nothing.
use borrow.Author.Rules.{rules}
use native.Mathlib.Omega.{arith}
use mathlib.Core.Path.{ap}
use lib.ListN.{drop}
use Rattle.store.specs.View.{width}
use Rattle.ask_uncut_lone.proofs.Search.{lone_here, lone_not}
use Rattle.ask_uncut_lone.proofs.is_lone.Goals as goal

pub bounds-steps-from : goal.bounds-steps-from
bounds-steps-from c = let w = ap width c.if-c-eq0.true in omega (arith, w)

pub returns-then-c-eq0 : goal.returns-then-c-eq0
returns-then-c-eq0 c = let a = c.args in lone_here a.v a.c a.steps.now a.from c.if-c-eq0.true

pub returns : goal.returns
returns c = let a = c.args in lone_not a.v a.c (drop a.from a.steps.now) c.if-c-eq0.false
