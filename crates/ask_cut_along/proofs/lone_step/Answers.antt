-- `lone_step` meets its contract. Assumes nothing.
use borrow.Author.Rules.{rules}
use borrow.Author.Tests.{eq-eqb, ne_eqb}
use Rattle.ask_cut_along.proofs.Corners.{is_lone_lem}
use Rattle.ask_cut_along.proofs.lone_step.Goals as goal

pub returns-then-cycles-j-eq0 : goal.returns-then-cycles-j-eq0
returns-then-cycles-j-eq0 c =
    let v = c in
    let a = v.args in
    is_lone_lem a.cycles.now a.t a.c v.wide.result v.wide.ensures _ (eq-eqb _ 0 c.if-cycles-j-eq0.true)

pub returns : goal.returns
returns c =
    let v = c in
    let a = v.args in
    is_lone_lem a.cycles.now a.t a.c v.wide.result v.wide.ensures _ (ne_eqb _ 0 c.if-cycles-j-eq0.false)
