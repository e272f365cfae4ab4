-- `lone_uses` meets its contract. Assumes nothing.
use Rattle.rows_uses.proofs.Runs.{width_pos, lone_unused, lone_use_lem}
use borrow.Author.Tests.{eq-eqb, ne_eqb}
use mathlib.Core.Path.{sym, ◌∙◌}
use native.Mathlib.Omega.{arith}
use Rattle.rows_uses.proofs.lone_uses.Goals as goal

pub returns-then-c-ne0 : goal.returns-then-c-ne0
returns-then-c-ne0 c = let a = c.args in lone_unused a.i a.c a.l.now c.if-c-ne0.true

pub bounds-l-0 : goal.bounds-l-0
bounds-l-0 c = omega (arith, width_pos c.args.c)

pub returns-then-i-l : goal.returns-then-i-l
returns-then-i-l c =
    let a = c.args in
    sym (simp (eq-eqb _ _ c.if-i-l.true)) ∙ lone_use_lem a.i a.c a.l.now c.if-c-ne0.false

pub returns : goal.returns
returns c =
    let a = c.args in
    sym (simp (ne_eqb _ _ c.if-i-l.false)) ∙ lone_use_lem a.i a.c a.l.now c.if-c-ne0.false
