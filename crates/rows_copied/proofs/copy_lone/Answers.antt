-- `copy_lone` meets its contract. Assumes nothing.
use borrow.Author.Rules.{rules}
use Rattle.rows_uses.proofs.Runs.{width_pos}
use Rattle.rows_copied.proofs.Runs.{lone_none, lone_changed}
use native.Mathlib.Omega.{arith}
use Rattle.rows_copied.proofs.copy_lone.Goals as goal

pub returns-then-c-ne0 : goal.returns-then-c-ne0
returns-then-c-ne0 c = let a = c.args in lone_none a.i a.next a.k a.c a.l.now c.if-c-ne0.true

pub bounds-l-0 : goal.bounds-l-0
bounds-l-0 c = omega (arith, width_pos c.args.c)

pub bounds-l-0-2 : goal.bounds-l-0-2
bounds-l-0-2 c = omega (arith, width_pos c.args.c)

pub returns : goal.returns
returns c =
    let st = c in
    let a = st.args in
    lone_changed a.i a.next a.k a.c a.l.now c.copy_vertex.result c.if-c-ne0.false st.requires.c_in_bounds c.copy_vertex.ensures
