-- `moved_fit` meets its contract. Assumes nothing.
use borrow.Author.Rules.{rules}
use borrow.Author.Tests.{not-true, not-false, eq-eqb, ne_eqb}
use mathlib.Core.Path.{sym, ap, ◌∙◌}
use mathlib.Core.Bool.{not}
use Rattle.ask_cut_along.proofs.Corners.{none_moved, not_rising, rising_without}
use Rattle.ask_cut_along.proofs.moved_fit.Goals as goal

pub returns-then-c1-c2 : goal.returns-then-c1-c2
returns-then-c1-c2 c =
    let st = c in
    let a = st.args in
    none_moved a.script.now a.place a.moved st.requires a.k a.c1 a.c2 (ne_eqb a.c1 a.c2 c.if-c1-c2.true)

pub returns-then-not-moved_rise : goal.returns-then-not-moved_rise
returns-then-not-moved_rise c =
    let r = c in
    let st = r in
    let a = st.args in
    not_rising a.script.now a.place a.moved st.requires a.k a.c1 a.c2 (eq-eqb a.c1 a.c2 r.if-c1-c2.false)
    (sym r.moved_rise.ensures ∙ c.if-not-moved_rise.true)

pub returns : goal.returns
returns c =
    let r = c in
    let st = r in
    let a = st.args in
    ap not c.moved_has.ensures
    ∙ rising_without a.script.now a.place a.moved st.requires a.k a.c1 a.c2 (eq-eqb a.c1 a.c2 r.if-c1-c2.false)
    (sym r.moved_rise.ensures ∙ c.if-not-moved_rise.false)
