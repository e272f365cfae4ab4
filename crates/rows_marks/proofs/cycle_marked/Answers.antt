-- `cycle_marked` meets its contract. Assumes nothing.
use mathlib.Core.Path.{ap, sym, ◌∙◌}
use native.Mathlib.Omega.{arith}
use lib.ListN.{take}
use Rattle.store.specs.View.{width}
use Rattle.rows_spans.proofs.Building.{width_some}
use Rattle.rows_marks.proofs.Marking.{or_true, or_false}
use Rattle.rows_marks.proofs.Faces.{cycle_lone, cycle_path}
use borrow.Author.Rules.{rules}
use Rattle.rows_marks.proofs.cycle_marked.Goals as goal

pub returns-then-mark : goal.returns-then-mark
returns-then-mark c = sym (or_true _ c.if-mark.true)

pub bounds-steps-from : goal.bounds-steps-from
bounds-steps-from c = let e = ap width c.if-c-eq0.true in omega (arith, e)

pub returns-then-c-eq0 : goal.returns-then-c-eq0
returns-then-c-eq0 c =
    let a = c.args in
    cycle_lone (take a.n a.ids.now) (take a.n a.marks.now) a.v a.steps.now a.from a.c c.if-c-eq0.true
    ∙ sym (or_false _ c.if-mark.false)

pub path_marked-requires : goal.path_marked-requires
path_marked-requires c =
    let s = c in
    let p = s.requires in
    let e = width_some s.args.c (let h = c.if-c-eq0.false in omega arith) in
    record {
      sought = p.sought;
      steps_len = p.steps_len;
      m_bound = omega (arith, c.wide.ensures, e, p.c_bound);
    }

pub returns : goal.returns
returns c =
    let a = c.args in
    c.path_marked.ensures
    ∙ cycle_path (take a.n a.ids.now) (take a.n a.marks.now) a.v a.steps.now a.from a.c
    c.if-c-eq0.false _ c.wide.ensures
    ∙ sym (or_false _ c.if-mark.false)
