-- `path_sides` meets its contract. Assumes nothing.
use borrow.Author.Rules.{rules}
use mathlib.Core.Path.{◌∙◌}
use native.Mathlib.Omega.{arith}
use Rattle.rows_spans.proofs.Building.{width_some}
use Rattle.rows_sides.specs.Sides.{forward_use, backward_use}
use Rattle.rows_sides.proofs.Counting.{path_total, lone_total}
use Rattle.rows_sides.proofs.path_sides.Goals as goal

pub returns-then-c-eq0 : goal.returns-then-c-eq0
returns-then-c-eq0 c =
    let a = c.args in
    record {
      forward_value = lone_total (forward_use a.e) a.c a.l.now c.if-c-eq0.true;
      backward_value = lone_total (backward_use a.e) a.c a.l.now c.if-c-eq0.true;
    }

pub run_sides-requires : goal.run_sides-requires
run_sides-requires c = let h = c.if-c-eq0.false in omega (arith, c.wide.ensures, width_some c.args.c (omega arith))

pub returns : goal.returns
returns c =
    let a = c.args in
    let h = c.if-c-eq0.false in
    let r = c.run_sides.ensures in
    let w = c.wide.ensures in
    record {
      forward_value = r.forward_value ∙ path_total (forward_use a.e) a.c a.l.now h _ w;
      backward_value = r.backward_value ∙ path_total (backward_use a.e) a.c a.l.now h _ w;
    }
