-- `copy_arc` meets its contract. Assumes nothing.
use borrow.Author.Rules.{rules}
use native.Mathlib.Omega.{arith}
use Rattle.rows_corners.proofs.Arcs.{pasted_short, pasted_long}
use Rattle.rows_corners.proofs.copy_arc.Goals as goal

pub returns-then-len-most : goal.returns-then-len-most
returns-then-len-most c =
    let i = c in
    let st = i in
    let a = st.args in record {
      value = c.copy_run.ensures.value;
      pasted = pasted_short a.steps.now a.base a.n a.from a.len a.out.now a.at st.requires i.if-len-most.true _
          c.copy_run.ensures.out_after;
    }

pub returns : goal.returns
returns c =
    let one = c in
    let i = one in
    let st = i in
    let a = st.args in
    let g = i.if-len-most.false in record {
      value = omega (arith, c.copy_run-2.ensures.value, one.copy_run-end.ensures.value);
      pasted = pasted_long a.steps.now a.base a.n a.from a.len
          a.out.now a.at st.requires g _ _ one.copy_run-end.result one.copy_run-end.ensures.value one.copy_run-end.ensures.out_after
          c.copy_run-2.ensures.out_after;
    }
