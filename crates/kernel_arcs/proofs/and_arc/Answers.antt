-- `and_arc` meets its contract. Assumes nothing.
use borrow.Author.Rules.{rules}
use Rattle.rows_corners.proofs.Arcs.{arc_built}
use Rattle.kernel_arcs.proofs.and_arc.Goals as goal

pub returns : goal.returns
returns c =
    let p = c in
    let y = p in
    let st = y in
    let a = st.args in
    arc_built a.steps.now a.base a.n a.from a.len a.numbers.now a.u a.places.now st.requires a.h _ _ _ y.copy_arc-end.result _
    y.copy_arc-end.ensures.value y.copy_arc-end.ensures.pasted p.put_step.ensures.steps_after c.close_path.ensures.closes
    c.close_path.ensures.value
