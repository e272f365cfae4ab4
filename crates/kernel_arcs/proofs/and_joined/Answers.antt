-- `and_joined` meets its contract. Assumes nothing.
use borrow.Author.Rules.{rules}
use native.Mathlib.Omega.{arith}
use Rattle.kernel_arcs.proofs.Joins.{first_asks, second_asks, last_asks, joined_built}
use Rattle.kernel_arcs.proofs.and_joined.Goals as goal

pub copy_arc-mid-requires : goal.copy_arc-mid-requires
copy_arc-mid-requires c = let g = c.requires in first_asks g.joining g.building g.m_in_bounds

pub copy_arc-last-requires : goal.copy_arc-last-requires
copy_arc-last-requires c =
    let w = c in
    let y = w in
    let g = y.requires in
    second_asks g.joining g.building g.m_in_bounds y.copy_arc-mid.ensures.value y.copy_arc-mid.ensures.pasted w.put_step-next.ensures.value w.put_step-next.ensures.steps_after

pub put_step-requires : goal.put_step-requires
put_step-requires c =
    let v = c in
    let w = v in
    let y = w in
    let g = y.requires in
    last_asks g.joining g.building g.m_in_bounds y.copy_arc-mid.ensures.value y.copy_arc-mid.ensures.pasted w.put_step-next.ensures.value w.put_step-next.ensures.steps_after
    v.copy_arc-last.ensures.value v.copy_arc-last.ensures.pasted

pub close_path-requires : goal.close_path-requires
close_path-requires c =
    let g = c.requires in
    record {
      cycles_in_bounds = g.cycles_in_bounds;
      le_m = omega arith;
      m_bound = omega (arith, g.m_in_bounds, g.building.steps_size);
    }

pub returns : goal.returns
returns c =
    let x = c in
    let v = x in
    let w = v in
    let y = w in
    let g = y.requires in
    joined_built g.joining g.building g.m_in_bounds y.copy_arc-mid.ensures.value y.copy_arc-mid.ensures.pasted w.put_step-next.ensures.value w.put_step-next.ensures.steps_after
    v.copy_arc-last.ensures.value v.copy_arc-last.ensures.pasted x.put_step.ensures.steps_after c.close_path.ensures.closes
    c.close_path.ensures.value
