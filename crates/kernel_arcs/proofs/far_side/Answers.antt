-- `far_side` meets its contract. Assumes nothing.
use Prim.Native.Nat.{◌-◌}
use borrow.Author.Rules.{rules}
use native.Mathlib.Omega.{arith}
use lib.ListN.{take}
use Rattle.store.specs.Edits.{kept}
use Rattle.rows_corners.specs.Faces.{cycles_at}
use Rattle.rows_corners.proofs.Lists.{built_then}
use Rattle.rows_split.proofs.Arcs.{distance_most}
use Rattle.rows_split.proofs.Places.{between_asks, arc_asks, far_steps, far_built}
use Rattle.kernel_arcs.proofs.Sides.{far_asks}
use Rattle.kernel_arcs.proofs.far_side.Goals as goal

pub between-len-requires : goal.between-len-requires
between-len-requires c =
    let st = c in
    let a = st.args in
    let g = st.requires in
    let whole = between_asks a.steps.now g.within.steps_size a.p g.m_bound a.s1 a.s2 g.s1_bound g.s2_bound in record {
      m_bound = whole.0;
      s_le_m = whole.1.0;
      t_le_m = whole.1.1;
    }

pub overflow_sub-m : goal.overflow_sub-m
overflow_sub-m c =
    let st = c in
    let a = st.args in
    let g = st.requires in
    let m = (distance_most a.p.m a.s1 a.s2 g.s1_bound g.s2_bound).0 in
    let e = c.between-len.ensures in
    omega arith

pub and_arc-u-requires : goal.and_arc-u-requires
and_arc-u-requires c =
    let y = c in
    let st = y in
    let a = st.args in
    let g = st.requires in
    let f = far_steps a.steps.now g.within.steps_size a.p g.m_bound a.s1 a.s2 g.s1_bound g.s2_bound a.e in
    let r = g.room_for in
    let i = r.cycles in
    let h = r.steps in
    let e = y.between-len.ensures in
    arc_asks a.steps.now g.within.steps_size a.p g.m_bound a.s2 a.s1 g.s2_bound g.s1_bound (a.p.m - y.between-len.result) (omega arith)
    r.few_counts r.few_steps (omega arith) (omega arith)

pub copy_cycles-requires : goal.copy_cycles-requires
copy_cycles-requires c =
    let q = c in
    let y = q in
    let st = y in
    let a = st.args in
    let g = st.requires in
    let r = g.room_for in
    let b = far_built a.steps.now g.within.steps_size a.p g.m_bound a.s1 a.s2 g.s1_bound g.s2_bound a.e
    y.between-len.result y.between-len.ensures q.and_arc-u.ensures in
    let whole = far_asks g.within a.flags.now g.count_in_bounds _ r q.and_arc-u.auto.numbers
    q.and_arc-u.auto.places b in record {
      building = whole.0;
      k_in_bounds = whole.1.0;
      cycles_in_bounds = whole.1.1.0;
      k_in_bounds_2 = whole.1.1.1.0;
      cycles_in_bounds_2 = whole.1.1.1.1.0;
      cycles_in_bounds_3 = whole.1.1.1.1.1;
    }

pub returns : goal.returns
returns c =
    let q = c in
    let y = q in
    let st = y in
    let a = st.args in
    let g = st.requires in
    built_then (kept (take a.t.cycles.count a.flags.now) (cycles_at a.cycles.now a.steps.now a.t))
    (far_built a.steps.now g.within.steps_size a.p g.m_bound a.s1 a.s2 g.s1_bound g.s2_bound a.e
    y.between-len.result y.between-len.ensures q.and_arc-u.ensures) c.copy_cycles.ensures.built
