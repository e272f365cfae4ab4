-- `spans_at` meets its contract. Assumes nothing.
use native.Mathlib.Omega.{arith}
use Rattle.kernel_cycles.proofs.Moving.{within_cycles, spans_known}
use Rattle.kernel_cycles.proofs.spans_at.Goals as goal

pub span_in-c-requires : goal.span_in-c-requires
span_in-c-requires c =
    let p = c.requires in
    record {
      count_bound = omega (arith, p.live);
      n_in_bounds = p.rows;
      all_value = p.cycle_sum;
      all_le_steps_most = omega (arith, p.cycle_most);
    }

pub span_in-s-requires : goal.span_in-s-requires
span_in-s-requires c =
    let y = c in
    let st = y in
    let a = st.args in
    let p = st.requires in
    record {
      count_bound = within_cycles a.counts.now a.cycles.now a.row a.t p y.span_in-c.result y.span_in-c.ensures;
      n_in_bounds = p.cycle_room;
      all_value = p.step_sum;
      all_le_steps_most = p.step_most;
    }

pub returns : goal.returns
returns c =
    let y = c in
    let st = y in
    let a = st.args in
    spans_known a.counts.now a.cycles.now a.row a.t st.requires y.span_in-c.result y.span_in-c.ensures _ c.span_in-s.ensures
