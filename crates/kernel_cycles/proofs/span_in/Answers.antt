-- `span_in` meets its contract: two sums, and what is left of all. Assumes nothing.
use native.Mathlib.Omega.{arith}
use Rattle.kernel_cycles.proofs.Moving.{all_in, span_known}
use Rattle.kernel_cycles.proofs.span_in.Goals as goal

pub place_sum-a-requires : goal.place_sum-a-requires
place_sum-a-requires c =
    let st = c in
    let a = st.args in
    let p = st.requires in
    let k = all_in a.z a.counts.now a.first a.count a.n a.all p.count_bound p.all_value in
    record {
      n_in_bounds = omega (arith, p.count_bound, p.n_in_bounds);
      counts_bound = omega (arith, k, p.all_le_steps_most);
    }

pub place_sum-b-requires : goal.place_sum-b-requires
place_sum-b-requires c =
    let st = c in
    let a = st.args in
    let p = st.requires in
    let k = all_in a.z a.counts.now a.first a.count a.n a.all p.count_bound p.all_value in
    record {
      n_in_bounds = omega (arith, p.count_bound, p.n_in_bounds);
      counts_bound = omega (arith, k, p.all_le_steps_most);
    }

pub overflow_add-result : goal.overflow_add-result
overflow_add-result c =
    let st = c in
    let a = st.args in
    let p = st.requires in
    let k = all_in a.z a.counts.now a.first a.count a.n a.all p.count_bound p.all_value in
    record { fits = omega (arith, k, p.all_le_steps_most, c.place_sum-b.ensures, c.place_sum-a.ensures) }

pub overflow_sub-result : goal.overflow_sub-result
overflow_sub-result c =
    let st = c in
    let a = st.args in
    let p = st.requires in
    let k = all_in a.z a.counts.now a.first a.count a.n a.all p.count_bound p.all_value in
    omega (arith, k, c.place_sum-b.ensures, c.place_sum-a.ensures)

pub returns : goal.returns
returns c =
    let st = c in
    let a = st.args in
    let p = st.requires in
    span_known a.z a.counts.now a.first a.count a.n a.all p.count_bound p.all_value _ _ c.place_sum-a.ensures c.place_sum-b.ensures
