-- `cycle_place` meets its contract. Assumes nothing.
use native.Mathlib.Omega.{arith}
use Prim.Native.Nat.{ℕ, ◌+◌}
use mathlib.Core.Path.{ap, ◌∙◌}
use lib.ListN.{take, drop}
use Rattle.store.proofs.Lists.{width_places}
use Rattle.rows_corners.proofs.cycle_place.Goals as goal

pub place_sum-requires : goal.place_sum-requires
place_sum-requires c =
    let st = c in
    let a = st.args in
    let p = st.requires in
    let l = p.cycles_len in
    let h = p.c_bound in
    let g = p.cycles_bound in
    let e = width_places (take a.c (drop a.t.cycles.first a.cycles.now)) in
    record {
      n_in_bounds = omega arith;
      counts_bound = omega arith;
    }

pub overflow_add-result : goal.overflow_add-result
overflow_add-result c =
    let y = c in
    let st = y in
    let a = st.args in
    let g = st.requires in
    let e = width_places (take a.c (drop a.t.cycles.first a.cycles.now)) in
    omega (arith, y.place_sum.ensures)

pub returns : goal.returns
returns c =
    let y = c in
    let st = y in
    let a = st.args in
    ap (λ (n : ℕ). a.t.steps.first + n) (y.place_sum.ensures ∙ width_places (take a.c (drop a.t.cycles.first a.cycles.now)))
