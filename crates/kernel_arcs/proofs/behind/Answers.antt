-- `behind` meets its contract. Assumes nothing.
use borrow.Author.Rules.{rules}
use Prim.Native.Nat.{ℕ, ◌+◌}
use mathlib.Core.Path.{ap, ◌∙◌}
use native.Mathlib.Omega.{arith}
use Rattle.store.proofs.Lists.{places_one}
use Rattle.kernel_arcs.proofs.Lists.{end_asks, behind_asks, behind_built}
use Rattle.kernel_arcs.proofs.behind.Goals as goal

pub overflow_add-end : goal.overflow_add-end
overflow_add-end c =
    let a = c.args in
    let p = c.requires in
    let e = end_asks p.within a.flags.now p.count_in_bounds a.c p.c_lt_count a.p p.p_value in
    let w = c.places.ensures ∙ places_one a.p.m in
    record { fits = omega arith }

pub overflow_add-t : goal.overflow_add-t
overflow_add-t c =
    let p = c.requires in
    let h = p.c_lt_count in
    omega (arith, p.within.in_cycles)

pub overflow_sub-t : goal.overflow_sub-t
overflow_sub-t c =
    let p = c.requires in
    let h = p.c_lt_count in
    omega arith

pub slice_bounds-copy_cycles-count : goal.slice_bounds-copy_cycles-count
slice_bounds-copy_cycles-count c =
    let p = c.requires in
    let h = p.c_lt_count in
    let f = p.count_in_bounds in
    omega (arith, p.within.in_cycles)

pub slice_bounds-copy_cycles-start : goal.slice_bounds-copy_cycles-start
slice_bounds-copy_cycles-start c =
    let p = c.requires in
    let h = p.c_lt_count in
    let f = p.count_in_bounds in
    omega (arith, p.within.in_cycles)

pub copy_cycles-requires : goal.copy_cycles-requires
copy_cycles-requires c =
    let f = c in
    let st = f in
    let a = st.args in
    let p = st.requires in
    let whole = behind_asks p.within a.flags.now p.count_in_bounds a.c p.c_lt_count a.p p.p_value _ (ap (λ (n : ℕ). a.p.at + n) (f.places.ensures ∙ places_one a.p.m)) p.building
    p.t_in_bounds p.t_in_bounds_2 in record {
      building = whole.0;
      k_in_bounds = whole.1.0;
      cycles_in_bounds = whole.1.1.0;
      k_in_bounds_2 = whole.1.1.1.0;
      cycles_in_bounds_2 = whole.1.1.1.1.0;
      cycles_in_bounds_3 = whole.1.1.1.1.1;
    }

pub returns : goal.returns
returns c =
    let f = c in
    let st = f in
    let a = st.args in
    let p = st.requires in
    behind_built p.within a.flags.now p.count_in_bounds a.c p.c_lt_count a.p p.p_value _ (ap (λ (n : ℕ). a.p.at + n) (f.places.ensures ∙ places_one a.p.m)) a.numbers.now a.u
    a.places.now c.copy_cycles.ensures.built
