-- `copy_cycle` meets its contract: the cycle is skipped, or its places are copied. Assumes nothing.
use borrow.Author.Rules.{rules}
use mathlib.Core.Path.{◌∙◌}
use native.Mathlib.Omega.{arith}
use lib.ListN.{drop, length-drop}
use Rattle.store.proofs.Lists.{places_one}
use Rattle.rows_spans.proofs.Building.{skipped, kept_room, copied}
use Rattle.kernel_lists.proofs.copy_cycle.Goals as goal

pub returns-then-skip : goal.returns-then-skip
returns-then-skip c =
    let st = c in
    let a = st.args in
    let whole = skipped a.counts.now a.u a.steps.now st.requires.building a.c (drop a.from a.src.now) a.skip c.if-skip.true in record {
      value = whole.0;
      built = whole.1;
    }

pub bounds-counts-i : goal.bounds-counts-i
bounds-counts-i c =
    let i = c in
    let st = i in
    let a = st.args in
    (kept_room a.counts.now a.u a.steps.now st.requires.building a.c a.src.now a.skip i.if-skip.false st.requires.c_in_bounds_2 st.requires.c_in_bounds_3).0

pub copy_run-e-requires : goal.copy_run-e-requires
copy_run-e-requires c =
    let st = c in
    let a = st.args in
    let w = c.places-w.ensures ∙ places_one a.c in
    let r = kept_room a.counts.now a.u a.steps.now st.requires.building a.c a.src.now a.skip c.if-skip.false st.requires.c_in_bounds_2
    st.requires.c_in_bounds_3 in
    record {
      n_in_bounds = omega (arith, w, st.requires.c_in_bounds);
      n_in_bounds_2 = omega (arith, w, r.1, st.requires.building.steps_size);
    }

pub returns : goal.returns
returns c =
    let st = c in
    let a = st.args in
    let w = c.places-w.ensures ∙ places_one a.c in
    let r = kept_room a.counts.now a.u a.steps.now st.requires.building a.c a.src.now a.skip c.if-skip.false
    st.requires.c_in_bounds_2 st.requires.c_in_bounds_3 in
    let whole = copied a.counts.now a.u a.steps.now st.requires.building a.c (drop a.from a.src.now) a.skip
    c.if-skip.false r.0 r.1
    (omega (arith, length-drop a.from a.src.now, st.requires.c_in_bounds)) _ _ _ w c.copy_run-e.ensures.value
    c.copy_run-e.ensures.out_after in record {
      value = whole.0;
      built = whole.1;
    }
