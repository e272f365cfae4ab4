-- `copy_cycles` meets its contract: after i cycles those of them that are not skipped follow the list. Assumes nothing.
use borrow.Author.Rules.{rules}
use Prim.Native.Nat.{ℕ, ◌+◌, ◌≤◌, ◌<◌, ◌-◌}
use mathlib.Core.Path.{◌≡◌, sym, ◌∙◌}
use mathlib.Core.Bool.{false}
use mathlib.Core.List.{List}
use native.Mathlib.Omega.{arith}
use lib.ListN.{length, drop, get_or, length-drop}
use lib.Seq.{get_or-drop}
use Rattle.store.proofs.Lists.{places_one}
use Rattle.rows_spans.proofs.Building.{Copying, copying_start, copying_place, copying_cycles, copying_steps, copying_turn}
use Rattle.kernel_lists.proofs.copy_cycles.Goals as goal

-- the cycles from a place on, and one of them
enough : (from k : ℕ) (ns : List ℕ) → from + k ≤ length ns → k ≤ length (drop from ns)
enough from k ns h = omega (arith, length-drop from ns)

stands : (from i : ℕ) (ns : List ℕ) → get_or ns (from + i) 0 ≡ get_or (drop from ns) i 0
stands from i ns = sym (get_or-drop from ns i 0)

pub loop-i-init : goal.loop-i-init
loop-i-init c =
    let st = c in
    let a = st.args in
    (omega arith, copying_start (drop a.from a.cycles.now) a.src.now a.step a.skip.now a.counts.now a.u a.steps.now st.requires.building)

pub copy_cycle-out-requires : goal.copy_cycle-out-requires
copy_cycle-out-requires c =
    let at = c in
    let st = at in
    let a = st.args in
    let h : at.loop-i.i < a.k = omega arith in
    let p = at.loop-i.invariant.1 in record {
      building = p.list.building;
      c_in_bounds = copying_place (drop a.from a.cycles.now) a.src.now a.step a.skip.now a.counts.now a.u a.steps.now at.loop-i.i a.k
          at.loop-i.at at.loop-i.counts at.loop-i.out at.loop-i.steps false p h st.requires.k_in_bounds_2 (enough a.from a.k a.cycles.now st.requires.k_in_bounds)
          (get_or a.cycles.now (a.from + at.loop-i.i) 0) (stands a.from at.loop-i.i a.cycles.now) st.requires.cycles_in_bounds;
      c_in_bounds_2 = copying_cycles (drop a.from
          a.cycles.now) a.src.now a.step a.skip.now a.counts.now a.u a.steps.now at.loop-i.i a.k at.loop-i.at
          at.loop-i.counts at.loop-i.out at.loop-i.steps false p h st.requires.k_in_bounds_2 (enough a.from a.k a.cycles.now st.requires.k_in_bounds) (get_or a.cycles.now (a.from + at.loop-i.i) 0)
          (stands a.from at.loop-i.i a.cycles.now) st.requires.cycles_in_bounds_2;
      c_in_bounds_3 = copying_steps (drop a.from a.cycles.now) a.src.now a.step a.skip.now
          a.counts.now a.u a.steps.now at.loop-i.i a.k at.loop-i.at at.loop-i.counts at.loop-i.out at.loop-i.steps false p h
          st.requires.k_in_bounds_2 (enough a.from a.k a.cycles.now st.requires.k_in_bounds) (get_or a.cycles.now (a.from + at.loop-i.i) 0) (stands a.from at.loop-i.i a.cycles.now) st.requires.cycles_in_bounds_3;
    }

pub overflow_add-at : goal.overflow_add-at
overflow_add-at c =
    let at = c in
    let st = at in
    let a = st.args in
    let h : at.loop-i.i < a.k = omega (arith, c.loop-i-test) in
    let p = at.loop-i.invariant.1 in
    let g = copying_place (drop a.from a.cycles.now) a.src.now a.step a.skip.now a.counts.now a.u a.steps.now at.loop-i.i a.k
    at.loop-i.at at.loop-i.counts at.loop-i.out at.loop-i.steps false p h st.requires.k_in_bounds_2 (enough a.from a.k a.cycles.now st.requires.k_in_bounds)
    (get_or a.cycles.now (a.from + at.loop-i.i) 0) (stands a.from at.loop-i.i a.cycles.now) st.requires.cycles_in_bounds in
    record { fits = omega (arith, g, c.places-at.ensures ∙ places_one (get_or a.cycles.now (a.from + at.loop-i.i) 0)) }

pub loop-i-preserved : goal.loop-i-preserved
loop-i-preserved c =
    let at = c in
    let st = at in
    let a = st.args in
    let h : at.loop-i.i < a.k = omega (arith, c.loop-i-test) in
    let p = at.loop-i.invariant.1 in
    let r = c.copy_cycle-out in (
      omega arith,
      copying_turn (drop a.from a.cycles.now) a.src.now a.step a.skip.now a.counts.now a.u a.steps.now at.loop-i.i a.k
          at.loop-i.at at.loop-i.counts at.loop-i.out at.loop-i.steps false p h st.requires.k_in_bounds_2 (enough a.from a.k a.cycles.now st.requires.k_in_bounds)
          (get_or a.cycles.now (a.from + at.loop-i.i) 0) (stands a.from at.loop-i.i a.cycles.now) r.new.counts r.result r.new.steps
          r.auto.counts r.auto.steps c.places-at.result
          (c.places-at.ensures ∙ places_one (get_or a.cycles.now (a.from + at.loop-i.i) 0)) r.ensures.value r.ensures.built,
    )

pub shape_of-counts : goal.shape_of-counts
shape_of-counts c = c.loop-i.invariant.1.counts_long

pub shape_of-steps : goal.shape_of-steps
shape_of-steps c = c.loop-i.invariant.1.steps_long

pub returns : goal.returns
returns c =
    let at = c in
    let st = at in
    let e : at.loop-i.i ≡ st.args.k = omega arith in
    let p = at.loop-i.invariant.1 in
    let u = rw e at p.cycles_is in
    let v = rw e at p.steps_is in
    record {
      built = rw e at p.list;
      value = (λ i. record { cycles = u i; steps = v i });
    }
