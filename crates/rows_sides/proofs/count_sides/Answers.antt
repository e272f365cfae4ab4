-- `count_sides` meets its contract. Assumes nothing.
use borrow.Author.Rules.{rules}
use Prim.Native.Nat.{ℕ, ◌≤◌, ◌<◌, ◌-◌, ◌+◌}
use mathlib.Core.Path.{◌≡◌, refl, ◌∙◌}
use native.Mathlib.Omega.{arith}
use lib.ListN.{length, take, drop, get_or}
use Rattle.complex.specs.Lists.{total}
use Rattle.store.specs.View.{width, width_sum, cycles_from}
use Rattle.store.proofs.Lists.{places_one}
use Rattle.rows_sides.specs.Sides.{forward_use, backward_use, forward_in, backward_in}
use Rattle.rows_sides.proofs.Counting.{cycle_few, forward_one, backward_one}
use Rattle.rows_sides.proofs.Passing.{Walked, walked_none, walked_room, walked_on, part_room, sum_next}
use Rattle.rows_sides.proofs.count_sides.Goals as goal

pub loop-j-init : goal.loop-j-init
loop-j-init c = let p = c.requires in (walked_none _ _ _ p.n_in_bounds p.cycles_in_bounds, refl, refl, omega arith, omega arith)

pub path_sides-x-requires : goal.path_sides-x-requires
path_sides-x-requires c =
    let a = c.args in
    let p = c.requires in
    let l = c.loop-j in
    let i = l.invariant in
    let n = get_or a.cycles.now l.j 0 in
    let r = walked_room a.cycles.now a.steps.now a.n p.n_in_bounds p.cycles_in_bounds i.0 c.loop-j-test.true n refl in
    part_room l.from (width n) a.steps.now r

pub overflow_add-forward : goal.overflow_add-forward
overflow_add-forward c =
    let a = c.args in
    let p = c.requires in
    let l = c.loop-j in
    let i = l.invariant in
    let n = get_or a.cycles.now l.j 0 in
    let r = walked_room a.cycles.now a.steps.now a.n p.n_in_bounds p.cycles_in_bounds i.0 c.loop-j-test.true n refl in
    let f = cycle_few (forward_use a.e) (forward_one a.e) n (take (length a.steps.now - l.from) (drop l.from a.steps.now)) in
    record { fits = omega (arith, r, c.path_sides-x.ensures.forward_value, f) }

pub overflow_add-backward : goal.overflow_add-backward
overflow_add-backward c =
    let a = c.args in
    let p = c.requires in
    let l = c.loop-j in
    let i = l.invariant in
    let n = get_or a.cycles.now l.j 0 in
    let r = walked_room a.cycles.now a.steps.now a.n p.n_in_bounds p.cycles_in_bounds i.0 c.loop-j-test.true n refl in
    let b = cycle_few (backward_use a.e) (backward_one a.e) n (take (length a.steps.now - l.from) (drop l.from a.steps.now)) in
    record { fits = omega (arith, r, c.path_sides-x.ensures.backward_value, b) }

pub overflow_add-from : goal.overflow_add-from
overflow_add-from c =
    let a = c.args in
    let p = c.requires in
    let l = c.loop-j in
    let i = l.invariant in
    let n = get_or a.cycles.now l.j 0 in
    let r = walked_room a.cycles.now a.steps.now a.n p.n_in_bounds p.cycles_in_bounds i.0 c.loop-j-test.true n refl in
    let e = c.places-from.ensures ∙ places_one n in
    record { fits = omega (arith, r, e) }

pub loop-j-preserved : goal.loop-j-preserved
loop-j-preserved c =
    let a = c.args in
    let p = c.requires in
    let l = c.loop-j in
    let i = l.invariant in
    let n = get_or a.cycles.now l.j 0 in
    let f = cycle_few (forward_use a.e) (forward_one a.e) n (take (length a.steps.now - l.from) (drop l.from a.steps.now)) in
    let b = cycle_few (backward_use a.e) (backward_one a.e) n (take (length a.steps.now - l.from) (drop l.from a.steps.now)) in
    let e = c.places-from.ensures ∙ places_one n in
    let h : l.j < length a.cycles.now = omega arith in
    let x = c.path_sides-x.ensures in (
      walked_on _ _ _ p.n_in_bounds p.cycles_in_bounds i.0 c.loop-j-test.true n refl _ e,
      sum_next (forward_in a.e) _ _ _ n _ _ _ h i.0.place refl i.1 x.forward_value,
      sum_next (backward_in a.e) _ _ _ n _ _ _ h i.0.place refl i.2 x.backward_value,
      omega (arith, x.forward_value, f, e, i.3),
      omega (arith, x.backward_value, b, e, i.4),
    )

pub returns : goal.returns
returns c =
    let at = c in
    let e : at.loop-j.j ≡ at.args.n = omega arith in
    record {
      forward_value = rw e at at.loop-j.invariant.1;
      backward_value = rw e at at.loop-j.invariant.2;
    }
