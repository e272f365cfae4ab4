-- `count_uses` meets its contract. Assumes nothing.
use borrow.Author.Rules.{rules}
use lib.ListN.{length, take, drop, get_or}
use Rattle.store.specs.View.{width, width_sum, cycles_from}
use Rattle.rows_sides.proofs.Passing.{Walked, walked_none, walked_room, walked_part, walked_on, sum_next}
use Prim.Native.Nat.{ℕ, ◌≤◌, ◌<◌, ◌-◌, ◌+◌}
use mathlib.Core.Path.{◌≡◌, refl, ◌∙◌}
use native.Mathlib.Omega.{arith}
use Rattle.complex.specs.Lists.{total}
use Rattle.rows_uses.specs.Uses.{uses_in}
use Rattle.store.proofs.Lists.{places_one}
use Rattle.rows_uses.proofs.Runs.{uses_few}
use Rattle.rows_uses.proofs.count_uses.Goals as goal

pub loop-j-init : goal.loop-j-init
loop-j-init c = let p = c.requires in (walked_none _ _ _ p.n_in_bounds p.cycles_in_bounds, refl, omega arith)

pub cycle_uses-sum-requires : goal.cycle_uses-sum-requires
cycle_uses-sum-requires c =
    let q = c in
    walked_part _ _ _ q.requires.n_in_bounds q.requires.cycles_in_bounds q.loop-j.invariant.0 q.loop-j-test.true _ refl

pub overflow_add-sum : goal.overflow_add-sum
overflow_add-sum c =
    let a = c.args in
    let p = c.requires in
    let l = c.loop-j in
    let i = l.invariant in
    let n = get_or a.cycles.now l.j 0 in
    let r = walked_room a.cycles.now a.steps.now a.n p.n_in_bounds p.cycles_in_bounds i.0 c.loop-j-test.true n refl in
    let u = uses_few a.u a.i n (take (length a.steps.now - l.from) (drop l.from a.steps.now)) in
    record { fits = omega (arith, r, c.cycle_uses-sum.ensures, u) }

pub overflow_add-from : goal.overflow_add-from
overflow_add-from c =
    let a = c.args in
    let p = c.requires in
    let l = c.loop-j in
    let i = l.invariant in
    let n = get_or a.cycles.now l.j 0 in
    let r = walked_room a.cycles.now a.steps.now a.n p.n_in_bounds p.cycles_in_bounds i.0 c.loop-j-test.true n refl in
    let e = c.places-from.ensures ∙ places_one n in
    record { fits = omega (arith, r, e) }

pub loop-j-preserved : goal.loop-j-preserved
loop-j-preserved c =
    let a = c.args in
    let p = c.requires in
    let l = c.loop-j in
    let i = l.invariant in
    let n = get_or a.cycles.now l.j 0 in
    let u = uses_few a.u a.i n (take (length a.steps.now - l.from) (drop l.from a.steps.now)) in
    let e = c.places-from.ensures ∙ places_one n in
    let h : l.j < length a.cycles.now = omega arith in (
      walked_on _ _ _ p.n_in_bounds p.cycles_in_bounds i.0 c.loop-j-test.true n refl _ e,
      sum_next (uses_in a.u a.i) _ _ _ n _ _ _ h i.0.place refl i.1 c.cycle_uses-sum.ensures,
      omega (arith, c.cycle_uses-sum.ensures, u, e, i.2),
    )

pub returns : goal.returns
returns c =
    let at = c in
    let e : at.loop-j.j ≡ at.args.n = omega arith in
    rw e at at.loop-j.invariant.1
