-- `lent_cycles::cycles_good` meets its contract. The loop keeps: the sum of the steps so far, and that the cycles left decide. Assumes nothing.
use borrow.Author.Rules.{rules}
use Prim.Native.Nat.{◌≤◌, ◌-◌}
use mathlib.Core.Path.{refl, sym, ap, ◌∙◌}
use native.Mathlib.Omega.{arith}
use lib.ListN.{get_or}
use borrow.Author.Tests.{not-true, not-false}
use Rattle.store.proofs.Lists.{places_one}
use Rattle.sound.specs.Rows.{rows_of}
use Rattle.lent_cycles.specs.Ring.{steps_say}
use Rattle.lent_cycles.proofs.Going.{Going, going_start, going_over, going_fail, going_turn, going_end}
use Rattle.lent_cycles.proofs.cycles_good.Goals as goal

pub loop-i-init : goal.loop-i-init
loop-i-init c =
    let a = c.args in
    let p = c.requires in (
      omega arith,
      going_start (rows_of a.n a.ids.now a.kinds.now a.starts.now
          a.ends.now) a.cycles.now a.steps.now a.k a.m a.from p.from_value p.from_le_steps_most,
    )

pub overflow_sub-at : goal.overflow_sub-at
overflow_sub-at c = c.loop-i.invariant.1.fits

pub returns-then-at-w : goal.returns-then-at-w
returns-then-at-w c =
    let at = c in
    let a = at.args in
    let p = at.requires in
    going_over (rows_of a.n a.ids.now a.kinds.now a.starts.now a.ends.now) a.cycles.now a.steps.now a.k a.m
    (omega (arith, p.cycles_len, p.m_bound)) at.loop-i.at at.loop-i.i _ (omega arith) at.loop-i.invariant.1 c.places-w.ensures c.if-at-w.true

pub cycle_good-requires : goal.cycle_good-requires
cycle_good-requires c =
    let at = c in
    let a = at.args in
    let p = at.requires in
    let e = c.places-w.ensures ∙ places_one (get_or a.cycles.now _ 0) in
    record {
      looked = p.looked;
      steps_len = p.steps_len;
      c_bound = omega (arith, e, c.if-at-w.false, at.loop-i.invariant.1.fits);
    }

pub returns-then-not-cycle_good : goal.returns-then-not-cycle_good
returns-then-not-cycle_good c =
    let at = c in
    let a = at.args in
    let p = at.requires in
    going_fail (rows_of a.n a.ids.now a.kinds.now a.starts.now a.ends.now) a.cycles.now a.steps.now a.k a.m
    (omega (arith, p.cycles_len, p.m_bound)) at.loop-i.at at.loop-i.i _ (omega arith) at.loop-i.invariant.1 c.places-w.ensures
    (sym c.cycle_good.ensures ∙ c.if-not-cycle_good.true)

pub overflow_add-at : goal.overflow_add-at
overflow_add-at c =
    let at = c in
    let a = at.args in
    let p = at.requires in
    record { fits = omega (arith, c.if-at-w.false, at.loop-i.invariant.1.fits) }

pub loop-i-preserved : goal.loop-i-preserved
loop-i-preserved c =
    let at = c in
    let a = at.args in
    let p = at.requires in (
      omega arith,
      going_turn (rows_of a.n a.ids.now a.kinds.now a.starts.now a.ends.now) a.cycles.now a.steps.now a.k a.m (omega (arith, p.cycles_len, p.m_bound)) at.loop-i.at at.loop-i.i _ (omega arith) at.loop-i.invariant.1 c.places-w.ensures
          c.if-at-w.false (sym c.cycle_good.ensures ∙ c.if-not-cycle_good.false),
    )

pub returns : goal.returns
returns c =
    let at = c in
    let a = at.args in
    going_end (rows_of a.n a.ids.now a.kinds.now a.starts.now a.ends.now) a.cycles.now a.steps.now a.k a.m at.loop-i.at
    at.loop-i.i (omega arith) at.loop-i.invariant.1
