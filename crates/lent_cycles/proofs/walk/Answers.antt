-- `lent_cycles::walk` meets its contract. The loop keeps: the whole test is the test of the steps left, from where the last one ended. Assumes nothing.
use borrow.Author.Rules.{rules}
use Prim.Native.Nat.{◌≤◌, ◌-◌}
use mathlib.Core.Path.{refl, ◌∙◌}
use native.Mathlib.Omega.{arith}
use borrow.Author.Tests.{not-true, not-false}
use Rattle.sound.specs.Rows.{rows_of}
use Rattle.sound.proofs.Looking.{step_goes, step_head, step_dead}
use Rattle.sound.proofs.Walking.{Leading, leading_fail, leading_turn, leading_end}
use Rattle.lent_cycles.proofs.walk.Goals as goal

pub loop-i-init : goal.loop-i-init
loop-i-init c = (omega arith, record { rest = refl })

pub row_of-row-requires : goal.row_of-row-requires
row_of-row-requires c =
    c.requires.looked.table

pub returns-then-n-row : goal.returns-then-n-row
returns-then-n-row c =
    let at = c in
    let s = at in
    let a = s.args in
    let p = s.requires.looked in
    leading_fail (rows_of a.n a.ids.now a.kinds.now a.starts.now a.ends.now) a.steps.now a.from a.m a.u a.w (omega arith)
    at.loop-i.at at.loop-i.i (omega arith) at.loop-i.invariant.1
    (step_dead a.n a.ids.now a.kinds.now a.starts.now a.ends.now _ _ c.row_of-row.ensures (omega (arith, p.table.few, p.kinds))
    (omega arith) at.loop-i.at)

pub goes_on-requires : goal.goes_on-requires
goes_on-requires c =
    let p = c.requires.looked in
    record {
      n_le_cells_most = p.table.few;
      kinds_len = p.kinds;
      starts_len = p.starts;
      ends_len = p.ends;
      row_lt_n = omega arith;
    }

pub returns-then-not-goes_on : goal.returns-then-not-goes_on
returns-then-not-goes_on c =
    let at = c in
    let s = at in
    let a = s.args in
    leading_fail (rows_of a.n a.ids.now a.kinds.now a.starts.now a.ends.now) a.steps.now a.from a.m a.u a.w (omega arith)
    at.loop-i.at at.loop-i.i (omega arith) at.loop-i.invariant.1
    (step_goes a.n a.ids.now a.kinds.now a.starts.now a.ends.now _ _ c.row_of-row.ensures at.loop-i.at _
    c.goes_on.ensures ∙ c.if-not-goes_on.true)

pub side-at-requires : goal.side-at-requires
side-at-requires c =
    let p = c.requires.looked in
    record {
      n_le_cells_most = p.table.few;
      starts_len = p.ends;
      ends_len = p.starts;
      row_lt_n = omega arith;
    }

pub loop-i-preserved : goal.loop-i-preserved
loop-i-preserved c =
    let turn = c in
    let at = turn in
    let s = at in
    let a = s.args in (
      omega (arith, turn),
      leading_turn (rows_of a.n a.ids.now a.kinds.now a.starts.now a.ends.now) a.steps.now a.from a.m a.u a.w
          (omega (arith, turn)) at.loop-i.at at.loop-i.i (omega (arith, turn)) at.loop-i.invariant.1
          (step_goes a.n a.ids.now a.kinds.now a.starts.now a.ends.now _ _ c.row_of-row.ensures
          at.loop-i.at _ c.goes_on.ensures ∙ c.if-not-goes_on.false) _
          (step_head a.n a.ids.now a.kinds.now a.starts.now a.ends.now _ _ c.row_of-row.ensures _
          c.side-at.ensures),
    )

pub returns : goal.returns
returns c =
    let at = c in
    let s = at in
    let a = s.args in
    leading_end (rows_of a.n a.ids.now a.kinds.now a.starts.now a.ends.now) a.steps.now a.from a.m a.u a.w (omega arith)
    at.loop-i.at at.loop-i.i (omega arith) at.loop-i.invariant.1
