-- `run_on` meets its contract: each turn is a command of the script. Assumes nothing.
use Rattle.std.proofs.Common.{arith, rules}
use Rattle.lent.specs.Sheets.{arrays}
use Rattle.run.proofs.Coming.{come_start, come_turn, come_end}
use Rattle.run.proofs.run_on.Goals as goal

pub loop-at-init : goal.loop-at-init
loop-at-init c = record { come = come_start (arrays c.args.sheet.now) c.args.script.now c.requires.sound; same = search rules }

pub step_at-t-requires : goal.step_at-t-requires
step_at-t-requires c =
    record {
      t = c.loop-at.invariant.come.sound;
      at_in_bounds = c.loop-at-test.true;
    }

pub overflow_add-commands : goal.overflow_add-commands
overflow_add-commands c =
    let f = c.loop-at.invariant.come.progress.few in
    let h = c.loop-at-test.true in
    omega (arith, c.well_formed)

pub loop-at-smaller : goal.loop-at-smaller
loop-at-smaller c =
    let o = c.step_at-t.ensures.stepped_in.turned in
    let h = o.ahead in
    let g = o.within in
    omega arith

pub loop-at-preserved : goal.loop-at-preserved
loop-at-preserved c = record { come = come_turn c.loop-at.invariant.come _ c.step_at-t.ensures.stepped_in; same = search rules }

pub returns-clause-ran_on : goal.returns-clause-ran_on
returns-clause-ran_on c = come_end c.loop-at.invariant.come c.loop-at-test.false

pub returns-clause-same : goal.returns-clause-same
returns-clause-same c = c.loop-at.invariant.same
