-- `entry_run::run_lines` meets its contract: each turn is a command of the script. Assumes nothing.
use borrow.Author.Rules.{rules}
use native.Mathlib.Omega.{arith}
use Rattle.lent.specs.Sheets.{arrays}
use Rattle.entry_told.proofs.Going.{same_size, line_room}
use Rattle.entry_run.proofs.Running.{come_start, come_turn, come_end, few_so_far}
use Rattle.entry_run.proofs.run_lines.Goals as goal

pub loop-at-init : goal.loop-at-init
loop-at-init c =
    record {
      come = come_start (arrays c.args.sheet.now) c.args.script.now c.args.lines.now c.requires.t;
      same = search rules;
    }

pub overflow_mul-commands : goal.overflow_mul-commands
overflow_mul-commands c =
    let h = few_so_far c.loop-at.invariant.come c.loop-at-test.true c.requires.script_in_bounds in
    record { fits = omega arith }

pub put_turn-at-requires : goal.put_turn-at-requires
put_turn-at-requires c =
    let i = c.loop-at.invariant.come in
    record {
      t = i.sound;
      script_in_bounds = c.requires.script_in_bounds;
      at_in_bounds = c.loop-at-test.true;
      line_width_in_bounds = line_room i.going c.loop-at-test.true c.requires.script_in_bounds_2;
    }

pub overflow_add-commands : goal.overflow_add-commands
overflow_add-commands c =
    let h = few_so_far c.loop-at.invariant.come c.loop-at-test.true c.requires.script_in_bounds in
    record { fits = omega arith }

pub loop-at-smaller : goal.loop-at-smaller
loop-at-smaller c =
    let o = c.put_turn-at.ensures.turned_in.turned in
    let h = o.ahead in
    let g = o.within in
    omega arith

pub loop-at-preserved : goal.loop-at-preserved
loop-at-preserved c =
    record {
      come = come_turn c.loop-at.invariant.come c.loop-at-test.true c.put_turn-at.ensures.turned_in;
      same = search rules;
    }

pub shape_of-lines : goal.shape_of-lines
shape_of-lines c = same_size c.loop-at.invariant.come.going

pub returns-clause-ran_in : goal.returns-clause-ran_in
returns-clause-ran_in c = come_end c.loop-at.invariant.come c.requires.script_in_bounds_2 c.loop-at-test.false

pub returns-clause-same : goal.returns-clause-same
returns-clause-same c = c.loop-at.invariant.same
