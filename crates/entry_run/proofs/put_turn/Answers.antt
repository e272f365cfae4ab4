-- `entry_run::put_turn` meets its contract: a command, and its numbers put. Assumes nothing.
use native.Mathlib.Omega.{arith}
use Rattle.entry_run.proofs.Running.{put_in}
use Rattle.entry_run.proofs.put_turn.Goals as goal

pub step_at-t-requires : goal.step_at-t-requires
step_at-t-requires c =
    record {
      t = c.requires.t;
      at_in_bounds = c.requires.at_in_bounds;
    }

pub overflow_cast-t : goal.overflow_cast-t
overflow_cast-t c =
    let h = c.step_at-t.ensures.stepped_in.fits in
    let g = c.requires.script_in_bounds in
    record { fits = omega arith }

pub put_line-requires : goal.put_line-requires
put_line-requires c = c.requires.line_width_in_bounds

pub returns-clause-turned_in : goal.returns-clause-turned_in
returns-clause-turned_in c = put_in c.step_at-t.ensures.stepped_in c.args.lines.now c.args.place _ c.put_line.ensures
