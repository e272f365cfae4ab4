-- `drop_cycles` meets its contract. Assumes nothing.
use Prim.Native.Nat.{◌≤◌, ◌-◌}
use lib.ListN.{take}
use Rattle.rows_slide.proofs.Runs.{Places}
use Rattle.rows_slide.proofs.Steps.{StepsOf}
use Rattle.rows_slide.proofs.drop_cycles.Given as goal

abbrev pub invariant-loop-i : goal.invariant-loop-i
invariant-loop-i l =
    (l.i ≤ l.n) × Places 0 (take l.n l.dead) (take l.n l.counts) l.initial.cycles l.i l.at l.to l.cycles × StepsOf (take l.n l.dead) (take l.n l.counts) l.initial.cycles l.initial.steps l.at l.step_at l.step_to l.steps

abbrev pub decreases-loop-i : goal.decreases-loop-i
decreases-loop-i l = l.n - l.i
