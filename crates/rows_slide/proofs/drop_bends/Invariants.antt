-- `drop_bends` meets its contract. Assumes nothing.
use borrow.Author.Rules.{rules}
use Prim.Native.Nat.{◌≤◌, ◌-◌}
use native.Mathlib.Omega.{arith}
use mathlib.Core.Path.{◌≡◌}
use lib.ListN.{take}
use Rattle.rows_slide.proofs.Runs.{Places, Turned, none_gone, stretch_turn, stretch_end}
use Rattle.rows_slide.proofs.drop_bends.Given as goal

abbrev pub invariant-loop-i : goal.invariant-loop-i
invariant-loop-i l =
    (l.i ≤ l.n) × Places 0 (take l.n l.dead) (take l.n l.counts) l.initial.bx l.i l.at l.to l.bx × Places 0 (take l.n l.dead) (take l.n l.counts) l.initial.by l.i l.at l.to l.by

abbrev pub decreases-loop-i : goal.decreases-loop-i
decreases-loop-i l = l.n - l.i
