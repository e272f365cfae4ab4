-- `top` meets its contract. Assumes nothing.
use borrow.Author.Rules.{rules}
use Prim.Native.Nat.{◌<◌}
use mathlib.Core.Path.{◌≡◌, refl}
use native.Mathlib.Omega.{arith}
use Rattle.rows_pieces.specs.Ways.{above}
use Rattle.rows_pieces.proofs.Ways.{Climbing, climb_start, climb_below, climb_turn, climb_end}
use Rattle.rows_pieces.proofs.top.Given as goal

abbrev pub invariant-loop-a : goal.invariant-loop-a
invariant-loop-a l = Climbing l.row l.initial.up l.r l.up × (l.a ≡ above l.up l.r)

abbrev pub decreases-loop-a : goal.decreases-loop-a
decreases-loop-a l = l.r
