-- `dead_until` meets its contract. Assumes nothing.
use borrow.Author.Rules.{rules}
use Prim.Native.Nat.{◌-◌}
use mathlib.Core.Bool.{true}
use native.Mathlib.Omega.{arith}
use borrow.Author.Tests.{not-true, not-false}
use Rattle.rows_slide.specs.Slid.{Seen}
use Rattle.rows_slide.proofs.Sliding.{seen_start, seen_turn, seen_stop, seen_all}
use Rattle.rows_slide.proofs.dead_until.Given as goal

abbrev pub invariant-loop-k : goal.invariant-loop-k
invariant-loop-k l = Seen l.dead true l.i l.n l.k
