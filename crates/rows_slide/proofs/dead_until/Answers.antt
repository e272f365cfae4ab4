-- `dead_until` meets its contract. Assumes nothing.
use borrow.Author.Rules.{rules}
use Prim.Native.Nat.{◌-◌}
use mathlib.Core.Bool.{true}
use native.Mathlib.Omega.{arith}
use borrow.Author.Tests.{not-true, not-false}
use Rattle.rows_slide.specs.Slid.{Seen}
use Rattle.rows_slide.proofs.Sliding.{seen_start, seen_turn, seen_stop, seen_all}
use Rattle.rows_slide.proofs.dead_until.Goals as goal

pub loop-k-init : goal.loop-k-init
loop-k-init c = seen_start _ true _ _ c.requires.i_le_n

pub returns-then-not-dead-k : goal.returns-then-not-dead-k
returns-then-not-dead-k c = seen_stop c.loop-k.invariant (c.if-not-dead-k.true)

pub loop-k-preserved : goal.loop-k-preserved
loop-k-preserved c = let at = c in seen_turn at.requires.n_in_bounds (omega arith) (c.if-not-dead-k.false) at.loop-k.invariant

pub returns : goal.returns
returns c = seen_all (omega arith) c.loop-k.invariant
