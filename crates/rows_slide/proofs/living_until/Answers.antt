-- `living_until` meets its contract. Assumes nothing.
use borrow.Author.Rules.{rules}
use Prim.Native.Nat.{◌-◌}
use mathlib.Core.Bool.{false}
use native.Mathlib.Omega.{arith}
use Rattle.rows_slide.specs.Slid.{Seen}
use Rattle.rows_slide.proofs.Sliding.{seen_turn, seen_stop, seen_all}
use Rattle.rows_slide.proofs.living_until.Goals as goal

pub loop-k-init : goal.loop-k-init
loop-k-init c = c.living_eights-eights.ensures

pub returns-then-dead-k : goal.returns-then-dead-k
returns-then-dead-k c = seen_stop c.loop-k.invariant c.if-dead-k.true

pub loop-k-preserved : goal.loop-k-preserved
loop-k-preserved c = let at = c in seen_turn at.requires.n_in_bounds (omega arith) c.if-dead-k.false at.loop-k.invariant

pub returns : goal.returns
returns c = seen_all (omega arith) c.loop-k.invariant
