-- `living_eights` meets its contract. Assumes nothing.
use borrow.Author.Rules.{rules}
use Prim.Native.Nat.{◌-◌}
use mathlib.Core.Bool.{false}
use native.Mathlib.Omega.{arith}
use Rattle.rows_slide.specs.Slid.{Seen}
use Rattle.rows_slide.proofs.Sliding.{seen_start, seen_eight}
use Rattle.rows_slide.proofs.living_eights.Goals as goal

pub loop-k-init : goal.loop-k-init
loop-k-init c = seen_start _ false _ _ c.requires.i_le_n

pub returns-then-a-b : goal.returns-then-a-b
returns-then-a-b c = c.loop-k.invariant

pub loop-k-preserved : goal.loop-k-preserved
loop-k-preserved c =
    let at = c in
    seen_eight at.requires.n_in_bounds (omega arith) c.if-a-b.false at.loop-k.invariant

pub returns : goal.returns
returns c = c.loop-k.invariant
