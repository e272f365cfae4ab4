-- `lent_table::fill` meets its contract. The loop keeps: the place of each row written has that row or one before it. Assumes nothing.
use Prim.Native.Nat.{ℕ, ◌%◌}
use mathlib.Core.Path.{ap}
use native.Mathlib.Omega.{arith}
use Rattle.lent_table.proofs.First.{filling_start, filling_turn, filling_end}
use Rattle.lent_table.proofs.fill.Goals as goal

pub loop-i-init : goal.loop-i-init
loop-i-init c = filling_start _ _ _ c.table_long.ensures

pub loop-i-preserved : goal.loop-i-preserved
loop-i-preserved c =
    filling_turn c.loop-i.table c.args.ids.now c.args.n c.loop-i.i _ _ c.loop-i.invariant (omega arith) (ap (λ (x : ℕ). x % 1024)
    c.wide-at.ensures) (omega arith)

pub returns : goal.returns
returns c =
    filling_end c.loop-i.table c.args.ids.now c.args.n c.loop-i.i (omega arith) c.loop-i.invariant (omega arith)
    c.rows_long.ensures
