-- `put_bends` meets its contract: a bend more at each turn. Assumes nothing.
use borrow.Author.Rules.{rules}
use Prim.Native.Nat.{◌≤◌, ◌-◌}
use mathlib.Core.Path.{◌≡◌, refl}
use native.Mathlib.Omega.{arith}
use lib.ListN.{length}
use Rattle.door.proofs.Fronts.{Bends, bends_turn, bends_all}
use Rattle.door.proofs.put_bends.Given as goal

abbrev pub invariant-loop-i : goal.invariant-loop-i
invariant-loop-i l = (l.i ≤ 2048) × Bends l.bends 2048 l.i l.bx l.by
