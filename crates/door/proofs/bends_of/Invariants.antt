-- `bends_of` meets its contract: a bend more at each turn. Assumes nothing.
use borrow.Author.Rules.{rules}
use Prim.Native.Nat.{◌≤◌, ◌-◌}
use mathlib.Core.Path.{◌≡◌, refl, sym, ◌∙◌}
use native.Mathlib.Omega.{arith}
use lib.Ieee.{nan}
use lib.ListN.{length, take, length-set}
use Rattle.coordinate.specs.declared.Position.{Position}
use Rattle.lent.specs.Arrays.{positions_in}
use Rattle.lent.proofs.Held.{positions_length, positions_at_lem}
use Rattle.door.proofs.Fronts.{front_turn, front_all}
use Rattle.door.proofs.bends_of.Given as goal

abbrev pub invariant-loop-i : goal.invariant-loop-i
invariant-loop-i l = (l.i ≤ 2048) × (length l.out ≡ 2048) × (take l.i l.out ≡ take l.i (positions_in l.bx l.by))
