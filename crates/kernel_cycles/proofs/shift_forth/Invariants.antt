-- `shift_forth` meets its contract. Assumes nothing.
use borrow.Author.Rules.{rules}
use Prim.Native.Nat.{◌-◌}
use mathlib.Core.Path.{◌≡◌}
use native.Mathlib.Omega.{arith}
use Rattle.kernel_cycles.proofs.Moving.{GoingForth, forth_start, forth_turn, forth_end}
use Rattle.kernel_cycles.proofs.shift_forth.Given as goal

abbrev pub invariant-loop-i : goal.invariant-loop-i
invariant-loop-i l = GoingForth l.initial.l l.from l.n l.to l.i l.l
