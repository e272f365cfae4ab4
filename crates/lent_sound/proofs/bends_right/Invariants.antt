-- `lent_sound::bends_right` meets its contract. The loop keeps: whether those so far are right, and that the rest decides. Assumes nothing.
use borrow.Author.Rules.{rules}
use Prim.Native.Nat.{◌-◌}
use native.Mathlib.Omega.{arith}
use Rattle.lent_sound.specs.Walk.{bend_right}
use Rattle.lent_sound.proofs.Testing.{Ranging, ranging_start, ranging_turn, ranging_end}
use Rattle.lent_sound.proofs.bends_right.Given as goal

abbrev pub invariant-loop-i : goal.invariant-loop-i
invariant-loop-i l = Ranging (bend_right l.bx l.by) l.from l.to l.good l.i
