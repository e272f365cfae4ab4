-- `face_uses` meets its contract. The loop keeps: the uses of the cycles left are to be added. Assumes nothing.
use borrow.Author.Rules.{rules}
use Prim.Native.Nat.{◌≤◌, ◌-◌, ◌+◌}
use mathlib.Core.Path.{◌∙◌}
use native.Mathlib.Omega.{arith}
use lib.ListN.{get_or}
use Rattle.store.proofs.Lists.{places_one}
use Rattle.ask_uncut_uses.proofs.Using.{Facing, facing_start, facing_room, facing_turn, facing_end}
use Rattle.ask_uncut_uses.proofs.face_uses.Given as goal

abbrev pub invariant-loop-i : goal.invariant-loop-i
invariant-loop-i l = (l.i ≤ l.k) × Facing l.e l.face l.cycles l.c0 l.k l.steps l.p0 l.initial.x l.x l.from l.i
