-- `lone_place` meets its contract. The loop keeps: the place is among the cycles left. Assumes nothing.
use Prim.Native.Nat.{◌-◌}
use Rattle.ask_uncut_lone.proofs.Search.{Seeking}
use Rattle.ask_uncut_lone.proofs.lone_place.Given as goal

abbrev pub invariant-loop-i : goal.invariant-loop-i
invariant-loop-i l = Seeking l.v l.cycles l.steps l.m l.from l.i
