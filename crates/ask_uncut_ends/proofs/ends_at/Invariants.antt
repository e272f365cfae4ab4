-- `ends_at` meets its contract. The loop keeps: the ends of the rows left are to be added. Assumes nothing.
use Prim.Native.Nat.{◌≤◌}
use Rattle.ask_uncut_ends.proofs.Finding.{Ending}
use Rattle.ask_uncut_ends.proofs.ends_at.Given as goal

abbrev pub invariant-loop-i : goal.invariant-loop-i
invariant-loop-i l = (l.i ≤ l.n) × Ending l.v l.n l.ids l.kinds l.starts l.ends l.x l.i
