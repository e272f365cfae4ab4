-- `flag_ids` meets its contract. Assumes nothing.
use borrow.Author.Rules.{rules}
use Prim.Native.Nat.{◌≤◌, ◌-◌}
use mathlib.Core.Path.{◌≡◌}
use mathlib.Core.Logic.{⊎_elim}
use native.Mathlib.Omega.{arith}
use Rattle.rows_marks.proofs.Faces.{Flagging, flagging_put, flagging_skip, sought}
use Rattle.rows_marks.proofs.flag_ids.Given as goal

abbrev pub invariant-loop-i : goal.invariant-loop-i
invariant-loop-i l = (l.i ≤ l.n) × Flagging l.ids l.marks l.i l.flags
