-- `face_marked` meets its contract. Assumes nothing.
use borrow.Author.Rules.{rules}
use Prim.Native.Nat.{◌≤◌, ◌<◌, ◌-◌, ◌+◌}
use mathlib.Core.Path.{◌≡◌, sym, ◌∙◌}
use native.Mathlib.Omega.{arith}
use lib.ListN.{length, take, drop, get_or, length-drop}
use lib.Seq.{get_or-drop}
use Rattle.complex.specs.Sound.{steps_most}
use Rattle.complex.proofs.Bools.{or_none}
use Rattle.store.specs.View.{width}
use Rattle.store.proofs.Lists.{places_one}
use Rattle.rows_marks.specs.Marks.{cycle_marked}
use Rattle.rows_marks.proofs.Faces.{Walking, walk_within, walk_turn}
use Rattle.rows_marks.proofs.face_marked.Given as goal

abbrev pub invariant-loop-j : goal.invariant-loop-j
invariant-loop-j l =
    (l.j ≤ l.k) × Walking (cycle_marked (take l.n l.ids) (take l.n l.marks) l.v) l.mark (drop l.first l.cycles) l.steps l.from l.j l.marked l.next
