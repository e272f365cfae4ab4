-- `rename_cycles` meets its contract. Assumes nothing.
use borrow.Author.Rules.{rules}
use Prim.Native.Nat.{◌+◌, ◌-◌, ◌<◌, ◌≤◌}
use native.Mathlib.Omega.{arith}
use mathlib.Core.Path.{◌≡◌, ◌∙◌}
use lib.ListN.{length, get_or, take}
use Rattle.store.specs.Edits.{places_of}
use Rattle.kernel_rename.proofs.Lone.{Walking, walking_start, walk_room, walked}
use Rattle.kernel_renumber.specs.Renumbers.{new_id, new_place}
use Rattle.kernel_renumber.proofs.Places.{walk_cycle}
use Rattle.kernel_renumber.proofs.rename_cycles.Given as goal

abbrev pub invariant-loop-i : goal.invariant-loop-i
invariant-loop-i l = (l.i ≤ l.k) × Walking (new_place (new_id (take l.n l.ids))) l.cycles l.initial.steps l.i l.at l.steps
