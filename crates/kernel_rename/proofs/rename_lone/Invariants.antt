-- `rename_lone` meets its contract. Assumes nothing.
use borrow.Author.Rules.{rules}
use Prim.Native.Nat.{◌+◌, ◌-◌, ◌<◌, ◌≤◌}
use native.Mathlib.Omega.{arith}
use mathlib.Core.Path.{◌≡◌, refl, ap, ◌∙◌}
use mathlib.Core.Logic.{⊎_elim}
use lib.ListN.{length, get_or}
use Rattle.complex.specs.Glue.{renamed}
use Rattle.store.specs.Edits.{places_of}
use Rattle.rows_steps.specs.Renaming.{rename_place}
use Rattle.kernel_rename.proofs.Lone.{Walking, walking_start, walk_room, walk_steps, walk_lone, walked}
use Rattle.kernel_rename.proofs.rename_lone.Given as goal

abbrev pub invariant-loop-i : goal.invariant-loop-i
invariant-loop-i l = (l.i ≤ l.n) × Walking (rename_place (renamed l.a l.b)) l.cycles l.initial.steps l.i l.at l.steps
