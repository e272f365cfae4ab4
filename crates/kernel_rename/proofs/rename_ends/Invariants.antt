-- `rename_ends` meets its contract. Assumes nothing.
use borrow.Author.Rules.{rules}
use Prim.Native.Nat.{◌-◌, ◌<◌, ◌≤◌}
use native.Mathlib.Omega.{arith}
use mathlib.Core.Path.{◌≡◌}
use mathlib.Core.Logic.{⊎_elim}
use lib.ListN.{length}
use Rattle.complex.specs.Glue.{renamed}
use Rattle.kernel_rename.proofs.Ends.{Renaming, renaming_start, renaming_end, renaming_open, renaming_other}
use Rattle.kernel_rename.proofs.rename_ends.Given as goal

abbrev pub invariant-loop-i : goal.invariant-loop-i
invariant-loop-i l = (l.i ≤ l.n) × Renaming (renamed l.a l.b) l.kinds l.initial.starts l.i l.starts × Renaming (renamed l.a l.b) l.kinds l.initial.ends l.i l.ends
