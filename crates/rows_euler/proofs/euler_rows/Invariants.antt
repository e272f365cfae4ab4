-- `euler_rows` meets its contract. Assumes nothing.
use mir.Syntax.{w32}
use mir.ValLaws.{to_z-of_z}
use mathlib.Core.Path.{◌≡◌, ap, ap₂, ◌∙◌}
use lib.ListN.{take, get_or}
use borrow.Author.Rules.{rules}
use Prim.Native.Nat.{ℕ, ◌≤◌, ◌-◌, ◌+◌}
use native.Mathlib.Omega.{arith}
use lib.IntN.{sub_ℕ}
use lib.Seq.{length-take-le}
use Rattle.complex.specs.Lists.{total}
use Rattle.store.proofs.Lists.{sum_le}
use Rattle.rows_euler.specs.Shares.{gain_in, losses_in, euler_in}
use Rattle.rows_marks.proofs.Marking.{sum_on}
use Rattle.rows_euler.proofs.Counting.{gain_most, gains_most, losses_most, losses_more}
use Rattle.rows_euler.proofs.euler_rows.Given as goal

abbrev pub invariant-loop-i : goal.invariant-loop-i
invariant-loop-i l = (l.i ≤ l.n) × (l.up ≡ total gain_in (take l.i l.kinds)) × (l.down ≡ losses_in (take l.i l.kinds) (take l.i l.counts))
