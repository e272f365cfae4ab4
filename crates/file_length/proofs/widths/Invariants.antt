-- `file_length::widths` meets its contract. The loop's invariant: the sum is that of the first i numbers. Assumes nothing.
use borrow.Author.Rules.{rules}
use Prim.Native.Nat.{ℕ, ◌+◌, ◌-◌, ◌≤◌}
use mathlib.Core.Path.{◌≡◌, refl, ap, sym, ◌∙◌, subst}
use native.Mathlib.Omega.{arith}
use lib.Dec.{T, ltb→lt}
use lib.ListN.{length, take, get_or}
use lib.Seq.{length-take-le, get_or-take}
use Rattle.number.specs.Numbers.{numbers_end}
use Rattle.complex.specs.Lists.{total}
use Rattle.store.proofs.Lists.{sum_more}
use Rattle.file_parts.specs.Parts.{spells}
use Rattle.file_length.specs.Widths.{spell_width}
use Rattle.file_parts.proofs.Laying.{all_get}
use Rattle.file_length.proofs.Lengths.{total_most, width_most}
use Rattle.file_length.proofs.widths.Given as goal

abbrev pub invariant-loop-i : goal.invariant-loop-i
invariant-loop-i l = (l.i ≤ l.n) × (l.sum ≡ total spell_width (take l.i l.src))
