-- `file_read::put_numbers` meets its contract. The loop's invariant: i numbers were read and put into out. Assumes nothing.
use Prim.Native.Nat.{◌-◌, ◌≤◌}
use mathlib.Core.Path.{refl, sym, ap, ◌∙◌}
use borrow.Author.Rules.{rules}
use native.Mathlib.Omega.{arith}
use Rattle.number.specs.Numbers.{read_number, number_says}
use Rattle.number.proofs.Laws.{malformed_at, value_at_lem}
use Rattle.file_read.proofs.Reading.{reading_bad}
use Rattle.file_read.proofs.Putting.{Putting, putting_start, putting_turn, putting_end}
use Rattle.file_read.proofs.put_numbers.Given as goal

abbrev pub invariant-loop-i : goal.invariant-loop-i
invariant-loop-i l = (l.i ≤ l.m) × Putting l.s l.at l.m l.initial.out l.used l.i l.p l.out
