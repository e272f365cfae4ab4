-- `lent_sound::visit` meets its contract. The loop keeps: the sums so far, and that the rows left decide. Assumes nothing.
use borrow.Author.Rules.{rules}
use Prim.Native.Nat.{ℕ, ◌+◌, ◌-◌, ◌≤◌}
use mathlib.Core.Path.{◌≡◌, sym, ◌∙◌}
use mathlib.Core.Bool.{true}
use native.Mathlib.Omega.{arith}
use borrow.Author.Tests.{not-true, not-false}
use Rattle.complex.specs.Visits.{bounds_right}
use Rattle.complex.proofs.Visits.{Visiting, visiting_start}
use Rattle.sound.proofs.Testing.{Counting, counting_start}
use Rattle.lent.specs.Arrays.{Arrays, Lengths, of_lists}
use Rattle.lent_row.specs.Row.{row_right, bare_of, Upto}
use Rattle.lent_sound.specs.Walk.{right_at}
use Rattle.lent_sound.proofs.Cells.{bounds_few, bare_long, rows_start, row_wrong, row_holds}
use Rattle.lent_sound.proofs.Cells.{rows_turn, walk_out, walk_fault, walk_bent, walk_turn, walk_end}
use Rattle.lent_sound.proofs.visit.Given as goal

abbrev pub invariant-loop-i : goal.invariant-loop-i
invariant-loop-i l =
    let a = of_lists l.view.next l.view.count l.view.ids.now l.view.kinds.now l.view.starts.now l.view.ends.now l.view.bends.now l.view.counts.now l.view.px.now l.view.py.now l.view.cycles.now l.view.steps.now l.view.bx.now l.view.by.now in
    (l.i ≤ l.view.count) × Counting (right_at l.look a) l.view.count l.i × Visiting (right_at l.look a) l.view.count l.i × Upto (bare_of a) l.i l.t
