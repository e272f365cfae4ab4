-- The sums of sound arrays are those that the places of a row's cycles are read by. Assumes nothing.
use Prim.Native.Nat.{ℕ, ◌<◌}
use native.Mathlib.Omega.{arith}
use mathlib.Core.Path.{refl, sym, subst}
use Rattle.answer.specs.declared.Totals.{Totals}
use Rattle.lent.specs.Arrays.{Arrays}
use Rattle.lent.specs.Replies.{Ready}
use Rattle.lent.proofs.Sums.{ready_summed}
use Rattle.kernel_cycles.specs.Replacing.{RowCounted}

pub ready_counted : (a : Arrays) (t : Totals) → Ready a t → (row : ℕ) → row < a.count → RowCounted a.counts a.cycles row t
ready_counted a t y row h =
    let m = ready_summed a t y in
    subst (RowCounted a.counts a.cycles row) (sym y.sums)
    (record {
      live = h;
      rows = m.cycle_rows;
      cycle_sum = refl;
      cycle_room = omega (arith, m.cycle_sum, m.cycle_room);
      cycle_most = m.cycle_sum;
      step_sum = refl;
      step_most = m.step_sum;
    })
