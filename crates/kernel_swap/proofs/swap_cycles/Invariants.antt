-- `swap_cycles` meets its contract. Assumes nothing.
use borrow.Author.Rules.{rules}
use Prim.Native.Nat.{ℕ, ◌≤◌, ◌<◌, ◌-◌, ◌+◌}
use mathlib.Core.Path.{◌≡◌, refl, ap, sym, ◌∙◌}
use native.Mathlib.Omega.{arith}
use lib.ListN.{length, take, drop, get_or}
use lib.Seq.{length-take-le}
use Rattle.complex.specs.Sound.{steps_most}
use Rattle.store.specs.View.{width}
use Rattle.rows_steps.specs.Swap.{swap_steps, all_steps}
use Rattle.store.proofs.Lists.{places_one}
use Rattle.rows_steps.proofs.Writing.{Swapping, swapping_start}
use Rattle.kernel_swap.proofs.Along.{cycle_ahead, cycle_end, cycle_room_lem, cycle_turn}
use Rattle.kernel_swap.proofs.swap_cycles.Given as goal

abbrev pub invariant-loop-i : goal.invariant-loop-i
invariant-loop-i l =
    (l.i ≤ l.n) × Swapping l.t l.initial.cycles (drop l.g l.initial.steps) l.initial.steps l.i l.from l.at l.cycles l.steps × (drop (l.g + l.from) l.steps ≡ drop (l.g + l.from) l.initial.steps)
