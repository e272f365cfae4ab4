-- `swap_run` meets its contract. Assumes nothing.
use borrow.Author.Rules.{rules}
use Prim.Native.Nat.{ℕ, ◌≤◌, ◌<◌, ◌-◌, ◌+◌}
use mathlib.Core.Path.{◌≡◌, refl, ap, sym, subst, ◌∙◌}
use mathlib.Core.List.{List}
use native.Mathlib.Omega.{arith}
use lib.ListN.{length, take, drop, get_or}
use Rattle.number.specs.Readers.{spread}
use Rattle.rows_steps.specs.Swap.{swap_word, Wrote}
use Rattle.rows_steps.proofs.Writing.{wrote_none}
use Rattle.kernel_swap.proofs.Along.{place_length, place_room, place_turn}
use Rattle.kernel_swap.proofs.swap_run.Given as goal

abbrev pub invariant-loop-i : goal.invariant-loop-i
invariant-loop-i l =
    (l.i ≤ l.n) × (l.w ≡ length (spread (swap_word l.t) (take l.i (drop l.from l.initial.steps)))) × Wrote l.initial.steps l.at (spread (swap_word l.t) (take l.i (drop l.from l.initial.steps))) l.steps
