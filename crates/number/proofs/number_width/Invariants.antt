-- `number::number_width` meets its contract. The loop's invariant: the bytes counted and those of what is left are one more than the bytes of n.
-- Assumes nothing.
use Prim.Native.Nat.{ℕ, suc, ◌+◌, ◌/◌, ◌≤◌, ◌<◌}
use mathlib.Core.Path.{◌≡◌, ap}
use native.Mathlib.Omega.{arith}
use lib.ListN.{length}
use Rattle.number.specs.Numbers.{numbers_end, spell}
use Rattle.number.proofs.Laws.{spell_last, spell_next, spelled_length}
use Rattle.number.proofs.number_width.Given as goal

abbrev pub invariant-loop-rest : goal.invariant-loop-rest
invariant-loop-rest l = (l.rest < numbers_end) × (l.width + length (spell l.rest) ≡ 1 + length (spell l.n))

abbrev pub decreases-loop-rest : goal.decreases-loop-rest
decreases-loop-rest l = l.rest
