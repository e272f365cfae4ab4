-- `bends::bends_within` meets its contract. The loop's invariant: the test of all the bends is the test of those that are left. Assumes nothing.
use Prim.Native.Nat.{ℕ, ◌+◌, ◌-◌, ◌*◌}
use mathlib.Core.Path.{◌≡◌}
use mathlib.Core.List.{List}
use mathlib.Core.Bool.{Bool}
use Rattle.number.specs.Readers.{all}
use Rattle.coordinate.specs.Bounds.{within}
use Rattle.bends.specs.Bends.{positions_at}
use Rattle.bends.proofs.bends_within.Given as goal

abbrev pub test : List ℕ → ℕ → ℕ → Bool
test s at n = all within (positions_at s at n)

abbrev pub invariant-loop : goal.invariant-loop
invariant-loop l = (l.at ≡ l.first + 16 * l.counter) × (test l.part l.at (l.count - l.counter) ≡ test l.part l.first l.count)
