-- The steps of one edge replaced by others in lent arrays. Definitions only.
use Rattle.std.specs.Prelude.{ℕ, ◌+◌, ◌≤◌, ◌⊎◌, List, length, take, ◌≡◌}
use Rattle.complex.specs.Edits.{reshape, rewired, same_vertex}
use Rattle.store.specs.View.{sheet_of, Fits, width_sum}
use Rattle.store.specs.Edits.{with_entries}
use Rattle.rows_steps.specs.declared.Swap.{Swap}
use Rattle.rows_steps.specs.Swap.{swap_half, all_steps}
use Rattle.lent.specs.Arrays.{Arrays, held_by, Lengths}

-- the arrays b hold what a hold with the steps swapped
pub record SwappedIn (t : Swap) (a b : Arrays) : Type 0 where
  pub sheet : sheet_of (held_by b) ≡ with_entries (sheet_of (held_by a)) (reshape (rewired same_vertex (swap_half t)) (sheet_of (held_by a)).cells)
  pub fits : Fits (held_by b)
  pub long : Lengths b

-- what the first j of n steps become, put at a place, ends no later than they do
pub record Ahead (f : List ℕ → List ℕ) (n : ℕ) (y : List ℕ) (at from : ℕ) : Type 0 where
  pub before : (j : ℕ) → j ≤ n → at + length (f (take j y)) ≤ from + j

-- g places are enough for the swap to be made in one array: no step becomes two, or none goes and there are as many places as
-- steps are more
pub record Enough (t : Swap) (ns st : List ℕ) (g : ℕ) : Type 0 where
  pub room : (t.n ≤ 1) ⊎ ((1 ≤ t.n) × (length (all_steps t ns st) ≤ g + width_sum ns))
