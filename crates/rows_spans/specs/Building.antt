-- A list of cycles under construction in two number arrays. Definitions only.
use Rattle.std.specs.Prelude.{ℕ, ◌+◌, ◌≤◌, ◌≡◌, List, [], ◌∷◌, ◌++◌, map, length, take, drop}
use Rattle.complex.specs.Lists.{total}
use Rattle.complex.specs.Cells.{Cycle, path}
use Rattle.complex.specs.Sound.{step_count}
use Rattle.store.specs.View.{halfedge_of, cycles_from, width_sum}
use Rattle.rows_spans.specs.declared.Used.{Used}

-- the list that stands in the places in use
abbrev pub built : List ℕ → Used → List ℕ → List Cycle
built counts u steps = cycles_from (take u.cycles counts) steps

-- the places in use are those of whole cycles
pub record Building (counts : List ℕ) (u : Used) (steps : List ℕ) : Type 0 where
  pub counts_size : length counts ≤ 512
  pub steps_size : length steps ≤ 2048
  pub width : width_sum (take u.cycles counts) ≡ u.steps
  pub cycle_room : u.cycles ≤ length counts
  pub step_room : u.steps ≤ length steps

-- the arrays hold the cycles ks
pub record Built (ks : List Cycle) (counts : List ℕ) (u : Used) (steps : List ℕ) : Type 0 where
  pub list : built counts u steps ≡ ks
  pub building : Building counts u steps

-- arrays of n counts and m steps have room for the cycles ks
pub record RoomFor (n m : ℕ) (ks : List Cycle) : Type 0 where
  pub few_counts : n ≤ 512
  pub few_steps : m ≤ 2048
  pub cycles : length ks ≤ n
  pub steps : total step_count ks ≤ m

-- a cycle more, of w places
abbrev pub more_cycle : Used → ℕ → Used
more_cycle u w = record { cycles = u.cycles + 1; steps = u.steps + w }

-- with the counts out, the m steps after those in use are a cycle more, whatever steps stand there
pub record Closes (counts : List ℕ) (u : Used) (m : ℕ) (out : List ℕ) : Type 0 where
  pub list : (steps : List ℕ) → Building counts u steps → u.steps + m ≤ length steps
      → Built (built counts u steps ++ (path (map halfedge_of (take m (drop u.steps steps))) ∷ [])) out (more_cycle u m) steps
