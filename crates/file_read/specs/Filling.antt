-- What the cells of a file put into number arrays. Definitions only.
use Rattle.std.specs.Prelude.{Option, Some, None}
use Rattle.std.specs.Prelude.{ℕ, zero, suc, ◌+◌, ◌*◌, ◌≤◌, ◌≡◌, true, List, [], ◌∷◌, ◌++◌, map, length, take, drop}
use Rattle.number.specs.Readers.{Read, got, bad, times, spread}
use Rattle.number.specs.Said.{Said, done, no, Says}
use Rattle.number.specs.Numbers.{read_number}
use Rattle.coordinate.specs.declared.Position.{Position}
use Rattle.coordinate.specs.Positions.{read_position}
use Rattle.complex.specs.Cells.{Cycle}
use Rattle.complex.specs.Decode.{read_cycle}
use Rattle.complex.specs.Sound.{cycles_most, steps_most, bends_most}
use Rattle.store.specs.declared.Shape.{Shape}
use Rattle.store.specs.Sheet.{all_real}
use Rattle.store.specs.View.{bend_count, cycle_count}
use Rattle.store.specs.Places.{num_of, cycle_words}
use Rattle.file_read.specs.declared.Used.{Used}

-- l' has x at place n, and before it what l has
pub record Added {A : Type 0} (l : List A) (n : ℕ) (x l' : List A) : Type 0 where
  pub size : length l' ≡ length l
  pub room : n + length x ≤ length l
  pub front : take (n + length x) l' ≡ take n l ++ x

-- ---- m numbers
pub record NumbersIn (s : List ℕ) (at m : ℕ) (out : List ℕ) (used : ℕ) (out' : List ℕ) (next : ℕ) : Type 0 where
  pub numbers : List ℕ
  pub read : times read_number m (drop at s) ≡ got numbers (drop next s)
  pub inside : next ≤ length s
  pub added : Added out used numbers out'

-- 0 with the place after the numbers, or 10
abbrev pub put_says : Option ℕ → Said ℕ
put_says (Some next) = done next
put_says None = no 10

abbrev pub NumbersPut : List ℕ → ℕ → ℕ → List ℕ → ℕ → List ℕ → Option ℕ → Type 0
NumbersPut s at m out used out' r = Says 10 (NumbersIn s at m out used out') (times read_number m (drop at s) ≡ bad) (put_says r)

-- ---- cycles: how many steps each has, and the steps
pub record CyclesIn (q : Read (List Cycle)) (s counts steps : List ℕ) (used : Used)
    (counts' steps' : List ℕ) (next : ℕ) (used' : Used) : Type 0 where
  pub cycles : List Cycle
  pub read : q ≡ got cycles (drop next s)
  pub inside : next ≤ length s
  pub real : all_real cycles ≡ true
  pub counted : Added counts used.cycles (map num_of cycles) counts'
  pub stepped : Added steps used.steps (spread cycle_words cycles) steps'
  pub same_bends : used'.bends ≡ used.bends
  pub more_cycles : used'.cycles ≡ used.cycles + length cycles
  pub more_steps : used'.steps ≡ used.steps + length (spread cycle_words cycles)

-- whatever cycles are read, the arrays have no room for them
abbrev pub CyclesOver : Read (List Cycle) → Used → Type 0
CyclesOver q used =
    (ks : List Cycle) (t : List ℕ) → q ≡ got ks t
    → used.cycles + length ks ≤ cycles_most → used.steps + length (spread cycle_words ks) ≤ steps_most → ⊥

-- 0 with the place after what was read and what is then in use, or 10
abbrev pub loaded_says : Option (ℕ × Used) → Said (ℕ × Used)
loaded_says (Some (next, used')) = done (next, used')
loaded_says None = no 10

abbrev pub CyclesLoaded : Read (List Cycle) → List ℕ → List ℕ → List ℕ → Used → List ℕ → List ℕ → Option (ℕ × Used) → Type 0
CyclesLoaded q s counts steps used counts' steps' r =
    Says 10 (λ v. CyclesIn q s counts steps used counts' steps' v.0 v.1) (CyclesOver q used) (loaded_says r)

-- ---- bends: the place of each
abbrev pub spots_from : ℕ → ℕ → List ℕ
spots_from first zero = []
spots_from first (suc n) = first ∷ spots_from (first + 16) n

-- ---- what follows the counts of a shape: its bends, then its cycles
abbrev pub bends_more : Used → ℕ → Used
bends_more used b = record { bends = used.bends + b; cycles = used.cycles; steps = used.steps }

pub record PartsIn (s : List ℕ) (first : ℕ) (x : Shape) (spots counts steps : List ℕ) (used : Used)
    (spots' counts' steps' : List ℕ) (next : ℕ) (used' : Used) : Type 0 where
  pub inside : first + 16 * bend_count x ≤ length s
  pub spotted : Added spots used.bends (spots_from first (bend_count x)) spots'
  pub filled : CyclesIn (times read_cycle (cycle_count x) (drop (first + 16 * bend_count x) s))
      s counts steps (bends_more used (bend_count x)) counts' steps' next used'

abbrev pub PartsOver : List ℕ → ℕ → Shape → Used → Type 0
PartsOver s first x used =
    (bs : List Position) (ks : List Cycle) (t u : List ℕ)
    → times read_position (bend_count x) (drop first s) ≡ got bs t → times read_cycle (cycle_count x) t ≡ got ks u
    → used.bends + length bs ≤ bends_most → used.cycles + length ks ≤ cycles_most → used.steps + length (spread cycle_words ks) ≤ steps_most → ⊥

-- the arrays have room for so much
pub record PoolRoom (used : Used) (spots counts steps : List ℕ) : Type 0 where
  pub spots_size : length spots ≡ bends_most
  pub counts_size : length counts ≡ cycles_most
  pub steps_size : length steps ≡ steps_most
  pub bends_fit : used.bends ≤ bends_most
  pub cycles_fit : used.cycles ≤ cycles_most
  pub steps_fit : used.steps ≤ steps_most
