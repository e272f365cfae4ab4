-- Questions 4 and 6 of a cycle of a new face, as the rows of an index answer them. Definitions only.
use Rattle.std.specs.Prelude.{Option, Some, None}
use Rattle.std.specs.Prelude.{ℕ, ◌/◌, ◌≤◌, ◌≡◌, Bool, true, false, cond, ◌||◌, List, eqb, length, take}
use Rattle.number.specs.Readers.{Read}
use Rattle.complex.specs.Lists.{all}
use Rattle.complex.specs.Cells.{Halfedge, Cycle, lone, path}
use Rattle.store.specs.Index.{Rising, value_at}
use Rattle.store.specs.Places.{num_of, cycle_words}
use Rattle.decode_parts.specs.Lists.{Reaches}
use Rattle.sound.specs.Rows.{Rows, is_vertex_in, cycle_good}

-- the arrays of n rows whose ids rise, with a value for each
pub record Valued (n : ℕ) (is vs : List ℕ) : Type 0 where
  pub few : n ≤ 256
  pub ids : length is ≡ 256
  pub values : length vs ≡ 256
  pub rising : Rising (take n is)

-- the same with kinds, starts and ends
pub record Rowed (n : ℕ) (is ks ss es : List ℕ) : Type 0 where
  pub few : n ≤ 256
  pub ids : length is ≡ 256
  pub kinds : length ks ≡ 256
  pub starts : length ss ≡ 256
  pub ends : length es ≡ 256
  pub rising : Rising (take n is)

-- what a walk along n things, each read by r, says: b holds and they reach to a place, or b does not hold
abbrev pub walk_says : {A : Type 0} → (List ℕ → Read A) → List ℕ → ℕ → ℕ → Bool → Option ℕ → Type 0
walk_says r s at n b (Some next) = (b ≡ true) × Reaches r s at n next
walk_says r s at n b None = b ≡ false

pub record Walked {A : Type 0} (r : List ℕ → Read A) (s : List ℕ) (at n : ℕ) (b : Bool) (w : Option ℕ) : Type 0 where
  pub says : walk_says r s at n b w

-- whether the cell e is an edge, where is are the cells' ids and ks their kinds
abbrev pub edge_in : List ℕ → List ℕ → ℕ → Bool
edge_in is ks e = eqb (value_at 4 is ks e) 1 || eqb (value_at 4 is ks e) 2

-- the edge of a step
abbrev pub step_named : List ℕ → List ℕ → ℕ → Bool
step_named is ks s = edge_in is ks (s / 2)

-- 4: the cycle names vertices and edges
abbrev pub names_in : List ℕ → List ℕ → Cycle → Bool
names_in is ks (lone v) = is_vertex_in is ks v
names_in is ks (path hs) = all (λ (h : Halfedge). edge_in is ks h.edge) hs

-- 4, or 6: the cycle joins
abbrev pub passes_in : Rows → Bool → Cycle → Bool
passes_in t names k = cond names (names_in t.ids t.kinds k) (cycle_good t (num_of k) (cycle_words k))
