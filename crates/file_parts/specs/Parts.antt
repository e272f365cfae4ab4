-- Numbers and coordinates that a file can hold, and what stands in arrays. Definitions only.
use Rattle.std.specs.Prelude.{ℕ, ◌+◌, ◌≤◌, ◌≡◌, Bool, List, [], ◌∷◌, T, ltb, length, take, drop, Float}
use Rattle.std.proofs.lemmas.List.Edits.{sets}
use Rattle.number.specs.Readers.{all}
use Rattle.number.specs.Numbers.{numbers_end}
use Rattle.coordinate.specs.declared.Position.{Position}
use Rattle.coordinate.specs.Bounds.{within}
use Rattle.complex.specs.Cells.{Halfedge, Cycle, lone, path}
use Rattle.complex.specs.Decode.{step_number}
use Rattle.store.specs.View.{cycles_from, width_sum}

-- l' is l with bs at a place, and r the place after them
pub record BytesPut (l : List ℕ) (at : ℕ) (bs l' : List ℕ) (r : ℕ) : Type 0 where
  pub next : r ≡ at + length bs
  pub bytes : l' ≡ sets l at bs

-- ---- numbers that have a spelling, and coordinates in bounds
abbrev pub spells : ℕ → Bool
spells n = ltb n numbers_end

abbrev pub step_spells : Halfedge → Bool
step_spells h = spells (step_number h)

abbrev pub cycle_spells : Cycle → Bool
cycle_spells (lone v) = spells v
cycle_spells (path hs) = all step_spells hs

-- ---- what stands in the arrays
-- positions in two arrays
abbrev pub positions_from : List Float → List Float → List Position
positions_from [] ys = []
positions_from (x ∷ xs) [] = []
positions_from (x ∷ xs) (y ∷ ys) = record { x = x; y = y } ∷ positions_from xs ys

-- n elements from a place on
abbrev pub run_of : {A : Type 0} → ℕ → ℕ → List A → List A
run_of from n l = take n (drop from l)

-- numbers with a spelling stand in src
pub record SpelledNumbers (src : List ℕ) (from n : ℕ) : Type 0 where
  pub room : from + n ≤ length src
  pub spelled : T (all spells (run_of from n src))

-- n positions in bounds stand in xs and ys
pub record Bends (xs ys : List Float) (from n : ℕ) : Type 0 where
  pub room : from + n ≤ 2048
  pub sizes : (length xs ≡ 2048) × (length ys ≡ 2048)
  pub bounds : T (all within (run_of from n (positions_from xs ys)))

-- k cycles whose numbers have a spelling stand in ns and st
pub record Rings (ns : List ℕ) (from k : ℕ) (st : List ℕ) (at : ℕ) : Type 0 where
  pub room : from + k ≤ 512
  pub places : at + width_sum (run_of from k ns) ≤ 2048
  pub sizes : (length ns ≡ 512) × (length st ≡ 2048)
  pub spelled : T (all cycle_spells (cycles_from (run_of from k ns) (drop at st)))
