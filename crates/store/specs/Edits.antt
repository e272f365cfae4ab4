-- What the kernel's functions do to a sheet, and to a drawing's arrays.
use Rattle.std.specs.Prelude.{ℕ, zero, suc, ◌+◌, eqb, length, take, replicate, ◌≡◌, Bool, cond, List, [], ◌∷◌, ◌++◌, map}
use Rattle.coordinate.specs.declared.Position.{Position}
use Rattle.store.specs.declared.Cell.{Cell}
use Rattle.store.specs.declared.Drawing.{Drawing}
use Rattle.complex.specs.Lists.{total}
use Rattle.complex.specs.Cells.{Figure, LiveCell as Entry, Sheet}

-- the sheet with one cell more, at the next id
abbrev pub appended : Sheet → Figure → Sheet
appended s f = record { next = s.next + 1; cells = s.cells ++ (record { id = s.next; figure = f } ∷ []) }

-- the elements whose flag is false
abbrev pub kept : {A : Type 0} → List Bool → List A → List A
kept [] xs = []
kept (b ∷ bs) [] = []
kept (b ∷ bs) (x ∷ xs) = cond b (kept bs xs) (x ∷ kept bs xs)

-- the sheet with other cells
abbrev pub with_entries : Sheet → List Entry → Sheet
with_entries s l = record { next = s.next; cells = l }

-- the drawing d with another array, all else unchanged
abbrev pub with_cells : Drawing → ℕ → ℕ → List Cell → Drawing
with_cells d next n l = record { next = next; count = n; cells = l; cycles = d.cycles; steps = d.steps; bends = d.bends }

abbrev pub with_steps : Drawing → List ℕ → Drawing
with_steps d l = record { next = d.next; count = d.count; cells = d.cells; cycles = d.cycles; steps = l; bends = d.bends }

abbrev pub with_bends : Drawing → List Position → Drawing
with_bends d l = record { next = d.next; count = d.count; cells = d.cells; cycles = d.cycles; steps = d.steps; bends = l }

-- the places that a count c stands for, where z are those of a count 0
abbrev pub places_of : ℕ → ℕ → ℕ
places_of z zero = z
places_of z (suc n) = suc n

-- each cell's flag, once for each of its places
abbrev pub spread_flags : ℕ → List Bool → List ℕ → List Bool
spread_flags z [] cs = []
spread_flags z (b ∷ bs) [] = []
spread_flags z (b ∷ bs) (c ∷ cs) = replicate (places_of z c) b ++ spread_flags z bs cs

-- l begins with those of xs that are not flagged
pub record Compacted {A : Type 0} (flags : List Bool) (xs l : List A) : Type 0 where
  pub front : take (length (kept flags xs)) l ≡ kept flags xs

-- of the places in l₀ that counts stand for, l begins with those of the cells that are not flagged
pub record PlacesKept {A : Type 0} (z : ℕ) (flags : List Bool) (counts : List ℕ) (l₀ l : List A) : Type 0 where
  pub packed : Compacted (spread_flags z flags counts) (take (total (places_of z) counts) l₀) l

-- of cycles and their steps, ks and st begin with those of the cells that are not flagged
pub record CyclesKept (flags : List Bool) (counts ks₀ st₀ ks st : List ℕ) : Type 0 where
  pub cycles : PlacesKept 0 flags counts ks₀ ks
  pub steps : PlacesKept 1 (spread_flags 0 flags counts) (take (total (places_of 0) counts) ks₀) st₀ st

-- f of each flag and its number
abbrev pub zipped : (Bool → ℕ → ℕ) → List Bool → List ℕ → List ℕ
zipped f [] ns = []
zipped f (m ∷ ms) [] = []
zipped f (m ∷ ms) (n ∷ ns) = f m n ∷ zipped f ms ns

-- whether each place of steps is a lone vertex's
abbrev pub lone_places : List ℕ → List Bool
lone_places ns = spread_flags 1 (map (λ (n : ℕ). eqb n 0) ns) ns
