-- What the rows of a drawing are tied by, as the arrays have it. Definitions only.
use Rattle.std.specs.Prelude.{ℕ, ◌/◌, ◌<◌, ◌≤◌, ◌≡◌, cond, List, [], ◌∷◌, ◌++◌, map, eqb, take, get_or}
use Rattle.complex.specs.Cells.{Cycle}
use Rattle.complex.specs.Pieces.{Link, link}
use Rattle.complex.proofs.Groups.{count}
use Rattle.complex.proofs.Ties.{anchor}
use Rattle.store.specs.Index.{row_of}
use Rattle.lent_table.specs.Table.{Table}
use Rattle.rows_pieces.specs.Merging.{Merged}

-- the ids of n rows, each once, and a table that finds the row of an id
pub record Finds (n : ℕ) (ts is : List ℕ) : Type 0 where
  pub table : Table n ts is
  pub rows : (r : ℕ) → r < n → r ≡ row_of (get_or is r 0) (take n is)
  pub once : (x : ℕ) → count eqb x (take n is) ≤ 1

-- some links are joined, and n pieces are left
abbrev pub Some : List ℕ → List ℕ → ℕ → Type 0
Some is up n = (ls : List Link) × Merged is up ls n

-- beside the links that were joined, those of the cell i to the cells js are
abbrev pub Grown : List ℕ → List ℕ → ℕ → ℕ → List ℕ → List ℕ → ℕ → Type 0
Grown is up n i js up' m = (ls : List Link) → Merged is up ls n → Merged is up' (ls ++ map (link i) js) m

-- what a cycle of c steps is tied by, where s stands in its first place
abbrev pub anchor_in : ℕ → ℕ → ℕ
anchor_in c s = cond (eqb c 0) s (s / 2)

-- what a cell of this kind, start, end and these cycles is tied to
abbrev pub anchors_in : ℕ → ℕ → ℕ → List Cycle → List ℕ
anchors_in kind start end ks = cond (eqb kind 1) (start ∷ end ∷ []) (map anchor ks)
