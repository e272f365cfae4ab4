-- Vertices renamed in lent arrays. Definitions only.
use Rattle.std.specs.Prelude.{ℕ, ◌<◌, ◌≡◌, true, cond, List, eqb, length, get_or}
use Rattle.complex.specs.Lists.{one}
use Rattle.complex.specs.Cells.{Halfedge}
use Rattle.complex.specs.Edits.{reshape, rewired}
use Rattle.store.specs.View.{sheet_of, Fits}
use Rattle.store.specs.Edits.{with_entries}
use Rattle.lent.specs.Arrays.{Arrays, held_by, normal, Lengths}

-- an open edge's end is renamed; what stands in the row of another kind is not
abbrev pub rename_end : (ℕ → ℕ) → ℕ → ℕ → ℕ
rename_end r k v = cond (eqb k 1) (r v) v

-- l is l₀ with the ends in the first n rows, of the kinds ks, renamed
pub record EndsRenamed (r : ℕ → ℕ) (ks : List ℕ) (n : ℕ) (l₀ l : List ℕ) : Type 0 where
  pub size : length l ≡ length l₀
  pub rows : (j : ℕ) → j < n → get_or l j 0 ≡ rename_end r (get_or ks j 0) (get_or l₀ j 0)

-- the arrays b hold what a hold with every use of a vertex by r and every step by σ
pub record RewiredIn (r : ℕ → ℕ) (σ : Halfedge → List Halfedge) (a b : Arrays) : Type 0 where
  pub sheet : sheet_of (held_by b) ≡ with_entries (sheet_of (held_by a)) (reshape (rewired r σ) (sheet_of (held_by a)).cells)
  pub fits : Fits (held_by b)
  pub long : Lengths b
  pub rows : normal b ≡ true

-- the arrays b hold what a hold with every end of an open edge and every lone vertex renamed
abbrev pub RenamedIn : (ℕ → ℕ) → Arrays → Arrays → Type 0
RenamedIn r = RewiredIn r one
