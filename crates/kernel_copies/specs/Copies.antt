-- Copies of cells in lent arrays. Definitions only.
use Rattle.std.specs.Prelude.{ℕ, zero, suc, ◌+◌, ◌≡◌, true, List, Float, get_or, set, replicate}
use Rattle.std.specs.Float.{nan}
use Rattle.complex.specs.Edits.{reshape}
use Rattle.complex.specs.Uses.{on_uses}
use Rattle.store.specs.View.{sheet_of, Fits}
use Rattle.store.specs.Edits.{with_entries}
use Rattle.rows_new.specs.Appends.{appended_all, figure_at}
use Rattle.rows_uses.specs.declared.Use.{Use}
use Rattle.rows_uses.specs.Uses.{uses_in}
use Rattle.rows_copied.specs.Copying.{copied}
use Rattle.lent.specs.Arrays.{Arrays, held_by, normal, Lengths}

-- x put n times from a place on, and the n numbers from x on
abbrev pub filled_rows : {A : Type 0} → List A → ℕ → A → ℕ → List A
filled_rows l at x zero = l
filled_rows l at x (suc n) = set (filled_rows l at x n) (at + n) x

abbrev pub numbered_rows : List ℕ → ℕ → ℕ → ℕ → List ℕ
numbered_rows l at x zero = l
numbered_rows l at x (suc n) = set (numbered_rows l at x n) (at + n) (x + n)

-- the lists of rows have i more like the one in a row, after the last, with the next ids
pub record RowsPut (next count row i : ℕ) (is ks ss es bs cs : List ℕ) (us vs : List Float) (is' ks' ss' es' bs' cs' : List ℕ) (us' vs' : List Float)
    : Type 0 where
  pub ids : is' ≡ numbered_rows is count next i
  pub kinds : ks' ≡ filled_rows ks count (get_or ks row 0) i
  pub starts : ss' ≡ filled_rows ss count (get_or ss row 0) i
  pub ends : es' ≡ filled_rows es count (get_or es row 0) i
  pub bends : bs' ≡ filled_rows bs count (get_or bs row 0) i
  pub counts : cs' ≡ filled_rows cs count (get_or cs row 0) i
  pub px : us' ≡ filled_rows us count (get_or us row nan) i
  pub py : vs' ≡ filled_rows vs count (get_or vs row nan) i

-- b holds a's drawing with n copies of the cell in a row
pub record CopiesCome (a : Arrays) (row n : ℕ) (b : Arrays) : Type 0 where
  pub sheet : sheet_of (held_by b) ≡ appended_all (replicate n (figure_at (sheet_of (held_by a)) row)) (sheet_of (held_by a))
  pub fits : Fits (held_by b)
  pub long : Lengths b
  pub rows : normal b ≡ true

-- b holds a's drawing with a copy for each use of i but the first, counted from k
pub record UsesCopied (u : Use) (i k : ℕ) (a b : Arrays) : Type 0 where
  pub sheet : sheet_of (held_by b) ≡ with_entries (sheet_of (held_by a))
      (reshape (on_uses (uses_in u i) (copied u i a.next) k (sheet_of (held_by a)).cells) (sheet_of (held_by a)).cells)
  pub fits : Fits (held_by b)
  pub long : Lengths b
