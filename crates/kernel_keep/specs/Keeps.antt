-- Cells that go, in lent arrays. Definitions only.
use Rattle.std.specs.Prelude.{ℕ, ◌≤◌, ◌≡◌, Bool, true, List, length, take}
use Rattle.store.specs.View.{sheet_of, Fits}
use Rattle.store.specs.Sizes.{Sizes}
use Rattle.store.specs.Edits.{kept, Compacted, with_entries}
use Rattle.lent.specs.Arrays.{Arrays, held_by, normal}

-- the rows of b, r in number, are those of the first n of a that are not flagged
pub record RowsKept (flags : List Bool) (n : ℕ) (a b : Arrays) (r : ℕ) : Type 0 where
  pub count : r ≡ length (kept (take n flags) (take n a.py))
  pub ids : Compacted (take n flags) (take n a.ids) b.ids
  pub kinds : Compacted (take n flags) (take n a.kinds) b.kinds
  pub starts : Compacted (take n flags) (take n a.starts) b.starts
  pub ends : Compacted (take n flags) (take n a.ends) b.ends
  pub bends : Compacted (take n flags) (take n a.bends) b.bends
  pub counts : Compacted (take n flags) (take n a.counts) b.counts
  pub px : Compacted (take n flags) (take n a.px) b.px
  pub py : Compacted (take n flags) (take n a.py) b.py

-- b holds a's drawing without the flagged cells
pub record Keeps (flags : List Bool) (a b : Arrays) : Type 0 where
  pub sheet : sheet_of (held_by b) ≡ with_entries (sheet_of (held_by a)) (kept (take a.count flags) (sheet_of (held_by a)).cells)
  pub fits : Fits (held_by b)
  pub sizes : Sizes (held_by b)
  pub rows : normal b ≡ true
  pub few : b.count ≤ a.count
