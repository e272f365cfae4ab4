-- One or two rows that go: that of an edge, and one without bends and cycles. Definitions only.
use Rattle.std.specs.Prelude.{ℕ, ◌+◌, ◌-◌, ◌<◌, ◌≡◌, true, false, ◌∷◌, get_or, take, set, replicate}
use Rattle.coordinate.specs.declared.Position.{Position}
use Rattle.complex.specs.Lists.{total}
use Rattle.store.specs.Edits.{places_of}
use Rattle.rows_new.specs.Runs.{run_at}
use Rattle.kernel_bends.specs.Turned.{moved_last}
use Rattle.lent.specs.Arrays.{Arrays, positions_in, Lengths}
use Rattle.kernel_keep.specs.Keeps.{Keeps}

-- ---- one row
-- the row of an edge, its m bends from base on, and t bends in all
pub record EdgeRow (a : Arrays) (row base m t : ℕ) : Type 0 where
  pub below : row < a.count
  pub from : base ≡ total (places_of 0) (take row a.bends)
  pub own : m ≡ get_or a.bends row 0
  pub none : get_or a.counts row 0 ≡ 0
  pub all : t ≡ total (places_of 0) (take a.count a.bends)

-- b is a without the row, whose bends stand after those in use, but for those from i up to j, which come last
pub record RowGone (a : Arrays) (row base m t i j : ℕ) (b : Arrays) : Type 0 where
  pub keeps : Keeps (set (replicate 256 false) row true) a b
  pub long : Lengths b
  pub bx : b.bx ≡ moved_last base m i j t a.bx
  pub by : b.by ≡ moved_last base m i j t a.by
  pub less : total (places_of 0) (take b.count b.bends) ≡ t - m

-- ---- two rows
-- the row of a cell that has neither bends nor cycles
pub record BareRow (a : Arrays) (row : ℕ) : Type 0 where
  pub below : row < a.count
  pub bends : get_or a.bends row 0 ≡ 0
  pub cycles : get_or a.counts row 0 ≡ 0

-- b is a without both rows, and after the bends in use stand p and those of the edge
pub record PairGone (a : Arrays) (bare row base m t : ℕ) (p : Position) (b : Arrays) : Type 0 where
  pub keeps : Keeps (set (set (replicate 256 false) bare true) row true) a b
  pub long : Lengths b
  pub bends : run_at (t - m) (m + 1) (positions_in b.bx b.by) ≡ p ∷ run_at base m (positions_in a.bx a.by)
  pub less : total (places_of 0) (take b.count b.bends) ≡ t - m
