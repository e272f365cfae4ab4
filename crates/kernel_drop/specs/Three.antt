-- Three rows that go: those of two edges, and one without bends and cycles. Definitions only.
use Rattle.std.specs.Prelude.{ℕ, ◌-◌, ◌<◌, ◌≡◌, true, false, ◌++◌, get_or, take, drop, set, replicate}
use Rattle.complex.specs.Lists.{total}
use Rattle.store.specs.Edits.{places_of}
use Rattle.rows_new.specs.Runs.{run_at}
use Rattle.lent.specs.Arrays.{Arrays, positions_in, Lengths}
use Rattle.kernel_keep.specs.Keeps.{Keeps}
use Rattle.kernel_drop.specs.Gone.{EdgeRow}

-- the rows of two edges, their m1 and m2 bends from base1 and base2 on, t bends in all, and a row without bends and cycles
pub record ThreeRows (a : Arrays) (row1 base1 m1 row2 base2 m2 bare t : ℕ) : Type 0 where
  pub one : EdgeRow a row1 base1 m1 t
  pub two : EdgeRow a row2 base2 m2 t
  pub apart : row1 ≡ row2 → ⊥
  pub bare_in : bare < a.count
  pub bare_bends : get_or a.bends bare 0 ≡ 0
  pub bare_cycles : get_or a.counts bare 0 ≡ 0

-- b is a without the three rows; after the bends in use stand those of the first edge, and then those of the second
pub record ThreeGone (a : Arrays) (row1 base1 m1 row2 base2 m2 bare t : ℕ) (b : Arrays) : Type 0 where
  pub keeps : Keeps (set (set (set (replicate 256 false) row1 true) row2 true) bare true) a b
  pub long : Lengths b
  pub last : drop (t - m1 - m2) (positions_in b.bx b.by)
      ≡ run_at base1 m1 (positions_in a.bx a.by)
      ++ (run_at base2 m2 (positions_in a.bx a.by) ++ drop t (positions_in a.bx a.by))
  pub less : total (places_of 0) (take b.count b.bends) ≡ t - m1 - m2
