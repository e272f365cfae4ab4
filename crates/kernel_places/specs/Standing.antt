-- A cycle of a face and an edge's ends, by some of the lent arrays. Definitions only.
use Rattle.std.specs.Prelude.{ℕ, ◌≤◌, ◌≡◌, Bool, cond, List, length, take}
use Rattle.complex.specs.Sound.{cells_most}
use Rattle.store.specs.Index.{Rising, value_at}
use Rattle.answer.specs.declared.Totals.{Totals}
use Rattle.rows_stretches.specs.declared.Place.{Place}
use Rattle.law_uncut_edge.specs.Needs.{Has, CycleFound}
use Rattle.lent.specs.Arrays.{Arrays, held_by, rows_by}
use Rattle.lent.specs.Replies.{Ready}

-- sound arrays with the sums t have these rows, ids, counts and cycles
pub record Among (n : ℕ) (ids counts cycles : List ℕ) (t : Totals) (a : Arrays) : Type 0 where
  pub ready : Ready a t
  pub same_count : a.count ≡ n
  pub same_ids : a.ids ≡ ids
  pub same_counts : a.counts ≡ counts
  pub same_cycles : a.cycles ≡ cycles

-- the face f of such arrays has a cycle c, with steps
pub record HasBy (n : ℕ) (ids counts cycles : List ℕ) (t : Totals) (f c : ℕ) : Type 0 where
  pub arrays : Arrays
  pub among : Among n ids counts cycles t arrays
  pub has : Has (held_by arrays) (rows_by arrays) f c

-- it stands at p in all such arrays
pub record FoundBy (n : ℕ) (ids counts cycles : List ℕ) (t : Totals) (f c : ℕ) (p : Place) : Type 0 where
  pub every : (a : Arrays) → Among n ids counts cycles t a → Has (held_by a) (rows_by a) f c → CycleFound (held_by a) f c p

-- n rows by rising ids
pub record RowsIn (n : ℕ) (ids starts ends : List ℕ) : Type 0 where
  pub few : n ≤ cells_most
  pub ids_size : length ids ≡ cells_most
  pub starts_size : length starts ≡ cells_most
  pub ends_size : length ends ≡ cells_most
  pub rising : Rising (take n ids)

-- where a step of e ends: at the start of e if it is backward
abbrev pub head_by : ℕ → List ℕ → List ℕ → List ℕ → ℕ → Bool → ℕ
head_by n ids starts ends e back = cond back (value_at 0 (take n ids) (take n starts) e) (value_at 0 (take n ids) (take n ends) e)
