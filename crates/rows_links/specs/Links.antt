-- Edge ends by place: twice the row of the edge, and one more for its end; passages as pairs of places. Definitions only.
use Rattle.std.specs.Prelude.{ℕ, ◌+◌, ◌*◌, ◌≤◌, ◌≡◌, Bool, false, ◌&&◌, cond, List, [], ◌++◌, map, ltb, length, take, get_or}
use Rattle.number.specs.Readers.{spread}
use Rattle.complex.specs.Lists.{filter, cons_if}
use Rattle.complex.specs.Cells.{Halfedge, Cycle, steps_of}
use Rattle.complex.specs.Uses.{Passage, passages}
use Rattle.complex.specs.Sound.{cells_most}
use Rattle.store.specs.Index.{Rising, row_of}

-- the ids of n rows
pub record IdRows (is : List ℕ) (n : ℕ) : Type 0 where
  pub few : n ≤ cells_most
  pub size : length is ≡ 256
  pub rising : Rising (take n is)

abbrev pub place_at : List ℕ → Halfedge → ℕ
place_at is h = row_of h.edge is * 2 + cond h.backward 1 0

-- the passages of some cycles, cycle by cycle
abbrev pub turns_of : List Cycle → List Passage
turns_of ks = spread (λ (k : Cycle). passages (steps_of k)) ks

-- a passage between marked places
abbrev pub link_kept : List ℕ → List Bool → Passage → Bool
link_kept is at t = get_or at (place_at is t.arrives) false && get_or at (place_at is t.leaves) false

abbrev pub left_places : List ℕ → List Passage → List ℕ
left_places is ts = map (λ (t : Passage). place_at is t.arrives) ts

abbrev pub right_places : List ℕ → List Passage → List ℕ
right_places is ts = map (λ (t : Passage). place_at is t.leaves) ts

-- one pair of places more, if b
pub record Paired (b : Bool) (x y used : ℕ) (xs ys : List ℕ) (r : ℕ) (xs' ys' : List ℕ) : Type 0 where
  pub count : r ≡ used + cond b 1 0
  pub lefts : take r xs' ≡ take used xs ++ cons_if b x []
  pub rights : take r ys' ≡ take used ys ++ cons_if b y []

-- the passages ts that are kept stand after the first `used` links
pub record LinksPut (is : List ℕ) (at : List Bool) (ts : List Passage) (used : ℕ) (xs ys : List ℕ) (r : ℕ) (xs' ys' : List ℕ) : Type 0 where
  pub count : r ≡ used + length (filter (link_kept is at) ts)
  pub lefts : take r xs' ≡ take used xs ++ left_places is (filter (link_kept is at) ts)
  pub rights : take r ys' ≡ take used ys ++ right_places is (filter (link_kept is at) ts)

-- the step after step j of a cycle of c steps
abbrev pub next_step : List ℕ → ℕ → ℕ → ℕ
next_step l c j = cond (ltb (j + 1) c) (get_or l (j + 1) 0) (get_or l 0 0)
