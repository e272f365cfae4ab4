-- Bends taken from an array in runs. Definitions only.
use Rattle.std.specs.Prelude.{ℕ, ◌+◌, ◌≤◌, Bool, true, false, cond, List, [], ◌++◌, reverse, take, drop}
use Rattle.coordinate.specs.declared.Position.{Position}
use Rattle.complex.specs.Lists.{one}
use Rattle.rows_new.specs.declared.Runs.{Runs}

-- back to front, or as it is
abbrev pub turn : {A : Type 0} → Bool → List A → List A
turn true l = reverse l
turn false l = l

-- n elements from a place on
abbrev pub run_at : {A : Type 0} → ℕ → ℕ → List A → List A
run_at first n l = take n (drop first l)

-- a run, perhaps a position, and another run
abbrev pub runs_of : List Position → Runs → List Position
runs_of bs r =
    turn r.turned (run_at r.first r.count bs)
    ++ (cond r.middle (one r.at) []
    ++ turn r.turned2 (run_at r.first2 r.count2 bs))

-- both runs are within the array
pub record InRange (r : Runs) : Type 0 where
  pub one : r.first + r.count ≤ 2048
  pub two : r.first2 + r.count2 ≤ 2048
