-- The soundness test of lent arrays of any contents, row by row as they stand. Definitions only.
use Rattle.std.specs.Prelude.{ℕ, Bool, ◌&&◌, cond}
use Rattle.complex.specs.Visits.{Verdict, bounds_right, visits, Judged}
use Rattle.sound.specs.Visits.{right_in}
use Rattle.lent.specs.Arrays.{Arrays, held_by, normal_at, sound_arrays, Lengths}

-- the row j is right: it is in normal form, and right in the struct that the arrays hold
abbrev pub right_on : Arrays → ℕ → Bool
right_on a j = normal_at a.kinds a.starts a.ends a.bends a.counts j && right_in (held_by a) j

-- the count of cells visited
abbrev pub visited_on : Arrays → ℕ
visited_on a = cond (bounds_right a.next a.count) (visits (right_on a) 0 a.count) 0

abbrev pub check_on : Arrays → Verdict
check_on a = record { sound = sound_arrays a; visited = visited_on a }

-- the verdict is that of question 1, for all arrays, sound or damaged
abbrev pub ArraysFaults : Type 0
ArraysFaults = (a : Arrays) → Lengths a → Judged (bounds_right a.next a.count) (right_on a) a.count (check_on a)
