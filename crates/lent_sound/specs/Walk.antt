-- Question 1 of lent arrays, cell by cell in the order in which they stand. Definitions only.
use Rattle.std.specs.Prelude.{Option, Some, None, Result, Ok, Err}
use Rattle.std.specs.Prelude.{ℕ, Bool, true, ◌&&◌, cond, List, Float, get_or}
use Rattle.number.specs.Said.{Said, done, no}
use Rattle.coordinate.specs.Bounds.{within}
use Rattle.complex.specs.Visits.{bounds_right, visits}
use Rattle.sound.specs.Rows.{all_from}
use Rattle.answer.specs.declared.Totals.{Totals}
use Rattle.lent.specs.Arrays.{Arrays, position_in}
use Rattle.lent_row.specs.Row.{places_upto, row_right}

-- the bend in place j lies in bounds
abbrev pub bend_right : List Float → List Float → ℕ → Bool
bend_right xs ys j = within (position_in xs ys j)

-- the cell in row i is right: its row, and the places of its bends where they are looked at
abbrev pub right_at : Bool → Arrays → ℕ → Bool
right_at look a i = row_right a i && cond look (all_from (bend_right a.bx a.by) (places_upto a.bends i) (get_or a.bends i 0)) true

-- ---- all of it
abbrev pub walk_right : Bool → Arrays → Bool
walk_right look a = bounds_right a.next a.count && all_from (right_at look a) 0 a.count

-- the count of cells visited
abbrev pub walk_visits : Bool → Arrays → ℕ
walk_visits look a = cond (bounds_right a.next a.count) (visits (right_at look a) 0 a.count) 0

-- 0 with the sums, or 1
abbrev pub walk_says : Option Totals → Said Totals
walk_says (Some t) = done t
walk_says None = no 1

-- the same, and the count of cells visited
abbrev pub visit_says : Result Totals ℕ → Said Totals
visit_says (Ok t) = done t
visit_says (Err n) = no 1

abbrev pub visit_count : Result Totals ℕ → ℕ
visit_count (Ok t) = t.cells
visit_count (Err n) = n
