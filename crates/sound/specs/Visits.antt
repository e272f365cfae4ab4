-- The soundness test of a drawing in memory, cell by cell as they stand. Definitions only.
use Rattle.std.specs.Prelude.{ℕ, suc, Bool, ◌&&◌, cond}
use Rattle.complex.specs.Visits.{Verdict, bounds_right, right, visits, Judged}
use Rattle.store.specs.declared.Drawing.{Drawing}
use Rattle.store.specs.Sizes.{Sizes}
use Rattle.store.specs.View.{sheet_of}
use Rattle.sound.specs.Soundness.{fits_upto, sound_drawing}

-- the cell in row j is right: the counts so far keep within the arrays, and it is right in the drawing that the struct stands for
abbrev pub right_in : Drawing → ℕ → Bool
right_in d j = fits_upto d (suc j) && right (sheet_of d) j

-- the count of cells visited
abbrev pub visited_in : Drawing → ℕ
visited_in d = cond (bounds_right d.next d.count) (visits (right_in d) 0 d.count) 0

abbrev pub check_of : Drawing → Verdict
check_of d = record { sound = sound_drawing d; visited = visited_in d }

-- the verdict is that of question 1, for every struct, sound or not
abbrev pub StructFaults : Type 0
StructFaults = (d : Drawing) → Sizes d → Judged (bounds_right d.next d.count) (right_in d) d.count (check_of d)
