-- The number of the first no to questions 4 and 6 of a new face. Definitions only.
use Rattle.std.specs.Prelude.{ℕ, true, false, cond, List}
use Rattle.complex.specs.Lists.{all}
use Rattle.complex.specs.Cells.{Cycle}
use Rattle.sound.specs.Rows.{Rows}
use Rattle.ask_face_named.specs.Walks.{passes_in}

-- the number of the first no to 4 and 6, or 0
abbrev pub face_no : Rows → List Cycle → ℕ
face_no t ks = cond (all (passes_in t true) ks) (cond (all (passes_in t false) ks) 0 6) 4
