-- The answers of star to a drawing in memory. Definitions only.
use Rattle.std.specs.Prelude.{ℕ, cond, List, ltb, length}
use Rattle.complex.specs.Calls.{Filled, filled, unfilled, star_call}
use Rattle.store.specs.declared.Drawing.{Drawing}
use Rattle.store.specs.Index.{row_of}
use Rattle.store.specs.View.{sheet_of}
use Rattle.sound.specs.Soundness.{sound_drawing}
use Rattle.rows_star.specs.declared.Counted.{Counted}
use Rattle.rows_star.specs.Marks.{star_marks, picked}

-- what a call answers, with the buffer as it is left
abbrev pub star_answered : Counted → List ℕ → Filled
star_answered r buffer = record { number = r.number; count = r.count; buffer = buffer }

-- star asks 4 and 9 of the rows of a sound drawing
abbrev pub star_in : List ℕ → List ℕ → List ℕ → List ℕ → List ℕ → List ℕ → List ℕ → ℕ → List ℕ → Filled
star_in is ks ss es cs ns st i buffer =
    cond (ltb (row_of i is) (length is)) (filled (picked (star_marks is ks ss es cs ns st i) is) buffer) (unfilled 4 buffer)

-- star of a value of the struct: one whose counts don't keep within its arrays is not sound either
unfoldable pub star_of : Drawing → ℕ → List ℕ → Filled
star_of d i buffer = cond (sound_drawing d) (star_call (sheet_of d) i buffer) (unfilled 1 buffer)
