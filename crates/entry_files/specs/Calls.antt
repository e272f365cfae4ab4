-- The calls on a drawing's file. Definitions only.
use Rattle.std.specs.Prelude.{ℕ, Bool, cond, List, eqb, ℤ, pos}
use Rattle.complex.specs.Cells.{Sheet}
use Rattle.complex.specs.File.{read_file}
use Rattle.complex.specs.Pieces.{PiecesAnswer, pieces_call}
use Rattle.complex.specs.Visits.{FileVerdict}
use Rattle.complex.specs.Calls.{Filled, unfilled, filled, star_call, EulerAnswer, euler_call}
use Rattle.entry_check.specs.Verdicts.{verdict_as}

-- 10: are the bytes, all of them, a sound drawing's file?
abbrev pub is_file : List ℕ → Bool
is_file file = eqb (read_file file).number 0

-- the drawing of a file
abbrev pub drawn : List ℕ → Sheet
drawn file = (read_file file).sheet

-- what a call answers: its number, the count that it leaves and the buffer as it is left
abbrev pub filled_as : ℕ → ℕ → List ℕ → Filled
filled_as number count buffer = record { number = number; count = count; buffer = buffer }

-- star asks 10, 4, 9
abbrev pub star_at : List ℕ → ℕ → List ℕ → Filled
star_at file id buffer = cond (is_file file) (star_call (drawn file) id buffer) (unfilled 10 buffer)

abbrev pub euler_as : ℕ → ℤ → EulerAnswer
euler_as number value = record { number = number; value = value }

-- Euler asks 10 and gives 0 with it
abbrev pub euler_at : List ℕ → EulerAnswer
euler_at file = cond (is_file file) (euler_call (drawn file)) (euler_as 10 (pos 0))

abbrev pub pieces_as : ℕ → ℕ → PiecesAnswer
pieces_as number count = record { number = number; count = count }

-- pieces asks 10 and gives 0 with it
abbrev pub pieces_at : List ℕ → PiecesAnswer
pieces_at file = cond (is_file file) (pieces_call (drawn file)) (pieces_as 10 0)

-- bytes that are read as a drawing are themselves what is written of it
abbrev pub again : List ℕ → List ℕ → Filled
again file buffer = cond (is_file file) (filled file buffer) (unfilled 10 buffer)

-- the soundness test: its number, and the verdict in two numbers
abbrev pub checked_as : ℕ → ℕ → ℕ → FileVerdict
checked_as number sound visited = record { number = number; verdict = verdict_as sound visited }
