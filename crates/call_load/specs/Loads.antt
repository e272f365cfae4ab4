-- What loading a drawing's file leaves in lent arrays. Definitions only.
use Rattle.std.specs.Prelude.{Option, Some, None}
use Rattle.std.specs.Prelude.{ℕ, ◌+◌, ◌*◌, ◌≤◌, ◌≡◌, true, List, [], length, drop}
use Rattle.number.specs.Readers.{Read, got, times}
use Rattle.number.specs.Numbers.{read_number}
use Rattle.number.specs.Said.{Says}
use Rattle.complex.specs.Cells.{LiveCell}
use Rattle.complex.specs.Decode.{read_cycle}
use Rattle.complex.specs.Sound.{cells_most, cycles_most, steps_most, bends_most}
use Rattle.complex.specs.File.{read_sheet}
use Rattle.store.specs.declared.Shape.{Shape}
use Rattle.store.specs.View.{sheet_of, Fits, bend_count, cycle_count}
use Rattle.file_read.specs.declared.ReadAnswer.{ReadAnswer}
use Rattle.file_read.specs.declared.Used.{Used}
use Rattle.file_read.specs.Filling.{CyclesIn, loaded_says, bends_more, PartsOver}
use Rattle.file_read.specs.Outcome.{CellsIn, NotHeld}
use Rattle.lent.specs.Arrays.{Arrays, held_by, normal}

-- ---- what follows the counts of a shape: its bends, then its cycles, which are put into arrays
pub record PartsPut (s : List ℕ) (first : ℕ) (x : Shape) (counts steps : List ℕ) (used : Used) (counts' steps' : List ℕ) (next : ℕ)
    (used' : Used) : Type 0 where
  pub inside : first + 16 * bend_count x ≤ length s
  pub room : used.bends + bend_count x ≤ bends_most
  pub filled : CyclesIn (times read_cycle (cycle_count x) (drop (first + 16 * bend_count x) s))
      s counts steps (bends_more used (bend_count x)) counts' steps' next used'

abbrev pub PartsStored : List ℕ → ℕ → Shape → List ℕ → List ℕ → Used → List ℕ → List ℕ → Option (ℕ × Used) → Type 0
PartsStored s first x counts steps used counts' steps' r =
    Says 10 (λ v. PartsPut s first x counts steps used counts' steps' v.0 v.1) (PartsOver s first x used) (loaded_says r)

-- the arrays have room for so much
pub record LoadRoom (used : Used) (counts steps : List ℕ) : Type 0 where
  pub counts_size : length counts ≡ cycles_most
  pub steps_size : length steps ≡ steps_most
  pub bends_fit : used.bends ≤ bends_most
  pub cycles_fit : used.cycles ≤ cycles_most
  pub steps_fit : used.steps ≤ steps_most

-- ---- the cells
-- the arrays as an answer of the reader
abbrev pub answer_of : Arrays → ReadAnswer
answer_of b = record { number = 0; drawing = held_by b }

-- with any next id the arrays hold the cells that q reads, with nothing after them
pub record CellsHeld (q : Read (List LiveCell)) (b : ℕ → Arrays) : Type 0 where
  pub cells : (next : ℕ) → CellsIn q next (answer_of (b next))
  pub rows : (next : ℕ) → normal (b next) ≡ true

-- ---- the file
-- the next id, the number of cells and the place after them
pub record CountsIn (s : List ℕ) (next n at : ℕ) : Type 0 where
  pub after : List ℕ
  pub first : read_number s ≡ got next after
  pub second : read_number after ≡ got n (drop at s)
  pub few : n ≤ cells_most
  pub inside : at ≤ length s

abbrev pub CountsRead : List ℕ → Option (ℕ × ℕ × ℕ) → Type 0
CountsRead s (Some (next, n, at)) = CountsIn s next n at
CountsRead s None = NotHeld s

-- all bytes are read as the sheet that the arrays hold
pub record SheetIn (s : List ℕ) (b : Arrays) : Type 0 where
  pub read : read_sheet s ≡ got (sheet_of (held_by b)) []
  pub fits : Fits (held_by b)
  pub rows : normal b ≡ true
