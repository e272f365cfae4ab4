-- What reading a file answers. Definitions only.
use Rattle.std.specs.Prelude.{ℕ, ◌≤◌, ◌≡◌, true, List, [], length}
use Rattle.number.specs.Readers.{Read, got, spread}
use Rattle.complex.specs.Cells.{LiveCell, Sheet, empty}
use Rattle.complex.specs.Sound.{ceilings, cycles_most, steps_most, bends_most}
use Rattle.complex.specs.File.{ReadAnswer as Judgement, read_sheet, read_file}
use Rattle.store.specs.View.{sheet_of, Fits}
use Rattle.store.specs.Places.{entry_cycles, entry_bends, cycle_words}
use Rattle.file_read.specs.declared.ReadAnswer.{ReadAnswer}

-- 0 and the drawing with the sheet x
pub record SheetGiven (r : ReadAnswer) (x : Sheet) : Type 0 where
  pub number : r.number ≡ 0
  pub sheet : sheet_of r.drawing ≡ x
  pub fits : Fits r.drawing

-- the arrays have room for the parts of the cells
pub record RoomFor (xs : List LiveCell) : Type 0 where
  pub bends : length (spread entry_bends xs) ≤ bends_most
  pub cycles : length (spread entry_cycles xs) ≤ cycles_most
  pub steps : length (spread cycle_words (spread entry_cycles xs)) ≤ steps_most

-- the cells that q reads, with nothing after them
pub record CellsIn (q : Read (List LiveCell)) (next : ℕ) (r : ReadAnswer) : Type 0 where
  pub cells : List LiveCell
  pub read : q ≡ got cells []
  pub given : SheetGiven r (record { next = next; cells = cells })

-- the arrays have no room for whatever cells q reads
abbrev pub CellsOver : Read (List LiveCell) → Type 0
CellsOver q = (xs : List LiveCell) → q ≡ got xs [] → RoomFor xs → ⊥

-- the bytes are not, all of them, a next id and cells that keep the ceilings
abbrev pub NotHeld : List ℕ → Type 0
NotHeld s = (x : Sheet) → read_sheet s ≡ got x [] → ceilings x.cells ≡ true → ⊥

-- 10 and the empty sheet
abbrev pub refused : Judgement
refused = record { number = 10; sheet = empty }

-- question 10: are the bytes, all of them, a sound drawing's file? On a no the empty drawing
pub record FileRead (s : List ℕ) (r : ReadAnswer) : Type 0 where
  pub number : r.number ≡ (read_file s).number
  pub sheet : sheet_of r.drawing ≡ (read_file s).sheet
  pub fits : Fits r.drawing
