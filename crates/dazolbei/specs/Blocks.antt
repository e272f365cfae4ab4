-- The calls on a caller's block. Definitions only.
use Rattle.std.specs.Prelude.{ℕ, ◌≡◌, cond, List, T, length}
use Rattle.complex.specs.Cells.{Sheet}
use Rattle.store.specs.View.{sheet_of}
use Rattle.lent.specs.Arrays.{Arrays, held_by, sound_arrays}
use Rattle.lent.specs.declared.Line.{Line}
use Rattle.entry_told.specs.Told.{Told, told_of, front}
use Rattle.entry_room.specs.Rooms.{lines_for}

-- the four numbers of a command
abbrev pub line_as : ℕ → ℕ → ℕ → ℕ → Line
line_as number first new removed = record { number = number; first = first; new = new; removed = removed }

-- what a run answers: its number, the lines as they are left, the count of commands and the drawing
pub record BlockAnswer : Type 0 where
  pub number : ℕ
  pub lines : List ℕ
  pub commands : ℕ
  pub sheet : Sheet

abbrev pub block_as : ℕ → List ℕ → ℕ → Sheet → BlockAnswer
block_as number lines commands sheet = record { number = number; lines = lines; commands = commands; sheet = sheet }

abbrev pub block_done : Told → List ℕ → BlockAnswer
block_done t lines = block_as 0 (front t.numbers lines) t.commands t.sheet

-- a run on a block that holds the sound drawing s asks 9
abbrev pub block_run : Sheet → List ℕ → List ℕ → BlockAnswer
block_run s script lines = cond (lines_for (length script) (length lines)) (block_done (told_of s script) lines) (block_as 9 lines 0 s)

-- a run asks 1, 9
abbrev pub run_on : Arrays → List ℕ → List ℕ → BlockAnswer
run_on a script lines =
    cond (sound_arrays a) (block_run (sheet_of (held_by a)) script lines) (block_as 1 lines 0 (sheet_of (held_by a)))

-- the number r, the lines, the count n and the block b answer a script on the block a: what the definitions give; on a no the very
-- block; of a sound block a sound one
pub record RunIn (a : Arrays) (script entry : List ℕ) (b : Arrays) (exit : List ℕ) (r n : ℕ) : Type 0 where
  pub said : block_as r exit n (sheet_of (held_by b)) ≡ run_on a script entry
  pub back : (r ≡ 0 → ⊥) → b ≡ a
  pub sound : T (sound_arrays a) → T (sound_arrays b)
