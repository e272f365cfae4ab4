-- Lines of a script's commands. Definitions only.
use Rattle.std.specs.Prelude.{ℕ, ◌-◌, ◌*◌, ◌≤◌, ◌<◌, ◌≡◌, List, ◌++◌, T, length, drop}
use Rattle.number.specs.Readers.{spread}
use Rattle.complex.specs.Cells.{Sheet}
use Rattle.complex.specs.Euler.{euler}
use Rattle.complex.specs.Program.{Run, line_text}
use Rattle.store.specs.View.{sheet_of}
use Rattle.lent.specs.Arrays.{Arrays, held_by, sound_arrays}
use Rattle.run_turns.specs.Runs.{run_from}
use Rattle.text.specs.Texts.{line_most, TextPut, end_text}

-- the end line of a drawing
abbrev pub last_text : Sheet → List ℕ
last_text s = end_text (euler s.cells) (length s.cells)

-- what a run prints: a line per command, then the end line of the drawing after them
abbrev pub run_text : Run → List ℕ
run_text r = spread line_text r.lines ++ last_text r.sheet

-- lines of the script's commands from `from` on stand at the buffer's front, and end at r; the bytes from `at` on are left
pub record LinesPut (a : Arrays) (script : List ℕ) (from : ℕ) (b : Arrays) (entry exit : List ℕ) (at r : ℕ) : Type 0 where
  pub text : List ℕ
  pub put : TextPut entry 0 text (line_most * (at - from)) exit r
  pub room : r ≤ length entry
  pub goes : run_text (run_from (sheet_of (held_by a)) (drop from script)) ≡ text ++ run_text (run_from (sheet_of (held_by b)) (drop at script))
  pub ahead : from ≤ at
  pub within : from < at → at ≤ length script
  pub sound : T (sound_arrays b)
