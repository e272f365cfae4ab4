-- A script on the drawing of a file: five numbers of each command, and the file of the drawing at the end. Definitions only.
use Rattle.std.specs.Prelude.{ℕ, cond, List, length}
use Rattle.complex.specs.File.{file_of}
use Rattle.entry_told.specs.Told.{Told, told_of, front}
use Rattle.entry_room.specs.Rooms.{room_for}
use Rattle.entry_files.specs.Calls.{is_file, drawn}

-- what the call answers: its number, the lent memory as it is left, the count of commands and of the file's bytes
pub record RunAnswer : Type 0 where
  pub number : ℕ
  pub lines : List ℕ
  pub out : List ℕ
  pub commands : ℕ
  pub bytes : ℕ

abbrev pub run_as : ℕ → List ℕ → List ℕ → ℕ → ℕ → RunAnswer
run_as number lines out commands bytes = record { number = number; lines = lines; out = out; commands = commands; bytes = bytes }

abbrev pub run_done : Told → List ℕ → List ℕ → RunAnswer
run_done t lines out = run_as 0 (front t.numbers lines) (front (file_of t.sheet) out) t.commands (length (file_of t.sheet))

-- a run asks 10, 9
abbrev pub run_at : List ℕ → List ℕ → List ℕ → List ℕ → RunAnswer
run_at file script lines out =
    cond (is_file file)
    (cond (room_for (length script) (length lines) (length out)) (run_done (told_of (drawn file) script) lines out) (run_as 9 lines out 0 0))
    (run_as 10 lines out 0 0)
