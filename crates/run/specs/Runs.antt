-- What a run over a script leaves in arrays, and what it answers. Definitions only.
use Rattle.std.specs.Prelude.{◌≡◌, ℕ, T, List, length}
use Rattle.complex.specs.Cells.{empty}
use Rattle.complex.specs.Calls.{Filled, filled}
use Rattle.complex.specs.Demands.{after, shares}
use Rattle.complex.specs.File.{file_of}
use Rattle.complex.specs.Program.{run, commands_of}
use Rattle.store.specs.View.{sheet_of}
use Rattle.lent.specs.Arrays.{Arrays, held_by, sound_arrays}
use Rattle.run_turns.specs.Runs.{run_from}
use Rattle.register.specs.Demands.{Ends}
use Rattle.run.specs.declared.Ran.{Ran}

-- the run over the bytes from the arrays a leaves the arrays b after n commands
pub record RanOn (a : Arrays) (bytes : List ℕ) (b : Arrays) (n : ℕ) : Type 0 where
  pub sheet : sheet_of (held_by b) ≡ (run_from (sheet_of (held_by a)) bytes).sheet
  pub commands : n ≡ length (run_from (sheet_of (held_by a)) bytes).lines
  pub sound : T (sound_arrays b)

-- r is the run over the bytes: its drawing is the one after the commands that the bytes hold, and what demand 3 says of it
pub record RanAll (bytes : List ℕ) (r : Ran) : Type 0 where
  pub sheet : sheet_of r.drawing ≡ (run bytes).sheet
  pub commands : r.commands ≡ length (run bytes).lines
  pub reached : sheet_of r.drawing ≡ after empty (commands_of bytes)
  pub ends : Ends r.drawing (shares empty (commands_of bytes))

-- the file of the drawing that the bytes' commands end with, in the first places of a buffer that has room
abbrev pub saved_to : List ℕ → List ℕ → Filled
saved_to bytes buffer = filled (file_of (run bytes).sheet) buffer
