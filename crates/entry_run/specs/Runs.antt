-- What a run over a script leaves in lent arrays. Definitions only.
use Rattle.std.specs.Prelude.{ℕ, ◌≤◌, ◌≡◌, List, T, length}
use Rattle.std.proofs.lemmas.List.Edits.{sets}
use Rattle.store.specs.View.{sheet_of}
use Rattle.lent.specs.Arrays.{Arrays, held_by, sound_arrays}
use Rattle.entry_told.specs.Told.{told_of, front, Turned}

-- the command at `at` of a script on the arrays a leaves the arrays b, and the run goes on at r; its numbers stand in the lines
-- from a place on
pub record TurnedIn (a : Arrays) (script : List ℕ) (at : ℕ) (b : Arrays) (r : ℕ) (entry : List ℕ) (place : ℕ) (exit : List ℕ) : Type 0 where
  pub numbers : List ℕ
  pub turned : Turned (sheet_of (held_by a)) script at numbers (sheet_of (held_by b)) r
  pub stands : exit ≡ sets entry place numbers
  pub sound : T (sound_arrays b)

-- the run over a script from the arrays a leaves the arrays b after n commands: what it tells stands in the first places of the lines
pub record RanIn (a : Arrays) (script entry : List ℕ) (b : Arrays) (exit : List ℕ) (n : ℕ) : Type 0 where
  pub numbers : exit ≡ front (told_of (sheet_of (held_by a)) script).numbers entry
  pub commands : n ≡ (told_of (sheet_of (held_by a)) script).commands
  pub sheet : sheet_of (held_by b) ≡ (told_of (sheet_of (held_by a)) script).sheet
  pub sound : T (sound_arrays b)
  pub few : n ≤ length script
