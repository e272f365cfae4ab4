-- What a command of a script leaves in lent arrays. Definitions only.
use Rattle.std.specs.Prelude.{ℕ, ◌≤◌, List, [], ◌∷◌, T, length}
use Rattle.store.specs.View.{sheet_of}
use Rattle.lent.specs.Arrays.{Arrays, held_by, sound_arrays}
use Rattle.entry_told.specs.Told.{Turned}
use Rattle.entry_run.specs.declared.Turn.{Turn}

-- the five numbers of a turn
abbrev pub turn_numbers : Turn → List ℕ
turn_numbers t = t.line.number ∷ t.line.first ∷ t.line.new ∷ t.line.removed ∷ t.left ∷ []

-- the command at `at` of a script on the arrays a gives the turn t and leaves the arrays b
pub record SteppedIn (a : Arrays) (script : List ℕ) (at : ℕ) (b : Arrays) (t : Turn) : Type 0 where
  pub turned : Turned (sheet_of (held_by a)) script at (turn_numbers t) (sheet_of (held_by b)) t.end
  pub sound : T (sound_arrays b)
  pub fits : t.left ≤ length script
