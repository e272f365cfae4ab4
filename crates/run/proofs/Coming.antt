-- How far a run over a script has come on arrays. Assumes nothing.
use Rattle.std.proofs.Common.{ℕ, ◌+◌, ◌≤◌, T, List, length}
use Rattle.store.specs.View.{sheet_of}
use Rattle.lent.specs.Arrays.{Arrays, held_by, sound_arrays}
use Rattle.entry_run.specs.Turns.{SteppedIn}
use Rattle.entry_run.specs.declared.Turn.{Turn}
use Rattle.entry_run.proofs.Turning.{sheet_sound}
use Rattle.run_turns.proofs.Progress.{Progress, start, turn, over}
use Rattle.run.specs.Runs.{RanOn}

-- how far the run has come, with the arrays b
pub record Come (a : Arrays) (script : List ℕ) (b : Arrays) (at commands : ℕ) : Type 0 where
  pub progress : Progress (sheet_of (held_by a)) script (sheet_of (held_by b)) at commands
  pub sound : T (sound_arrays b)

pub come_start : (a : Arrays) (script : List ℕ) → T (sound_arrays a) → Come a script a 0 0
come_start a script w = record { progress = start script (sheet_of (held_by a)); sound = w }

module _ {a : Arrays} {script : List ℕ} {b : Arrays} {at commands : ℕ} (p : Come a script b at commands) where
  pub come_turn : (d : Arrays) {t : Turn} → SteppedIn b script at d t → Come a script d t.end (commands + 1)
  come_turn d o = record { progress = turn p.progress o.turned (sheet_sound d o.sound); sound = o.sound }

  pub come_end : length script ≤ at → RanOn a script b commands
  come_end h = let o = over p.progress h in record { sheet = o.0; commands = o.1; sound = p.sound }
