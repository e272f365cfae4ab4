-- The run over a script on lent arrays. Assumes nothing.
use Prim.Native.Nat.{ℕ, ◌+◌, ◌*◌, ◌≤◌, ◌<◌}
use native.Mathlib.Omega.{arith}
use mathlib.Core.Path.{◌≡◌}
use mathlib.Core.List.{List}
use lib.Dec.{T}
use lib.ListN.{length}
use lib.Seq.{sets}
use Rattle.store.specs.View.{sheet_of}
use Rattle.lent.specs.Arrays.{Arrays, held_by, sound_arrays}
use Rattle.entry_told.specs.Told.{line_width, lengths_end}
use Rattle.entry_told.proofs.Going.{Going, start, turn, over}
use Rattle.entry_run.specs.Turns.{turn_numbers, SteppedIn}
use Rattle.entry_run.specs.declared.Turn.{Turn}
use Rattle.entry_run.specs.Runs.{TurnedIn, RanIn}

-- its numbers put from a place on
pub put_in : {a : Arrays} {script : List ℕ} {at : ℕ} {b : Arrays} {t : Turn} → SteppedIn a script at b t → (entry : List ℕ) (place : ℕ) (x : List ℕ)
    → x ≡ sets entry place (turn_numbers t) → TurnedIn a script at b t.end entry place x
put_in {t = t} o entry place x y = record { numbers = turn_numbers t; turned = o.turned; stands = y; sound = o.sound }

-- ---- the loop
-- how far the run has come, with the arrays b
pub record Come (a : Arrays) (script entry lines : List ℕ) (b : Arrays) (at commands : ℕ) : Type 0 where
  pub going : Going (sheet_of (held_by a)) script entry lines (sheet_of (held_by b)) at commands
  pub sound : T (sound_arrays b)

pub come_start : (a : Arrays) (script entry : List ℕ) → T (sound_arrays a) → Come a script entry entry a 0 0
come_start a script entry w = record { going = start script entry (sheet_of (held_by a)); sound = w }

module _ {a : Arrays} {script entry lines : List ℕ} {b : Arrays} {at commands : ℕ} (p : Come a script entry lines b at commands) where
  pub come_turn : at < length script → {d : Arrays} {r : ℕ} {x : List ℕ} → TurnedIn b script at d r lines (line_width * commands) x
      → Come a script entry x d r (commands + 1)
  come_turn h {x = x} t = record { going = turn p.going h t.turned x t.stands; sound = t.sound }

  -- no byte is left
  pub come_end : line_width * length script ≤ length entry → length script ≤ at → RanIn a script entry b lines commands
  come_end r h =
      let o = over p.going r h in
      record { numbers = o.numbers; commands = o.commands; sheet = o.sheet; sound = p.sound; few = o.few }

  -- the commands so far are fewer than the script's bytes, whose length is a u32
  pub few_so_far : at < length script → length script < lengths_end → commands + 1 < 4294967297
  few_so_far h g = let f = p.going.few in omega arith
