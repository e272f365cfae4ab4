-- A run over a script from the empty drawing. Assumes nothing.
use Rattle.std.proofs.Common.{◌≡◌, ℕ, T, List, length, sym, ap, ◌∙◌, subst}
use Rattle.complex.specs.Cells.{Sheet, empty}
use Rattle.complex.specs.Calls.{Filled, filled}
use Rattle.complex.specs.Demands.{after}
use Rattle.complex.specs.File.{file_of}
use Rattle.complex.specs.Program.{Run, run as run_of, commands_of}
use Rattle.complex.proofs.Runs.{run_after}
use Rattle.store.specs.View.{sheet_of}
use Rattle.store.specs.declared.Drawing.{Drawing}
use Rattle.sound.specs.Soundness.{sound_drawing}
use Rattle.lent.specs.Arrays.{Arrays, held_by}
use Rattle.lent.proofs.Replies.{drawing_of}
use Rattle.call_asked.specs.Entries.{EmptyIn}
use Rattle.run_turns.specs.Runs.{run_from}
use Rattle.run_turns.proofs.Progress.{run_empty}
use Rattle.register.proofs.Demand.{ends_after}
use Rattle.run.specs.Runs.{RanOn}
use Rattle.run.specs.Runs.{RanAll}
use Rattle.run.specs.declared.Ran.{Ran}

-- ---- from the empty drawing
module _ {a : Arrays} (z : EmptyIn a) {script : List ℕ} {b : Arrays} {n : ℕ} (r : RanOn a script b n) where
  run_is : run_from (sheet_of (held_by a)) script ≡ run_of script
  run_is = ap (λ (s : Sheet). run_from s script) z.sheet ∙ run_empty script

  pub sheet_is : sheet_of (held_by b) ≡ (run_of script).sheet
  sheet_is = r.sheet ∙ ap (λ (x : Run). x.sheet) run_is

  -- the struct that they hold
  pub ran_all : (d : Drawing) → d ≡ held_by b → RanAll script (record { drawing = d; commands = n })
  ran_all d e =
      let g : sheet_of d ≡ (run_of script).sheet = ap sheet_of e ∙ sheet_is in
      let q : sheet_of d ≡ after empty (commands_of script) = g ∙ sym (run_after script) in
      let w : T (sound_drawing d) = subst (λ (x : Drawing). T (sound_drawing x)) (sym e) (drawing_of b r.sound) in
      record {
        sheet = g;
        commands = r.commands ∙ ap (λ (x : Run). length x.lines) run_is;
        reached = q;
        ends = ends_after d w (commands_of script) q;
      }

  -- the file of the drawing after the run
  pub saved : (x : Filled) (buffer : List ℕ) → x ≡ filled (file_of (sheet_of (held_by b))) buffer → x ≡ filled (file_of (run_of script).sheet) buffer
  saved x buffer e = e ∙ ap (λ (s : Sheet). filled (file_of s) buffer) sheet_is
