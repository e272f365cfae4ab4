-- Lines of a script's commands: a start and a turn. Assumes nothing.
use Prim.Native.Nat.{ℕ, ◌+◌, ◌≤◌}
use native.Mathlib.Omega.{arith}
use mathlib.Core.Path.{◌≡◌, refl, sym, ap, ◌∙◌}
use mathlib.Core.List.{List, [], ◌++◌, append_assoc}
use lib.Dec.{T}
use lib.ListN.{length, drop}
use Rattle.number.specs.Readers.{spread}
use Rattle.complex.specs.Program.{Line, Run, put_line, line_text}
use Rattle.store.specs.View.{sheet_of}
use Rattle.lent.specs.Arrays.{Arrays, held_by, sound_arrays}
use Rattle.entry_run.specs.Turns.{turn_numbers, SteppedIn}
use Rattle.entry_run.specs.declared.Turn.{Turn}
use Rattle.run_turns.specs.Runs.{run_from}
use Rattle.run_turns.proofs.Progress.{head_line, run_turn}
use Rattle.entry_run.proofs.Turning.{sheet_sound}
use Rattle.text.specs.Texts.{line_most, TextPut}
use Rattle.text.proofs.Puts.{put_none, put_then, put_within, put_length}
use Rattle.printing.specs.Lines.{last_text, run_text, LinesPut}

pub lines_start : (a : Arrays) (script : List ℕ) (at : ℕ) (entry : List ℕ) → T (sound_arrays a) → LinesPut a script at a entry entry at 0
lines_start a script at entry w =
    record {
      text = [];
      put = put_within (omega arith) (put_none entry 0);
      room = omega arith;
      goes = refl;
      ahead = omega arith;
      within = λ h. absurd (omega arith);
      sound = w;
    }

text_turn : (l : Line) (r : Run) → run_text (put_line l r) ≡ line_text l ++ run_text r
text_turn l r = append_assoc (line_text l) (spread line_text r.lines) (last_text r.sheet)

module _ {a : Arrays} {script : List ℕ} {from : ℕ} {b : Arrays} {entry x : List ℕ} {at end : ℕ} (p : LinesPut a script from b entry x at end) where
  -- the buffer keeps its length
  pub same_size : length x ≡ length entry
  same_size = put_length p.put

  -- a line more
  pub lines_turn : (d : Arrays) {t : Turn} → SteppedIn b script at d t → end + line_most ≤ length x
      → {y : List ℕ} {r : ℕ} → TextPut x end (line_text (head_line (turn_numbers t))) line_most y r → LinesPut a script from d entry y t.end r
  lines_turn d {t} o h {y} {r} q =
      let l = line_text (head_line (turn_numbers t)) in
      let e = same_size in
      let f = q.ends in
      let g = q.short in
      let i = p.ahead in
      let j = o.turned.ahead in
      record {
        text = p.text ++ l;
        put = put_within (omega arith) (put_then p.put q);
        room = omega arith;
        goes =
            p.goes
            ∙ ap (λ (z : Run). p.text ++ run_text z) (run_turn o.turned (sheet_sound d o.sound))
            ∙ ap (λ (z : List ℕ). p.text ++ z) (text_turn (head_line (turn_numbers t)) (run_from (sheet_of (held_by d)) (drop t.end script)))
            ∙ sym (append_assoc p.text l (run_text (run_from (sheet_of (held_by d)) (drop t.end script))));
        ahead = omega arith;
        within = λ z. o.turned.within;
        sound = o.sound;
      }
