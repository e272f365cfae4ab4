-- A piece of what is printed: lines put one after the other, and its ends. Assumes nothing.
use Prim.Native.Nat.{ℕ, ◌+◌, ◌≤◌, ◌<◌}
use native.Mathlib.Omega.{arith}
use borrow.Author.Tests.{le-leb, lt-leb}
use mathlib.Core.Path.{◌≡◌, refl, sym, ap, ◌∙◌, subst}
use mathlib.Core.Bool.{Bool, true, false, cond}
use mathlib.Core.List.{List, [], ◌++◌, append-nil}
use lib.Dec.{T}
use lib.ListN.{length, take, drop}
use Rattle.complex.specs.Cells.{Sheet}
use Rattle.complex.specs.Program.{Run, script_most, newline, too_long_text}
use Rattle.complex.proofs.Bools.{false_not}
use Rattle.store.specs.View.{sheet_of}
use Rattle.lent.specs.Arrays.{Arrays, held_by, sound_arrays}
use Rattle.run_turns.specs.Runs.{run_from}
use Rattle.run_turns.proofs.Progress.{run_none}
use Rattle.text.specs.Texts.{line_most, last_most, TextPut}
use Rattle.text.proofs.Puts.{put_then}
use Rattle.printing.specs.Lines.{last_text, run_text, LinesPut}
use Rattle.printing.proofs.Lines.{same_size}
use Rattle.printing.specs.Texts.{to_print, LongPut, Pieced}
use Rattle.printing.specs.declared.Printed.{Printed}
use Rattle.printing.proofs.Fronts.{front_text, front}

-- ---- a piece
module _ (s : Sheet) (script : List ℕ) (at : ℕ) where
  abbrev choose : Bool → List ℕ
  choose c = cond c (run_text (run_from s (drop at script))) (too_long_text ++ newline)

  print_short : length script ≤ script_most → to_print s script at ≡ run_text (run_from s (drop at script))
  print_short h = ap choose (le-leb (length script) script_most h)

  print_long : script_most < length script → to_print s script at ≡ too_long_text ++ newline
  print_long h = ap choose (lt-leb (length script) script_most h)

module _ {a : Arrays} {script : List ℕ} {from : ℕ} {b : Arrays} {entry x : List ℕ} {at end : ℕ} (p : LinesPut a script from b entry x at end)
    (m : length script ≤ script_most) where
  -- there may be no room for the next line
  pub piece_more : length x < end + line_most → Pieced a script from b entry x (record { at = at; count = end; last = false })
  piece_more h =
      let e = same_size p in
      let t = front_text p.put p.room in
      let f = p.put.ends in
      let g = p.put.short in
      record {
        front = front p.put p.room;
        goes = print_short (sheet_of (held_by a)) script from m ∙ p.goes ∙ sym (λ i. t i ++ print_short (sheet_of (held_by b)) script at m i);
        full = λ z. omega arith;
        ahead = λ z n. let l : from < at = omega arith in (l, p.within l);
        sound = p.sound;
      }

  -- the end line is put
  pub piece_last : length script ≤ at → end + last_most ≤ length x → {y : List ℕ} {r : ℕ} → TextPut x end (last_text (sheet_of (held_by b))) last_most y r
      → Pieced a script from b entry y (record { at = at; count = r; last = true })
  piece_last n h {y} {r} q =
      let s = sheet_of (held_by b) in
      let e = same_size p in
      let f = q.ends in
      let g = q.short in
      let all = put_then p.put q in
      let k : r ≤ length entry = omega arith in
      let t = front_text all k in
      record {
        front = front all k;
        goes =
            print_short (sheet_of (held_by a)) script from m
            ∙ p.goes
            ∙ ap (λ (z : Run). p.text ++ run_text z) (run_none s script at n)
            ∙ sym (append-nil (p.text ++ last_text s))
            ∙ sym (ap (λ (z : List ℕ). z ++ []) t);
        full = λ z. absurd (false_not z tt);
        ahead = λ z. absurd (false_not z tt);
        sound = p.sound;
      }

-- the end line of the arrays d, which are b
pub last_seen : {d b : Arrays} → d ≡ b → {x : List ℕ} {end : ℕ} {y : List ℕ} {r : ℕ} → TextPut x end (last_text (sheet_of (held_by d))) last_most y r
    → TextPut x end (last_text (sheet_of (held_by b))) last_most y r
last_seen e {x} {end} {y} {r} q = subst (λ (a : Arrays). TextPut x end (last_text (sheet_of (held_by a))) last_most y r) e q

-- ---- a script that is too long
pub long_none : (at : ℕ) (entry : List ℕ) → length entry < 9 → LongPut at entry entry (record { at = at; count = 0; last = false })
long_none at entry h = record { front = record { fits = omega arith; same = refl; kept = refl }; goes = refl; short = λ z. h }

pub long_put : (at : ℕ) (entry : List ℕ) {m : ℕ} {y : List ℕ} {r : ℕ} → 9 ≤ length entry → TextPut entry 0 (too_long_text ++ newline) m y r
    → LongPut at entry y (record { at = at; count = r; last = true })
long_put at entry {m} {y} {r} h q =
    let f = q.ends in
    let k : r ≤ length entry = omega arith in
    record {
      front = front q k;
      goes = sym (append-nil (too_long_text ++ newline)) ∙ sym (ap (λ (z : List ℕ). z ++ []) (front_text q k));
      short = λ z. absurd (false_not z tt);
    }

pub piece_long : (a : Arrays) (script : List ℕ) (at : ℕ) {entry exit : List ℕ} {p : Printed} → T (sound_arrays a) → script_most < length script
    → LongPut at entry exit p → Pieced a script at a entry exit p
piece_long a script at {entry} {exit} {p} w l o =
    let s = sheet_of (held_by a) in
    record {
      front = o.front;
      goes =
          print_long s script at l
          ∙ o.goes
          ∙ sym (ap (λ (z : List ℕ). take p.count exit ++ cond p.last [] z) (print_long s script p.at l));
      full = λ z. let h = o.short z in omega arith;
      ahead = λ z n. let h = o.short z in absurd (omega arith);
      sound = w;
    }
