-- How far a run over a script has come: a start, a turn, and its end. Assumes nothing.
use Prim.Native.Nat.{ℕ, suc, ◌+◌, ◌-◌, ◌≤◌}
use native.Mathlib.Omega.{arith}
use mathlib.Core.Path.{◌≡◌, refl, sym, ap, ◌∙◌}
use mathlib.Core.List.{List, [], ◌∷◌, ◌++◌, append_assoc, append-nil}
use lib.Dec.{T}
use lib.ListN.{length, drop, get_or, length-append, length-drop}
use Rattle.complex.specs.Cells.{Sheet, empty}
use Rattle.complex.specs.Sound.{sound}
use Rattle.complex.specs.Answer.{command}
use Rattle.complex.specs.Program.{Line, Run, line, put_line, ended, ran, run}
use Rattle.store.proofs.Lists.{drop_over, not_empty}
use Rattle.entry_told.specs.Told.{Turned}
use Rattle.entry_told.proofs.Going.{one_turn}
use Rattle.run_turns.specs.Runs.{run_from}
use Rattle.run_turns.proofs.Shorter.{ran_none, ran_enough}

pub run_empty : (bytes : List ℕ) → run_from empty bytes ≡ run bytes
unfolding run_from run
run_empty bytes = refl

-- ---- a turn
-- the line that the numbers of a turn begin with
abbrev pub head_line : List ℕ → Line
head_line ns = record { number = get_or ns 0 0; first = get_or ns 1 0; new = get_or ns 2 0; removed = get_or ns 3 0 }

-- a run's first line, and the run after it
pub run_turn : {s : Sheet} {bytes : List ℕ} {at : ℕ} {ns : List ℕ} {t : Sheet} {r : ℕ} → Turned s bytes at ns t r → T (sound t)
    → run_from s (drop at bytes) ≡ put_line (head_line ns) (run_from t (drop r bytes))
unfolding run_from
run_turn {s} {bytes} {at} {ns} {t} {r} o w =
    let h = o.ahead in
    let g = o.within in
    let m = length bytes - at - 1 in
    let b = drop at bytes in
    let c = drop r bytes in
    let j = length-drop at bytes in
    let k = length-drop r bytes in
    let e : length b ≡ suc m = omega arith in
    let z = not_empty b (omega arith) in
    ap (λ (n : ℕ). ran n s b) e
    ∙ one_turn ran (λ (x : Sheet) (y : List ℕ). put_line (line (command x y))) ended ran_none m s b (λ j. rw (z, j, ran)) (λ j. rw (z, j, ran))
    ∙ sym (λ i. put_line (head_line (o.numbers i)) (ran m (o.sheet i) (o.goes i)))
    ∙ ap (put_line (head_line ns)) (ran_enough m (length c) t c w (omega arith) (omega arith))

-- no byte is left
pub run_none : (s : Sheet) (bytes : List ℕ) (at : ℕ) → length bytes ≤ at → run_from s (drop at bytes) ≡ ended s
unfolding run_from
run_none s bytes at h = ap (λ (b : List ℕ). ran (length b) s b) (drop_over at bytes h)

-- ---- the loop
-- a run after some lines
abbrev after : List Line → Run → Run
after ls r = record { lines = ls ++ r.lines; sheet = r.sheet }

-- after the lines `before` the drawing is s, and the bytes from `at` on are left; each command took a byte at least
pub record Progress (from : Sheet) (bytes : List ℕ) (s : Sheet) (at commands : ℕ) : Type 0 where
  pub before : List Line
  pub count : commands ≡ length before
  pub within : at ≤ length bytes
  pub few : commands ≤ at
  pub goes : run_from from bytes ≡ after before (run_from s (drop at bytes))

pub start : (bytes : List ℕ) (s : Sheet) → Progress s bytes s 0 0
start bytes s = record { before = []; count = refl; within = omega arith; few = omega arith; goes = refl }

module _ {from : Sheet} {bytes : List ℕ} {s : Sheet} {at commands : ℕ} (p : Progress from bytes s at commands) where
  pub turn : {ns : List ℕ} {t : Sheet} {r : ℕ} → Turned s bytes at ns t r → T (sound t) → Progress from bytes t r (commands + 1)
  turn {ns} {t} {r} o w =
      let ls = p.before in
      let more = run_from t (drop r bytes) in
      let c = p.count in
      let f = p.few in
      let a = o.ahead in
      let l = length-append ls (head_line ns ∷ []) in
      record {
        before = ls ++ (head_line ns ∷ []);
        count = omega arith;
        within = o.within;
        few = omega arith;
        goes =
            p.goes
            ∙ ap (after ls) (run_turn o w)
            ∙ ap (λ (x : List Line). record { lines = x; sheet = more.sheet }) (sym (append_assoc ls (head_line ns ∷ []) more.lines));
      }

  -- no byte is left
  pub over : length bytes ≤ at → (s ≡ (run_from from bytes).sheet) × (commands ≡ length (run_from from bytes).lines)
  over h =
      let e = p.goes ∙ ap (after p.before) (run_none s bytes at h) in
      let l = ap (λ (r : Run). length r.lines) e ∙ ap length (append-nil p.before) in
      (sym (ap (λ (r : Run). r.sheet) e), let c = p.count in omega arith)
