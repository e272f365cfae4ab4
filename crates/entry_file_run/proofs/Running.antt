-- The answers of a run on the drawing of a file. Assumes nothing.
use Prim.Native.Nat.{ℕ, ◌≤◌}
use native.Mathlib.Omega.{arith}
use borrow.Author.Tests.{le-leb}
use mathlib.Core.Path.{◌≡◌, sym, ap, ◌∙◌}
use mathlib.Core.Bool.{Bool, true, false, cond}
use mathlib.Core.List.{List}
use lib.ListN.{length}
use Rattle.complex.specs.Cells.{Sheet}
use Rattle.complex.specs.File.{file_of, read_file}
use Rattle.complex.specs.Calls.{Filled}
use Rattle.store.specs.View.{sheet_of}
use Rattle.file_write.specs.declared.Written.{Written}
use Rattle.file_write.specs.Writes.{write_answered}
use Rattle.answer.specs.declared.Totals.{Totals}
use Rattle.lent.specs.Arrays.{Arrays, held_by}
use Rattle.call_save.specs.Saved.{SavedIn}
use Rattle.call_open.specs.Taken.{FileIn}
use Rattle.entry_told.specs.Told.{told_of, front}
use Rattle.entry_run.specs.Runs.{RanIn}
use Rattle.entry_files.specs.Calls.{drawn}
use Rattle.entry_files.proofs.Counts.{filled_count}
use Rattle.entry_room.specs.Rooms.{file_most, room_for}
use Rattle.entry_room.proofs.Rooms.{room_parts}
use Rattle.entry_file_run.specs.Runs.{RunAnswer, run_as, run_done, run_at}
use Rattle.entry_files.proofs.Opening.{no_file, is_file_lem}

-- a file that has room is written whole
pub written_whole : (a : Arrays) (out exit : List ℕ) (w : Written) → SavedIn a out exit w → file_most ≤ length out
    → write_answered w exit
    ≡ record { number = 0; count = length (file_of (sheet_of (held_by a))); buffer = front (file_of (sheet_of (held_by a))) out }
written_whole a out exit w v h =
    let xs = file_of (sheet_of (held_by a)) in
    let f = v.few in
    v.said
    ∙ ap (λ (b : Bool). cond b (record { number = 0; count = length xs; buffer = front xs out }) (record { number = 9; count = length xs; buffer = out }))
    (le-leb (length xs) (length out) (omega arith))

-- its bytes are counted in a u32
pub saved_few : (a : Arrays) (out exit : List ℕ) (w : Written) → SavedIn a out exit w → w.count ≤ 65536
saved_few a out exit w v =
    let e = ap (λ (x : Filled). x.count) v.said ∙ filled_count (file_of (sheet_of (held_by a))) out in
    let f = v.few in
    omega arith

module _ (s script lines out : List ℕ) where
  room : Bool
  room = room_for (length script) (length lines) (length out)

  asked9 : Bool → RunAnswer
  asked9 b = cond b (run_done (told_of (drawn s) script) lines out) (run_as 9 lines out 0 0)

  pub run_refused : (read_file s).number ≡ 10 → run_as 10 lines out 0 0 ≡ run_at s script lines out
  unfolding room asked9
  run_refused h = sym (ap (λ (b : Bool). cond b (asked9 room) (run_as 10 lines out 0 0)) (no_file s h))

  module _ (a : Arrays) (t : Totals) (f : FileIn s a t) where
    asked : (b : Bool) → room_for (length script) (length lines) (length out) ≡ b → asked9 b ≡ run_at s script lines out
    unfolding room asked9
    asked b q = ap asked9 (sym q) ∙ sym (ap (λ (x : Bool). cond x (asked9 room) (run_as 10 lines out 0 0)) (is_file_lem s a t f))

    pub run_short : room_for (length script) (length lines) (length out) ≡ false → run_as 9 lines out 0 0 ≡ run_at s script lines out
    unfolding asked9
    run_short q = asked false q

    pub run_done_lem : room_for (length script) (length lines) (length out) ≡ true → (x y : List ℕ) (b : Arrays) (n : ℕ) (w : Written)
        → RanIn a script lines b x n → SavedIn b out y w → run_as 0 x y n w.count ≡ run_at s script lines out
    unfolding asked9
    run_done_lem q x y b n w g v =
        let p = written_whole b out y w v (room_parts (length script) (length lines) (length out) q).out in
        let o = told_of (sheet_of (held_by a)) script in
        (λ i. run_as 0 (g.numbers i) (p i).buffer (g.commands i) (p i).count)
        ∙ (λ i. run_as 0 (front o.numbers lines) (front (file_of (g.sheet i)) out) o.commands (length (file_of (g.sheet i))))
        ∙ ap (λ (z : Sheet). run_done (told_of z script) lines out) f.sheet
        ∙ asked true q
