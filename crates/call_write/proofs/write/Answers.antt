-- `write` meets its contract: question 9 of sound arrays, then the next id, the count and the cells. Assumes nothing.
use borrow.Author.Rules.{rules}
use Prim.Native.Nat.{ℕ, ◌+◌, ◌≤◌}
use mathlib.Core.Path.{◌≡◌, ap, sym, ◌∙◌}
use mathlib.Core.List.{List, ◌++◌}
use native.Mathlib.Omega.{arith}
use lib.ListN.{length, take}
use Rattle.number.specs.Readers.{spread}
use Rattle.number.specs.Numbers.{spell}
use Rattle.complex.specs.File.{cell_bytes, file_of}
use Rattle.store.specs.View.{cycles_from, cells_of, sheet_of}
use Rattle.file_parts.specs.Parts.{positions_from}
use Rattle.file_parts.proofs.Laying.{put_as, put_then, room_first, room_then}
use Rattle.file_write.proofs.Filing.{next_spells, filled_put, filled_short}
use Rattle.lent.specs.Arrays.{Arrays, held_by}
use Rattle.answer.specs.declared.Totals.{Totals}
use Rattle.lent.specs.Replies.{Ready}
use Rattle.lent.specs.Sheets.{seen}
use Rattle.lent.proofs.Sums.{ready_sizes}
use Rattle.call_cells.proofs.Files.{ready_writable, ready_all, file_parts, call_is}
use Rattle.call_write.proofs.write.Goals as goal

-- the two parts of the file
abbrev first : ℕ → ℕ → List ℕ
first next count = spell next ++ spell count

abbrev second : Arrays → List ℕ
second a = spread cell_bytes (cells_of (take a.count (held_by a).cells) (cycles_from a.cycles a.steps) (positions_from a.bx a.by))

-- there is room for the file
room_for : (a : Arrays) (t : Totals) → Ready a t → (b : List ℕ) (n : ℕ) → n ≡ length (file_of (sheet_of (held_by a))) → n ≤ length b
    → 0 + length (first a.next a.count ++ second a) ≤ length b
room_for a t r b n l h = let e = ap length (file_parts a t r) in omega arith

pub returns-then-buffer-length : goal.returns-then-buffer-length
returns-then-buffer-length c =
    let a = c.args in
    let all = seen a.view.now in
    filled_short (file_of (sheet_of (held_by all))) a.buffer.now c.file_length-length.result c.file_length-length.ensures c.if-buffer-length.true
    ∙ call_is all a.t c.requires a.buffer.now

pub overflow_cast-view : goal.overflow_cast-view
overflow_cast-view c =
    let a = c.args in
    let all = seen a.view.now in
    let f = (ready_writable all a.t c.requires).fits.cells in
    search rules

pub put_two-at-requires : goal.put_two-at-requires
put_two-at-requires c =
    let a = c.args in
    let all = seen a.view.now in
    let room : 0 + length (first a.view.now.next a.view.now.count ++ second all) ≤ length a.buffer.now =
    room_for all a.t c.requires a.buffer.now c.file_length-length.result c.file_length-length.ensures c.if-buffer-length.false in
    let w = ready_writable all a.t c.requires in
    let f = w.fits.cells in
    record {
      a_lt_numbers_end = next_spells (held_by all) (ready_sizes all a.t c.requires) w;
      b_lt_numbers_end = omega arith;
      b_in_bounds = room_first a.buffer.now 0 (first a.view.now.next a.view.now.count) (second all) room;
    }

pub put_cells-end-requires : goal.put_cells-end-requires
put_cells-end-requires c =
    let a = c.args in
    let all = seen a.view.now in
    let room : 0 + length (first a.view.now.next a.view.now.count ++ second all) ≤ length a.buffer.now =
    room_for all a.t c.requires a.buffer.now c.file_length-length.result c.file_length-length.ensures c.if-buffer-length.false in
    record {
      all_ready = ready_all all a.t c.requires;
      by_in_bounds = room_then a.buffer.now 0 (first a.view.now.next a.view.now.count) (second all) c.put_two-at.ensures room;
    }

pub returns : goal.returns
returns c =
    let a = c.args in
    let all = seen a.view.now in
    let l = c.file_length-length.ensures in
    let h = c.if-buffer-length.false in
    filled_put (file_of (sheet_of (held_by all))) (omega arith)
    (put_as (sym (file_parts all a.t c.requires)) (put_then (first a.view.now.next a.view.now.count) (second all) c.put_two-at.ensures c.put_cells-end.ensures))
    ∙ call_is all a.t c.requires a.buffer.now
