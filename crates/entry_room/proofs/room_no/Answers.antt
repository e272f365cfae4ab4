-- `entry_room::room_no` meets its contract, test by test. Assumes nothing.
use native.Mathlib.Omega.{arith}
use borrow.Author.Rules.{rules}
use borrow.Author.Tests.{le-leb, lt-leb}
use mathlib.Core.Path.{◌≡◌, sym, ap, ◌∙◌}
use lib.Dec.{leb}
use Rattle.entry_room.specs.Rooms.{file_most, lines_for, or_nine, room_no}
use Rattle.entry_room.proofs.Rooms.{no_first, no_later}
use Rattle.entry_room.proofs.room_no.Goals as goal

-- the script has its lines: the room for a file decides
later : (c : goal.Else-out-lt-FILE_MOST) → let a = c.args in or_nine (leb file_most a.out) ≡ room_no a.script a.lines a.out
later c =
    let l = c in
    let a = l.args in
    no_later (lines_for a.script a.lines) (leb file_most a.out) l.lines_no-no.result l.lines_no-no.ensures c.if-no-ne0.false

later_2 : (c : goal.Then-out-lt-FILE_MOST) → let a = c.args in or_nine (leb file_most a.out) ≡ room_no a.script a.lines a.out
later_2 c =
    let l = c in
    let a = l.args in
    no_later (lines_for a.script a.lines) (leb file_most a.out) l.lines_no-no.result l.lines_no-no.ensures c.if-no-ne0.false

pub returns-then-no-ne0 : goal.returns-then-no-ne0
returns-then-no-ne0 c =
    let l = c in
    let a = l.args in
    no_first (lines_for a.script a.lines) (leb file_most a.out) l.lines_no-no.result l.lines_no-no.ensures c.if-no-ne0.true

pub returns-then-out-lt-FILE_MOST : goal.returns-then-out-lt-FILE_MOST
returns-then-out-lt-FILE_MOST c = sym (ap or_nine (lt-leb file_most c.args.out (omega arith))) ∙ later_2 c

pub returns : goal.returns
returns c = sym (ap or_nine (le-leb file_most c.args.out (omega arith))) ∙ later c
