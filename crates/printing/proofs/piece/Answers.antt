-- `printing::piece` meets its contract: lines, and after the last of them the end line. Assumes nothing.
use native.Mathlib.Omega.{arith}
use mathlib.Core.Path.{sym, ◌∙◌, subst}
use lib.Dec.{T}
use Rattle.lent.specs.Arrays.{Arrays, sound_arrays}
use Rattle.lent.specs.Sheets.{arrays}
use Rattle.text.proofs.Puts.{put_length}
use Rattle.printing.proofs.Lines.{same_size}
use Rattle.printing.proofs.Pieces.{piece_more, piece_last, last_seen, piece_long}
use Rattle.printing.proofs.piece.Goals as goal

pub shape_of-out-then-script-gt-SCRIPT_MOST : goal.shape_of-out-then-script-gt-SCRIPT_MOST
shape_of-out-then-script-gt-SCRIPT_MOST c = c.too_long.ensures.front.same

pub returns-then-script-gt-SCRIPT_MOST-clause-pieced : goal.returns-then-script-gt-SCRIPT_MOST-clause-pieced
returns-then-script-gt-SCRIPT_MOST-clause-pieced c =
    let a = c.args in
    piece_long (arrays a.sheet.now) a.script.now a.at c.requires c.if-script-gt-SCRIPT_MOST.true c.too_long.ensures

pub put_lines-p-requires : goal.put_lines-p-requires
put_lines-p-requires c = c.requires

pub shape_of-out-then-p-script : goal.shape_of-out-then-p-script
shape_of-out-then-p-script c = same_size c.put_lines-p.ensures.lines_put

pub returns-then-p-script-clause-pieced : goal.returns-then-p-script-clause-pieced
returns-then-p-script-clause-pieced c =
    piece_more c.put_lines-p.ensures.lines_put c.if-script-gt-SCRIPT_MOST.false (c.put_lines-p.ensures.out_len_bound c.if-p-script.true)

pub overflow_sub-out : goal.overflow_sub-out
overflow_sub-out c =
    let v = c.put_lines-p.ensures.lines_put in
    let e = same_size v in
    let r = v.room in
    omega arith

pub shape_of-out-then-out-end-lt-LAST_MOST : goal.shape_of-out-then-out-end-lt-LAST_MOST
shape_of-out-then-out-end-lt-LAST_MOST c = same_size c.put_lines-p.ensures.lines_put

pub returns-then-out-end-lt-LAST_MOST-clause-pieced : goal.returns-then-out-end-lt-LAST_MOST-clause-pieced
returns-then-out-end-lt-LAST_MOST-clause-pieced c =
    let h = c.if-out-end-lt-LAST_MOST.true in
    piece_more c.put_lines-p.ensures.lines_put c.if-script-gt-SCRIPT_MOST.false (omega arith)

pub put_last-k-requires : goal.put_last-k-requires
put_last-k-requires c =
    let v = c.put_lines-p.ensures.lines_put in
    let e = same_size v in
    let r = v.room in
    let h = c.if-out-end-lt-LAST_MOST.false in
    record {
      t = subst (λ (x : Arrays). T (sound_arrays x)) (sym c.view.ensures) v.sound;
      last_most_in_bounds = omega arith;
    }

pub shape_of-out : goal.shape_of-out
shape_of-out c = put_length c.put_last-k.ensures ∙ same_size c.put_lines-p.ensures.lines_put

pub returns-clause-pieced : goal.returns-clause-pieced
returns-clause-pieced c =
    let v = c.put_lines-p.ensures.lines_put in
    let e = same_size v in
    let r = v.room in
    let h = c.if-out-end-lt-LAST_MOST.false in
    let q = last_seen c.view.ensures c.put_last-k.ensures in
    piece_last v c.if-script-gt-SCRIPT_MOST.false c.if-p-script.false (omega arith) q
