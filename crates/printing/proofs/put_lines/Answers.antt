-- `put_lines` meets its contract: each turn puts the line of a command. Assumes nothing.
use borrow.Author.Rules.{rules}
use native.Mathlib.Omega.{arith}
use Rattle.printing.proofs.Lines.{lines_start, lines_turn, same_size}
use Rattle.printing.proofs.put_lines.Goals as goal

pub loop-at-init : goal.loop-at-init
loop-at-init c = record { put = lines_start _ _ _ _ c.requires; same = search rules }

pub overflow_sub-out : goal.overflow_sub-out
overflow_sub-out c =
    let v = c.loop-at.invariant.put in
    let e = same_size v in
    let r = v.room in
    omega arith

pub shape_of-out-then-out-end-lt-LINE_MOST : goal.shape_of-out-then-out-end-lt-LINE_MOST
shape_of-out-then-out-end-lt-LINE_MOST c = same_size c.loop-at.invariant.put

pub returns-then-out-end-lt-LINE_MOST : goal.returns-then-out-end-lt-LINE_MOST
returns-then-out-end-lt-LINE_MOST c =
    let h = c.if-out-end-lt-LINE_MOST.true in
    record {
      lines_put = c.loop-at.invariant.put;
      out_len_bound = λ l. omega arith;
      same = c.loop-at.invariant.same;
    }

pub step_at-t-requires : goal.step_at-t-requires
step_at-t-requires c =
    record {
      t = c.loop-at.invariant.put.sound;
      at_in_bounds = c.loop-at-test.true;
    }

pub put_line-end-requires : goal.put_line-end-requires
put_line-end-requires c =
    let v = c.loop-at.invariant.put in
    let e = same_size v in
    let r = v.room in
    let h = c.if-out-end-lt-LINE_MOST.false in
    omega arith

pub loop-at-smaller : goal.loop-at-smaller
loop-at-smaller c =
    let o = c.step_at-t.ensures.stepped_in.turned in
    let h = o.ahead in
    let g = o.within in
    omega arith

pub loop-at-preserved : goal.loop-at-preserved
loop-at-preserved c =
    let v = c.loop-at.invariant.put in
    let h = c.if-out-end-lt-LINE_MOST.false in
    let e = same_size v in
    let r = v.room in
    record { put = lines_turn v _ c.step_at-t.ensures.stepped_in (omega arith) c.put_line-end.ensures; same = search rules }

pub shape_of-out : goal.shape_of-out
shape_of-out c = same_size c.loop-at.invariant.put

pub returns : goal.returns
returns c =
    let h = c.loop-at-test.false in
    record {
      lines_put = c.loop-at.invariant.put;
      out_len_bound = λ l. absurd (omega arith);
      same = c.loop-at.invariant.same;
    }
