-- `flag_ids` meets its contract. Assumes nothing.
use Prim.Native.Nat.{◌≤◌, ◌-◌}
use mathlib.Core.Path.{◌≡◌}
use native.Mathlib.Omega.{arith}
use Rattle.rows_marks.proofs.Faces.{Flagging, flagging_put, flagging_skip, sought}
use Rattle.rows_marks.proofs.flag_ids.Goals.{then-marks-i, else-marks-i}
use Rattle.rows_marks.proofs.flag_ids.Goals as goal

pub loop-i-init : goal.loop-i-init
loop-i-init c = (omega arith, record { size = c.requires.flags_len; marked = λ j h. absurd (omega arith) })

pub bounds-flags-at : goal.bounds-flags-at
bounds-flags-at c = let p = c.loop-i.invariant.1.size in omega (arith, c.wide-at.ensures, p)

pub loop-i-preserved : goal.loop-i-preserved
loop-i-preserved c =
    let a = c.args in
    let l = c.loop-i in
    let p = l.invariant.1 in (
      omega arith,
      elim c.if-marks-i.branch [
        | then-marks-i w ↦ rw w.flags-is (flagging_put a.ids.now a.marks.now l.i l.flags p _ w.wide-at.ensures (omega (arith, w.wide-at.ensures)))
        | else-marks-i w ↦ rw w.flags-is (flagging_skip a.ids.now a.marks.now l.i l.flags p w.if-marks-i.false)
      ],
    )

pub returns : goal.returns
returns c =
    let at = c in
    let s = at in
    let a = s.args in
    let e : at.loop-i.i ≡ a.n = omega arith in
    sought a.ids.now a.marks.now a.n _ s.requires.n_le_cells_most s.requires.ids_len s.requires.marks_len s.requires.rising (rw e at at.loop-i.invariant.1)
