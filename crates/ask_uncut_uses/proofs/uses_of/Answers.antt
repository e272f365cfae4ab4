-- `uses_of` meets its contract. The loop keeps: the uses of the rows left are to be added. Assumes nothing.
use Prim.Native.Nat.{◌≤◌, ◌-◌, ◌+◌}
use mathlib.Core.Path.{ap, ◌∙◌}
use native.Mathlib.Omega.{arith}
use lib.ListN.{take, drop}
use Rattle.store.specs.View.{width_sum}
use Rattle.ask_uncut_uses.specs.declared.Past.{Past}
use Rattle.ask_uncut_uses.proofs.Using.{Rowing, rowing_start, rowing_cycles, rowing_places, rowing_turn, rowing_skip, rowing_end}
use Rattle.ask_uncut_uses.proofs.uses_of.Goals.{then-k-gt0, else-k-gt0}
use Rattle.ask_uncut_uses.proofs.uses_of.Goals as goal

pub loop-i-init : goal.loop-i-init
loop-i-init c =
    let a = c.args in (omega arith, rowing_start a.e a.n a.ids.now a.counts.now a.pool.now a.steps.now _ c.no_uses-x.ensures)

-- the row's cycles and their steps stand in the arrays
pub face_uses-p-requires : goal.face_uses-p-requires
face_uses-p-requires c =
    let a = c.args in
    let l = c.loop-i in
    let k = rowing_cycles a.e a.n a.ids.now a.counts.now a.pool.now a.steps.now c.requires l.x l.c0 l.from l.i c.loop-i-test.true l.invariant.1
    c.wide-k.result c.wide-k.ensures in
    let w = rowing_places a.e a.n a.ids.now a.counts.now a.pool.now a.steps.now c.requires l.x l.c0 l.from l.i c.loop-i-test.true l.invariant.1
    c.wide-k.result c.wide-k.ensures in
    record { cycles_len = c.requires.cycles; k_bound = k; steps_len = c.requires.steps; cycles_bound = w }

pub overflow_add-c0 : goal.overflow_add-c0
overflow_add-c0 c =
    let a = c.args in
    let l = c.loop-i in
    let k = rowing_cycles a.e a.n a.ids.now a.counts.now a.pool.now a.steps.now c.requires l.x l.c0 l.from l.i c.loop-i-test.true l.invariant.1
    c.wide-k.result c.wide-k.ensures in
    record { fits = omega (arith, k) }

pub loop-i-preserved : goal.loop-i-preserved
loop-i-preserved c =
    let w = c in
    let turn = w in
    let at = turn in
    let s = at in
    let a = s.args in
    let l = at.loop-i in
    let k = w.wide-k in
    let h = turn.loop-i-test.true in (
      omega (arith, h),
      elim c.if-k-gt0.branch [
        | then-k-gt0 g ↦
            rowing_turn a.e a.n a.ids.now a.counts.now a.pool.now a.steps.now s.requires l.x l.c0 l.from l.i h l.invariant.1 _
            k.ensures
            c.if-k-gt0.x (g.x-is ∙ ap (λ (p : Past). p.uses) g.face_uses-p.ensures) c.if-k-gt0.c0 c.if-k-gt0.from g.c0-is
            (g.from-is ∙ ap (λ (p : Past). p.place) g.face_uses-p.ensures)
        | else-k-gt0 g ↦ rw (g.x-is, g.c0-is, g.from-is)
            (rowing_skip a.e a.n a.ids.now a.counts.now a.pool.now a.steps.now s.requires l.x l.c0 l.from l.i h l.invariant.1 _
            k.ensures (omega (arith, g.if-k-gt0.false)))
      ],
    )

pub returns : goal.returns
returns c =
    let at = c in
    let s = at in
    let a = s.args in
    let l = at.loop-i in
    rowing_end a.e a.n a.ids.now a.counts.now a.pool.now a.steps.now s.requires l.x l.c0 l.from l.i (omega arith) l.invariant.1
