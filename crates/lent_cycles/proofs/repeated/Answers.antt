-- `lent_cycles::repeated` meets its contract. The loop keeps: the whole test is the test of the steps left. Assumes nothing.
use borrow.Author.Rules.{rules}
use Prim.Native.Nat.{◌≤◌, ◌-◌}
use mathlib.Core.Path.{sym, ◌∙◌}
use native.Mathlib.Omega.{arith}
use lib.Dec.{eqb}
use lib.ListN.{drop}
use borrow.Author.Tests.{eq-eqb, ne_eqb}
use Rattle.sound.proofs.Testing.{Testing, testing_start, testing_turn, testing_fail, testing_end}
use Rattle.sound.proofs.Walking.{room, step_at}
use Rattle.lent_cycles.proofs.repeated.Goals as goal

pub loop-i-init : goal.loop-i-init
loop-i-init c = (omega arith, testing_start _ _ _)

pub returns-then-s-t : goal.returns-then-s-t
returns-then-s-t c =
    let at = c in
    let a = at.args in
    sym (testing_fail (eqb a.s) (drop a.from a.steps.now) a.m at.loop-i.i 0 (room a.steps.now a.from a.m (omega arith)) (omega arith)
    at.loop-i.invariant.1
    (ne_eqb a.s _ (λ u. c.if-s-t.true (u ∙ sym (step_at a.steps.now a.from at.loop-i.i)))))

pub loop-i-preserved : goal.loop-i-preserved
loop-i-preserved c =
    let at = c in
    let a = at.args in (
      omega arith,
      testing_turn (eqb a.s) (drop a.from a.steps.now) a.m at.loop-i.i 0 (room a.steps.now a.from a.m (omega arith)) (omega arith)
          at.loop-i.invariant.1
          (eq-eqb a.s _ (c.if-s-t.false ∙ step_at a.steps.now a.from at.loop-i.i)),
    )

pub returns : goal.returns
returns c =
    let at = c in
    let a = at.args in
    sym (testing_end (eqb a.s) (drop a.from a.steps.now) a.m at.loop-i.i (room a.steps.now a.from a.m (omega arith)) (omega arith)
    at.loop-i.invariant.1)
