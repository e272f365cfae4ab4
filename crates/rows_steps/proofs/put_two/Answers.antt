-- `rows_steps::put_two` meets its contract. Assumes nothing.
use borrow.Author.Rules.{rules}
use mathlib.Core.Path.{◌≡◌}
use native.Mathlib.Omega.{arith}
use lib.ListN.{length-set}
use Rattle.rows_steps.proofs.Writing.{wrote_none, wrote_one, wrote_two}
use Rattle.rows_steps.proofs.put_two.Goals as goal

pub returns-then-n-eq0 : goal.returns-then-n-eq0
returns-then-n-eq0 c = rw c.if-n-eq0.true (wrote_none _ _)

pub returns-then-n-eq1 : goal.returns-then-n-eq1
returns-then-n-eq1 c = rw c.if-n-eq1.true (wrote_one _ _ _ (omega arith))

pub bounds-out-at-2 : goal.bounds-out-at-2
bounds-out-at-2 c = omega (arith, length-set c.args.out.now c.args.at c.args.a)

pub returns : goal.returns
returns c = let e : c.args.n ≡ 2 = omega arith in rw e (wrote_two _ _ _ _ (omega arith))
