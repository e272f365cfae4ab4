-- `copy_run` meets its contract. Assumes nothing.
use borrow.Author.Rules.{rules}
use Prim.Native.Nat.{◌≤◌, ◌-◌}
use mathlib.Core.Path.{◌≡◌}
use native.Mathlib.Omega.{arith}
use Rattle.rows_copied.proofs.Runs.{Running, running_start, running_turn}
use Rattle.rows_copied.proofs.copy_run.Goals as goal

pub loop-j-init : goal.loop-j-init
loop-j-init c = (omega arith, running_start _ _ _ _ _)

pub loop-j-preserved : goal.loop-j-preserved
loop-j-preserved c =
    let at = c in
    let a = at.args in (
      omega arith,
      running_turn a.each a.i a.next a.k0 a.l.now at.loop-j.j at.loop-j.k at.loop-j.l _ _ (omega
          arith) at.loop-j.invariant.1 c.copy_word.ensures c.next_use-k.ensures,
    )

pub shape_of-l : goal.shape_of-l
shape_of-l c = c.loop-j.invariant.1.size

pub returns : goal.returns
returns c =
    let at = c in
    let e : at.loop-j.j ≡ at.args.n = omega arith in
    record {
      l_after = rw e at at.loop-j.invariant.1.front;
      l_unchanged = rw e at at.loop-j.invariant.1.rest;
    }
