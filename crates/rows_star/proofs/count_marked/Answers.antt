-- `rows_star::count_marked` meets its contract. Assumes nothing.
use lib.ListN.{take, get_or}
use borrow.Author.Rules.{rules}
use Prim.Native.Nat.{◌≤◌, ◌-◌}
use mathlib.Core.Path.{◌≡◌}
use mathlib.Core.Bool.{false}
use native.Mathlib.Omega.{arith}
use Rattle.complex.specs.Lists.{total}
use Rattle.store.specs.Places.{bit}
use Rattle.rows_marks.proofs.Marking.{sum_on}
use Rattle.rows_star.proofs.Marking.{bit_most, one_is}
use Rattle.rows_star.proofs.count_marked.Goals as goal

pub overflow_add-sum : goal.overflow_add-sum
overflow_add-sum c =
    let at = c in
    let m = bit_most (get_or at.args.marks.now at.loop-i.i false) in
    record { fits = omega (arith, m, one_is (get_or at.args.marks.now at.loop-i.i false), at.loop-i.invariant) }

pub loop-i-preserved : goal.loop-i-preserved
loop-i-preserved c =
    let at = c in
    let a = at.args in
    let m = bit_most (get_or a.marks.now at.loop-i.i false) in (
      omega arith,
      omega (arith, m, one_is (get_or a.marks.now at.loop-i.i false), at.loop-i.invariant),
      sum_on bit a.marks.now a.n at.loop-i.i false (omega arith) (omega
          arith) at.loop-i.sum at.loop-i.invariant.2 _ (one_is _),
    )

pub returns : goal.returns
returns c =
    let at = c in
    let e : at.loop-i.i ≡ at.args.n = omega arith in
    rw e at at.loop-i.invariant.2
