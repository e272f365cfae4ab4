-- `edges_at` meets its contract. Assumes nothing.
use borrow.Author.Rules.{rules}
use Prim.Native.Nat.{◌≤◌, ◌-◌}
use mathlib.Core.Path.{◌≡◌, refl}
use native.Mathlib.Omega.{arith}
use Rattle.rows_marks.proofs.Marking.{EdgesMarked, edges_turn}
use Rattle.rows_marks.proofs.edges_at.Goals as goal

pub loop-i-init : goal.loop-i-init
loop-i-init c = (omega arith, record { size = c.requires.marks_len; told = refl })

pub loop-i-preserved : goal.loop-i-preserved
loop-i-preserved c =
    let at = c in
    (omega arith, edges_turn at.loop-i.invariant.1 (omega arith) (omega arith) (omega arith) (omega arith) _ c.ends_at.ensures)

pub returns : goal.returns
returns c =
    let v = c.loop-i.invariant.1 in
    let e : c.loop-i.i ≡ c.args.n = omega arith in
    record {
      marks_after = rw e at v.told;
      marks_len_2 = v.size;
    }
