-- `rows_star::list_marked` meets its contract. Assumes nothing.
use borrow.Author.Rules.{rules}
use Prim.Native.Nat.{◌≤◌, ◌-◌}
use mathlib.Core.Path.{◌≡◌, refl, ◌∙◌}
use mathlib.Core.Bool.{false}
use native.Mathlib.Omega.{arith}
use lib.ListN.{length, get_or}
use Rattle.store.specs.Places.{bit}
use Rattle.rows_marks.proofs.Marking.{sum_within}
use Rattle.rows_star.proofs.Marking.{one_is, Picking, picking_turn}
use Rattle.rows_star.proofs.list_marked.Goals as goal

pub loop-i-init : goal.loop-i-init
loop-i-init c = (omega arith, refl, record { count = refl; whole = refl })

pub put_if-requires : goal.put_if-requires
put_if-requires c =
    let at = c in
    let s = at in
    let a = s.args in
    let w = sum_within bit a.marks.now a.n at.loop-i.i false (omega arith) (omega arith) at.loop-i.at at.loop-i.invariant.2.count _ refl in
    omega (arith, w, s.requires.marks_in_bounds, at.loop-i.invariant.1)

pub overflow_add-at : goal.overflow_add-at
overflow_add-at c =
    let at = c in
    let s = at in
    let a = s.args in
    let w = sum_within bit a.marks.now a.n at.loop-i.i false (omega arith) (omega arith) at.loop-i.at at.loop-i.invariant.2.count _
    (one_is _) in
    record { fits = omega (arith, w, s.requires.marks_in_bounds, s.well_formed) }

pub loop-i-preserved : goal.loop-i-preserved
loop-i-preserved c =
    let at = c in
    let s = at in
    let a = s.args in
    let i = at.loop-i.i in
    let e = one_is (get_or a.marks.now i false) in
    let w = sum_within bit a.marks.now a.n i false (omega arith) (omega arith) at.loop-i.at at.loop-i.invariant.2.count _ e in (
      omega arith,
      c.put_if.auto.out ∙ at.loop-i.invariant.1,
      picking_turn a.marks.now a.ids.now a.out.now i at.loop-i.at at.loop-i.out false 0 (omega arith) (omega arith)
          at.loop-i.invariant.2 _ refl _ e (omega (arith, w, s.requires.marks_in_bounds)) _
          c.put_if.ensures,
    )

pub returns : goal.returns
returns c =
    let at = c in
    let e : at.loop-i.i ≡ at.args.n = omega arith in
    let p = rw e at at.loop-i.invariant.2 in
    p.whole ∙ rw p.count
