-- `mark_ends` meets its contract. Assumes nothing.
use borrow.Author.Rules.{rules}
use Prim.Native.Nat.{ℕ, ◌+◌, ◌*◌, ◌-◌, ◌≤◌}
use native.Mathlib.Omega.{arith}
use mathlib.Core.Path.{◌≡◌, refl, subst, ◌∙◌}
use lib.ListN.{length, length-set}
use Rattle.rows_ends.specs.Ends.{EndMarks}
use Rattle.rows_ends.proofs.Ends.{marks_turn}
use Rattle.rows_ends.proofs.mark_ends.Goals as goal

pub loop-j-init : goal.loop-j-init
loop-j-init c = (omega arith, refl, c.requires.end_marks)

pub bounds-at-j-in-loop-j : goal.bounds-at-j-in-loop-j
bounds-at-j-in-loop-j c = simp length-set (omega arith)

pub loop-j-preserved : goal.loop-j-preserved
loop-j-preserved c =
    let q = c in
    let l = q.loop-j in
    let st = q in (
      omega arith,
      simp length-set l.invariant.1,
      marks_turn _ _ _ _ l.j l.at l.invariant.2 (omega (arith, st.requires.n_in_bounds_4, l.invariant.1)) _ _
          c.is_end.ensures c.is_end-in-loop-j.ensures,
    )

pub shape_of-at : goal.shape_of-at
shape_of-at c = c.loop-j.invariant.1

pub returns : goal.returns
returns c =
    let l = c.loop-j in
    let a = c.args in
    let e : l.j ≡ a.n = let x = l.invariant.0 in let y = c.loop-j-test.false in omega arith in
    subst (λ (n : ℕ). EndMarks a.kinds.now a.starts.now a.ends.now a.v n l.at) e l.invariant.2
