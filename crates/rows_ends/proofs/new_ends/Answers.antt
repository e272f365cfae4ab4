-- `new_ends` meets its contract. Assumes nothing.
use borrow.Author.Rules.{rules}
use Prim.Native.Nat.{ℕ, ◌+◌, ◌*◌, ◌-◌, ◌≤◌}
use native.Mathlib.Omega.{arith}
use mathlib.Core.Path.{◌≡◌, subst}
use Rattle.rows_ends.specs.Ends.{NewEnds}
use Rattle.rows_ends.proofs.Ends.{ends_start, ends_turn}
use Rattle.rows_ends.proofs.new_ends.Goals as goal

pub loop-j-init : goal.loop-j-init
loop-j-init c = let a = c.args in (omega arith, ends_start a.side a.at.now a.groups.now a.v a.next a.ends.now)

pub new_end-requires : goal.new_end-requires
new_end-requires c = let h = c.requires in record {
  g_bound = h.small _;
  next_le_ids_end = h.ids;
}

pub loop-j-preserved : goal.loop-j-preserved
loop-j-preserved c =
    let q = c in
    let st = q in
    let l = q.loop-j in
    (omega arith, ends_turn _ _ _ _ _ l.j _ _ l.invariant.1 (omega (arith, st.requires.rows, l.invariant.1.size)) _ c.new_end.ensures)

pub shape_of-ends : goal.shape_of-ends
shape_of-ends c = c.loop-j.invariant.1.size

pub returns : goal.returns
returns c =
    let l = c.loop-j in
    let a = c.args in
    let e : l.j ≡ a.n = let x = l.invariant.0 in let y = c.loop-j-test.false in omega arith in
    subst (λ (n : ℕ). NewEnds a.side a.at.now a.groups.now a.v a.next n a.ends.now l.ends) e l.invariant.1
