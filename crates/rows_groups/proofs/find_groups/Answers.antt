-- `find_groups` meets its contract. Assumes nothing.
use borrow.Author.Rules.{rules}
use Prim.Native.Nat.{ℕ, ◌-◌, ◌≤◌}
use native.Mathlib.Omega.{arith}
use mathlib.Core.Path.{◌≡◌, refl, sym, subst, ◌∙◌}
use lib.ListN.{length}
use Rattle.rows_groups.specs.Search.{LinksReady, Sorting}
use Rattle.rows_groups.proofs.find_groups.Goals as goal

pub loop-p-init : goal.loop-p-init
loop-p-init c = (omega arith, refl, c.requires.sorting)

pub start_group-g-requires : goal.start_group-g-requires
start_group-g-requires c =
    let q = c in
    let st = q in
    let a = st.args in
    let l = q.loop-p in
    let t = q.loop-p-test.true in
    let h = st.requires.n_in_bounds in
    record {
      links_ready = subst (λ (n : ℕ). LinksReady n a.at.now a.xs.now a.ys.now a.m) (sym l.invariant.1) st.requires.links_ready;
      p_in_bounds = omega arith;
      sorting = l.invariant.2;
    }

pub loop-p-preserved : goal.loop-p-preserved
loop-p-preserved c =
    let y = c in
    let q = y in
    let t = q.loop-p-test.true in
    (omega arith, y.start_group-g.auto.groups ∙ q.loop-p.invariant.1, y.start_group-g.ensures)

pub shape_of-groups : goal.shape_of-groups
shape_of-groups c = c.loop-p.invariant.1

pub returns : goal.returns
returns c =
    let l = c.loop-p in
    let a = c.args in
    let e : l.p ≡ a.n = let x = l.invariant.0 in let y = c.loop-p-test.false in omega arith in
    subst (λ (n : ℕ). Sorting a.at.now a.xs.now a.ys.now a.m n l.g l.groups) e l.invariant.2
