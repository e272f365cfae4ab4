-- `start_group` meets its contract. Assumes nothing.
use borrow.Author.Rules.{rules}
use borrow.Author.Tests.{not-true, not-false}
use Prim.Native.Nat.{ℕ, ◌+◌}
use native.Mathlib.Omega.{arith}
use mathlib.Core.Path.{sym, subst, ◌∙◌}
use mathlib.Core.Bool.{true≢false}
use lib.ListN.{length-set}
use Rattle.rows_groups.specs.Search.{Links}
use Rattle.rows_groups.proofs.Search.{sorting_skip, sorting_new}
use Rattle.rows_groups.proofs.start_group.Goals as goal

pub returns-then-not-at-p : goal.returns-then-not-at-p
returns-then-not-at-p c =
    sorting_skip _ _ _ _ _ _ _ c.requires.sorting
    (λ e. absurd (true≢false (sym e ∙ c.if-not-at-p.true)))

pub returns-then-groups-p-ne0 : goal.returns-then-groups-p-ne0
returns-then-groups-p-ne0 c = sorting_skip _ _ _ _ _ _ _ c.requires.sorting (λ e. c.if-groups-p-ne0.true)

pub reach-requires : goal.reach-requires
reach-requires c =
    let st = c in
    let a = st.args in
    subst (λ (n : ℕ). Links n a.xs.now a.ys.now a.m) (sym (length-set a.groups.now a.p (a.g + 1))) st.requires.links_ready.links

pub returns : goal.returns
returns c =
    let q = c in
    let p = q.requires in
    sorting_new _ _ _ _ _ _ _ p.sorting (q.if-not-at-p.false) q.if-groups-p-ne0.false (omega (arith, p.links_ready.marks, p.p_in_bounds)) _
    c.reach.ensures
