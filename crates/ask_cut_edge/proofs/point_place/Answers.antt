-- `point_place` meets its contract. Assumes nothing.
use borrow.Author.Rules.{rules}
use borrow.Author.Tests.{eq-eqb, ne_eqb, lt-ltb, le-ltb}
use Prim.Native.Nat.{ℕ, ◌+◌, ◌-◌}
use mathlib.Core.Path.{◌≡◌, refl, sym}
use mathlib.Core.Bool.{Bool, true, false, cond}
use lib.Dec.{eqb, ltb}
use Rattle.ask_cut_edge.specs.Cuts.{point_place}
use Rattle.ask_cut_edge.proofs.point_place.Goals as goal

by : (base m k : ℕ) (x y : Bool) → eqb k 0 ≡ x → ltb m k ≡ y → point_place base m k ≡ cond x 0 (cond y 0 (base + (k - 1)))
by base m k x y ex ey = λ i. cond (ex i) 0 (cond (ey i) 0 (base + (k - 1)))

pub returns-then-k-eq0 : goal.returns-then-k-eq0
returns-then-k-eq0 c =
    let a = c.args in
    sym (by a.base a.m a.k true (ltb a.m a.k) (eq-eqb a.k 0 c.if-k-eq0.true) refl)

pub returns-then-m-k : goal.returns-then-m-k
returns-then-m-k c =
    let a = c.args in
    sym (by a.base a.m a.k false true (ne_eqb a.k 0 c.if-k-eq0.false) (lt-ltb a.m a.k c.if-m-k.true))

pub returns : goal.returns
returns c =
    let a = c.args in
    sym (by a.base a.m a.k false false (ne_eqb a.k 0 c.if-k-eq0.false) (le-ltb a.m a.k c.if-m-k.false))
