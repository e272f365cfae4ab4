-- `open_point` meets its contract. Assumes nothing.
use borrow.Author.Tests.{eq-eqb, ne_eqb, lt-ltb, le-ltb}
use Prim.Native.Nat.{ℕ}
use mathlib.Core.Path.{◌≡◌, refl, sym}
use mathlib.Core.Bool.{Bool, true, false, cond}
use lib.Dec.{eqb, ltb}
use Rattle.coordinate.specs.declared.Position.{Position}
use Rattle.ask_cut_edge.specs.Cuts.{point_of}
use Rattle.ask_cut_edge.proofs.open_point.Goals as goal

by : (pa pb p : Position) (m k : ℕ) (x y : Bool) → eqb k 0 ≡ x → ltb m k ≡ y → point_of pa pb p m k ≡ cond x pa (cond y pb p)
by pa pb p m k x y ex ey = λ i. cond (ex i) pa (cond (ey i) pb p)

pub returns-then-k-eq0 : goal.returns-then-k-eq0
returns-then-k-eq0 c =
    let a = c.args in
    sym (by a.a a.b a.p a.m a.k true (ltb a.m a.k) (eq-eqb a.k 0 c.if-k-eq0.true) refl)

pub returns-then-m-k : goal.returns-then-m-k
returns-then-m-k c =
    let a = c.args in
    sym (by a.a a.b a.p a.m a.k false true (ne_eqb a.k 0 c.if-k-eq0.false) (lt-ltb a.m a.k c.if-m-k.true))

pub returns : goal.returns
returns c =
    let a = c.args in
    sym (by a.a a.b a.p a.m a.k false false (ne_eqb a.k 0 c.if-k-eq0.false) (le-ltb a.m a.k c.if-m-k.false))
