-- `open_place` meets its contract. Assumes nothing.
use borrow.Author.Rules.{rules}
use borrow.Author.Tests.{eq-eqb, ne_eqb}
use Prim.Native.Nat.{ℕ, ◌+◌, ◌/◌, ◌%◌}
use mathlib.Core.Path.{◌≡◌, sym, ◌∙◌}
use mathlib.Core.Bool.{Bool, true, false, cond}
use lib.Dec.{eqb}
use Rattle.coordinate.specs.declared.Position.{Position}
use Rattle.coordinate.specs.Bounds.{middle}
use Rattle.ask_cut_edge.specs.Cuts.{point_of, open_between}
use Rattle.ask_cut_edge.proofs.open_place.Goals as goal

by : (pa pb o p : Position) (m q : ℕ) (x : Bool) → eqb (q % 2) 1 ≡ x
    → open_between pa pb o p m q ≡ cond x p (middle (point_of pa pb o m (q / 2)) (point_of pa pb p m (q / 2 + 1)))
by pa pb o p m q x e = λ i. cond (e i) p (middle (point_of pa pb o m (q / 2)) (point_of pa pb p m (q / 2 + 1)))

pub returns-then-q-eq1 : goal.returns-then-q-eq1
returns-then-q-eq1 c =
    let a = c.args in
    sym (by a.a a.b a.o a.p a.m a.q true (eq-eqb (a.q % 2) 1 c.if-q-eq1.true))

pub returns : goal.returns
returns c =
    let p2 = c in
    let p1 = p2 in
    let el = p1 in
    let a = el.args in
    let u = p1.open_point-s.ensures in
    let v = p2.open_point-f.ensures in
    c.midpoint.ensures ∙ (λ i. middle (u i) (v i))
    ∙ sym (by a.a a.b a.o a.p a.m a.q false (ne_eqb (a.q % 2) 1 el.if-q-eq1.false))
