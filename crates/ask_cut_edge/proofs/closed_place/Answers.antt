-- `closed_place` meets its contract. Assumes nothing.
use borrow.Author.Rules.{rules}
use borrow.Author.Tests.{eq-eqb, ne_eqb}
use Prim.Native.Nat.{ℕ, ◌%◌}
use mathlib.Core.Path.{◌≡◌, sym, ◌∙◌}
use mathlib.Core.Bool.{Bool, true, false, cond}
use lib.Dec.{eqb}
use Rattle.coordinate.specs.declared.Position.{Position}
use Rattle.coordinate.specs.Bounds.{middle}
use Rattle.ask_cut_edge.specs.Cuts.{closed_between}
use Rattle.ask_cut_edge.proofs.closed_place.Goals as goal

by : (p o : Position) (q : ℕ) (x : Bool) → eqb (q % 2) 1 ≡ x → closed_between p o q ≡ cond x p (middle p o)
by p o q x e = λ i. cond (e i) p (middle p o)

pub returns-then-q-eq1 : goal.returns-then-q-eq1
returns-then-q-eq1 c =
    let a = c.args in
    sym (by a.p a.o a.q true (eq-eqb (a.q % 2) 1 c.if-q-eq1.true))

pub returns : goal.returns
returns c =
    let el = c in
    let a = el.args in
    c.midpoint.ensures ∙ sym (by a.p a.o a.q false (ne_eqb (a.q % 2) 1 el.if-q-eq1.false))
