-- `lone_named` meets its contract. Assumes nothing.
use borrow.Author.Rules.{rules}
use borrow.Author.Tests.{eq-eqb, ne_eqb}
use lib.ListN.{take}
use Rattle.script.proofs.Steps.{field_reaches}
use Rattle.ask_face_named.proofs.Walking.{lone_is}
use Rattle.ask_face_named.proofs.lone_named.Goals as goal

pub returns-then-kind-eq0 : goal.returns-then-kind-eq0
returns-then-kind-eq0 c =
    let f = c.take_number-taken.ensures in
    let a = c.args in
    let e = lone_is (take a.n a.ids.now) (take a.n a.kinds.now) f c.value_at-kind.ensures (eq-eqb _ 0 c.if-kind-eq0.true) in
    record { says = (e, field_reaches f) }

pub returns : goal.returns
returns c =
    let a = c.args in
    let f = c.take_number-taken.ensures in
    record { says = lone_is (take a.n a.ids.now) (take a.n a.kinds.now) f c.value_at-kind.ensures (ne_eqb _ 0 c.if-kind-eq0.false) }
