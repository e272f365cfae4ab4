-- `lent_row::row_normal` meets its contract. One number after another. Assumes nothing.
use Rattle.lent_figure.proofs.Testing.{normal_open, normal_start, normal_end, normal_closed, normal_bends, normal_face, normal_vertex, normal_none}
use Rattle.lent_figure.proofs.row_normal.Goals as goal

pub returns-then-k-eq-OPEN : goal.returns-then-k-eq-OPEN
returns-then-k-eq-OPEN c =
    let a = c.args in
    normal_open a.k a.s a.e a.b a.c c.if-k-eq-OPEN.true

pub returns-then-s-ne0 : goal.returns-then-s-ne0
returns-then-s-ne0 c =
    let a = c.args in
    normal_start a.k a.s a.e a.b a.c c.if-k-eq-OPEN.false c.if-s-ne0.true

pub returns-then-e-ne0 : goal.returns-then-e-ne0
returns-then-e-ne0 c =
    let a = c.args in
    normal_end a.k a.s a.e a.b a.c c.if-k-eq-OPEN.false c.if-s-ne0.false c.if-e-ne0.true

pub returns-then-k-eq-CLOSED : goal.returns-then-k-eq-CLOSED
returns-then-k-eq-CLOSED c =
    let a = c.args in
    normal_closed a.k a.s a.e a.b a.c c.if-k-eq-OPEN.false c.if-s-ne0.false c.if-e-ne0.false
    c.if-k-eq-CLOSED.true

pub returns-then-b-ne0 : goal.returns-then-b-ne0
returns-then-b-ne0 c =
    let a = c.args in
    normal_bends a.k a.s a.e a.b a.c c.if-k-eq-OPEN.false c.if-s-ne0.false
    c.if-e-ne0.false c.if-k-eq-CLOSED.false c.if-b-ne0.true

pub returns-then-k-eq-FACE : goal.returns-then-k-eq-FACE
returns-then-k-eq-FACE c =
    let a = c.args in
    let b = c in
    normal_face a.k a.s a.e a.b a.c b.if-k-eq-OPEN.false b.if-s-ne0.false
    b.if-e-ne0.false b.if-k-eq-CLOSED.false b.if-b-ne0.false c.if-k-eq-FACE.true

pub returns-then-k-eq-VERTEX : goal.returns-then-k-eq-VERTEX
returns-then-k-eq-VERTEX c =
    let a = c.args in
    let b = c in
    normal_vertex a.k a.s a.e a.b a.c b.if-k-eq-OPEN.false b.if-s-ne0.false
    b.if-e-ne0.false b.if-k-eq-CLOSED.false b.if-b-ne0.false c.if-k-eq-FACE.false c.if-k-eq-VERTEX.true

pub returns : goal.returns
returns c =
    let a = c.args in
    let b = c in
    normal_none a.k a.s a.e a.b a.c b.if-k-eq-OPEN.false b.if-s-ne0.false
    b.if-e-ne0.false b.if-k-eq-CLOSED.false b.if-b-ne0.false c.if-k-eq-FACE.false c.if-k-eq-VERTEX.false
