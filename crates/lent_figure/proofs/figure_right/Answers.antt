-- `lent_row::figure_right` meets its contract. By the kind in the row. Assumes nothing.
use borrow.Author.Rules.{rules}
use Prim.Native.Nat.{ℕ}
use mathlib.Core.Path.{ap, sym, ◌∙◌}
use mathlib.Core.Bool.{not}
use lib.Dec.{eqb}
use native.Mathlib.Omega.{arith}
use Rattle.sound.proofs.Looking.{row_open, row_loose, row_closed, row_other}
use Rattle.lent_figure.proofs.Testing.{figure_other, figure_vertex}
use Rattle.lent_figure.proofs.figure_right.Goals as goal

pub is_vertex-requires : goal.is_vertex-requires
is_vertex-requires c = let p = c.requires.looked in record {
  table = p.table;
  kinds_len = p.kinds;
}

pub is_vertex-requires-then-is_vertex : goal.is_vertex-requires-then-is_vertex
is_vertex-requires-then-is_vertex c = let p = c.requires.looked in record {
  table = p.table;
  kinds_len = p.kinds;
}

pub returns-then-is_vertex : goal.returns-then-is_vertex
returns-then-is_vertex c bs e =
    let s = c in
    let a = s.args in
    let h = s.requires in
    let k = c.if-k-eq-OPEN.true in
    figure_other a.n a.ids.now a.kinds.now a.starts.now a.ends.now bs a.i a.p h.i_lt_n (λ q. omega (arith, q, k)) _
    (row_open a.n a.ids.now a.kinds.now a.starts.now a.ends.now bs a.i h.i_lt_n k _
    c.is_vertex.ensures c.if-is_vertex.true _ c.is_vertex-then-is_vertex.ensures)

pub returns-then-k-eq-OPEN : goal.returns-then-k-eq-OPEN
returns-then-k-eq-OPEN c bs e =
    let s = c in
    let a = s.args in
    let h = s.requires in
    let k = c.if-k-eq-OPEN.true in
    figure_other a.n a.ids.now a.kinds.now a.starts.now a.ends.now bs a.i a.p h.i_lt_n (λ q. omega (arith, q, k)) _
    (row_loose a.n a.ids.now a.kinds.now a.starts.now a.ends.now bs a.i h.i_lt_n k _ c.is_vertex.ensures c.if-is_vertex.false)

pub returns-then-k-eq-CLOSED : goal.returns-then-k-eq-CLOSED
returns-then-k-eq-CLOSED c bs e =
    let s = c in
    let a = s.args in
    let h = s.requires in
    let k = c.if-k-eq-CLOSED.true in
    figure_other a.n a.ids.now a.kinds.now a.starts.now a.ends.now bs a.i a.p h.i_lt_n (λ q. omega (arith, q, k)) _
    (ap (λ (n : ℕ). not (eqb n 0)) (sym e) ∙ row_closed a.n a.ids.now a.kinds.now a.starts.now a.ends.now bs a.i h.i_lt_n k)

pub returns-then-k-eq-VERTEX : goal.returns-then-k-eq-VERTEX
returns-then-k-eq-VERTEX c bs e =
    let s = c in
    let a = s.args in
    let h = s.requires in
    figure_vertex a.n a.ids.now a.kinds.now a.starts.now a.ends.now bs a.i a.p h.i_lt_n c.if-k-eq-VERTEX.true _
    c.in_bounds.ensures

pub returns : goal.returns
returns c bs e =
    let s = c in
    let a = s.args in
    let h = s.requires in
    figure_other a.n a.ids.now a.kinds.now a.starts.now a.ends.now bs a.i a.p h.i_lt_n c.if-k-eq-VERTEX.false _
    (row_other a.n a.ids.now a.kinds.now a.starts.now a.ends.now bs a.i h.i_lt_n c.if-k-eq-OPEN.false
    c.if-k-eq-CLOSED.false)
