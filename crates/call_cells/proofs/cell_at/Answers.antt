-- `cell_at` meets its contract, kind by kind. Assumes nothing.
use borrow.Author.Rules.{rules}
use Prim.Native.Nat.{ℕ, ◌<◌}
use mathlib.Core.Path.{◌≡◌}
use mathlib.Core.List.{List}
use native.Mathlib.Omega.{arith}
use lib.ListN.{length}
use Rattle.complex.specs.Sound.{cells_most}
use Rattle.call_cells.proofs.Rows.{vertex_told, open_told, closed_told, face_told}
use Rattle.call_cells.proofs.cell_at.Goals as goal

within : (row : ℕ) (ids : List ℕ) → row < cells_most → length ids ≡ cells_most → row < length ids
within row ids h l = omega arith

pub returns-then-kind-eq0 : goal.returns-then-kind-eq0
returns-then-kind-eq0 c =
    let s = c in
    let a = s.args in
    vertex_told a.view.now.ids.now a.view.now.kinds.now a.view.now.starts.now a.view.now.ends.now a.view.now.bends.now a.view.now.counts.now a.view.now.px.now a.view.now.py.now a.row (within _ _ s.requires.row_lt_cells_most s.requires.ids_len)
    c.if-kind-eq0.true _ c.vertex_at-p.ensures

pub returns-then-kind-eq1 : goal.returns-then-kind-eq1
returns-then-kind-eq1 c =
    let e = c in
    let s = e in
    let a = s.args in
    open_told a.view.now.ids.now a.view.now.kinds.now a.view.now.starts.now a.view.now.ends.now a.view.now.bends.now a.view.now.counts.now a.view.now.px.now a.view.now.py.now a.row (within _ _ s.requires.row_lt_cells_most s.requires.ids_len)
    e.if-kind-eq1.true

pub returns-then-kind-eq2 : goal.returns-then-kind-eq2
returns-then-kind-eq2 c =
    let e = c in
    let s = e in
    let a = s.args in
    closed_told a.view.now.ids.now a.view.now.kinds.now a.view.now.starts.now a.view.now.ends.now a.view.now.bends.now a.view.now.counts.now a.view.now.px.now a.view.now.py.now a.row (within _ _ s.requires.row_lt_cells_most s.requires.ids_len)
    e.if-kind-eq2.true

pub returns : goal.returns
returns c =
    let e = c in
    let s = e in
    let a = s.args in
    face_told a.view.now.ids.now a.view.now.kinds.now a.view.now.starts.now a.view.now.ends.now a.view.now.bends.now a.view.now.counts.now a.view.now.px.now a.view.now.py.now a.row (within _ _ s.requires.row_lt_cells_most s.requires.ids_len)
    e.if-kind-eq0.false e.if-kind-eq1.false e.if-kind-eq2.false
