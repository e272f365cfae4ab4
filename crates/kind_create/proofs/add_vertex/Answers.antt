-- `add_vertex` meets its contract: question 3, then 7 and 8, then the vertex in the next row. Assumes nothing.
use Prim.Native.Nat.{ℕ, ◌≤◌}
use mathlib.Core.Path.{◌≡◌, refl, sym, ap, ap₂, ◌∙◌}
use mathlib.Core.Bool.{Bool, true}
use Rattle.coordinate.specs.declared.Position.{Position}
use Rattle.coordinate.specs.Bounds.{within}
use Rattle.complex.specs.Cells.{vertex}
use Rattle.complex.specs.Decode.{create}
use Rattle.complex.proofs.Asked.{out_one, no_3, Passed}
use Rattle.store.specs.View.{sheet_of}
use Rattle.rows_new.specs.Appends.{CellRoom}
use Rattle.answer.specs.declared.Totals.{Totals}
use Rattle.answer.specs.Sizes.{sized, nothing, more_less, changed_by}
use Rattle.answer.specs.Late.{sizes_by, late_no}
use Rattle.answer.proofs.Questions.{all_yes, some_no}
use Rattle.answer.proofs.Asked.{next_in_lem}
use Rattle.ask_create.proofs.Create.{vertex_passed}
use Rattle.lent.specs.Arrays.{Arrays, held_by}
use Rattle.lent.specs.declared.Line.{Line}
use Rattle.lent.specs.declared.Change.{Change}
use Rattle.std.specs.Prelude.{Ok}
use Rattle.lent.specs.Growing.{with_row, with_vertex}
use Rattle.lent.specs.Sheets.{arrays}
use Rattle.lent.specs.Replies.{line_of, line_says, Ready, Obeyed}
use Rattle.lent.proofs.Refusals.{handed_on}
use Rattle.lent.proofs.Grown.{vertex_long, vertex_normal, vertex_comes}
use Rattle.lent.proofs.Sums.{ready_rows, ready_drawing, ready_small, ready_no}
use Rattle.kernel_add.specs.Comes.{one_new}
use Rattle.kernel_add.proofs.Comes.{obeyed_full, came_room, obeyed_came}
use Rattle.kind_create.proofs.add_vertex.Goals as goal

next_most : {a : Arrays} {t : Totals} → Ready a t → a.next ≤ 65536
next_most {a} {t} y = next_in_lem (held_by a) (ready_drawing a t y)

-- b says that p is within bounds, and n is what 7 and 8 say
module _ {a : Arrays} {t : Totals} (y : Ready a t) {p : Position} {b : Bool} (eb : b ≡ within p) (nb : b ≡ true) {n : ℕ}
    (en : n ≡ late_no a.next 1 (changed_by (sizes_by t) (more_less (sized 1 0 0 0) nothing))) where
  passed : Passed (sheet_of (held_by a)) (create (vertex p))
  passed = vertex_passed (held_by a) p (sym eb ∙ nb)

  refused : (n ≡ 0 → ⊥) → (l : Line) → l ≡ line_of n → Obeyed a (create (vertex p)) a l
  refused = obeyed_full a t y (vertex p) passed n en

  module _ (z : n ≡ 0) where
    -- the vertex has room
    room : CellRoom (held_by a) (vertex p)
    room = came_room a t y (vertex p) passed n en z

    obeyed : (o : Arrays) → o ≡ with_vertex a p → (l : Line) → l ≡ one_new a.next → Obeyed a (create (vertex p)) o l
    obeyed =
        obeyed_came a t y (vertex p) passed n en z (with_vertex a p) (vertex_long a y.long p) refl refl
        (vertex_normal a y.long p room.cells (ready_rows a t y)) (vertex_comes a y.long p room)

pub returns-then-not-in_bounds-clause-obeyed : goal.returns-then-not-in_bounds-clause-obeyed
returns-then-not-in_bounds-clause-obeyed c =
    let q = create (vertex c.args.p) in
    ready_no _ c.args.t c.requires q 3 _ refl (no_3 _ q (out_one q c.args.p refl (sym c.in_bounds.ensures ∙ c.if-not-in_bounds.true)))

pub cell_asked-requires-clause-next_le_ids_end : goal.cell_asked-requires-clause-next_le_ids_end
cell_asked-requires-clause-next_le_ids_end c = next_most c.requires

pub cell_asked-requires-clause-small : goal.cell_asked-requires-clause-small
cell_asked-requires-clause-small c = ready_small _ _ c.requires

pub returns-in_err-cell_asked-clause-obeyed : goal.returns-in_err-cell_asked-clause-obeyed
returns-in_err-cell_asked-clause-obeyed c =
    refused c.requires c.in_bounds.ensures c.if-not-in_bounds.false c.cell_asked.ensures (some_no c.in_err-cell_asked.was) _
    (handed_on _ c.in_err-cell_asked.was c.from_residual.ensures)

pub returns-clause-obeyed : goal.returns-clause-obeyed
returns-clause-obeyed c =
    let x = c.put_position.ensures in
    obeyed c.requires c.in_bounds.ensures c.if-not-in_bounds.false c.cell_asked.ensures (all_yes c.in_ok-cell_asked.was) _
    (c.add_row.ensures.added ∙ ap₂ (with_row (arrays c.args.sheet.now) 0 0 0 0 0) x.px_after x.py_after) _ (ap (λ (u : Change). line_says (Ok u)) c.add_row.ensures.value)
