-- `move_vertex` meets its contract: questions 3 and 4, then the vertex at its new place. Assumes nothing.
use borrow.Author.Tests.{ne_eqb}
use mathlib.Core.Path.{refl, sym, ◌∙◌}
use Rattle.complex.specs.Decode.{move}
use Rattle.complex.proofs.Asked.{early_one, out_one, no_3, no_4}
use Rattle.answer.proofs.Asked.{kind_vertex}
use Rattle.law_move_delete.proofs.Edit.{move_four}
use Rattle.lent.specs.Sheets.{arrays}
use Rattle.lent.proofs.Replies.{obeyed_no}
use Rattle.lent.proofs.Sums.{ready_sizes, ready_drawing, ready_indexes, ready_looks}
use Rattle.kind_move.proofs.Move.{obeyed_moved}
use Rattle.kind_move.proofs.move_vertex.Goals as goal

pub returns-then-not-in_bounds-clause-obeyed : goal.returns-then-not-in_bounds-clause-obeyed
returns-then-not-in_bounds-clause-obeyed c =
    let q = move c.args.v c.args.p in
    obeyed_no (arrays c.args.sheet.now) c.requires.sound q 3 _ refl (no_3 _ q (out_one q c.args.p refl (sym c.in_bounds.ensures ∙ c.if-not-in_bounds.true)))

pub value_at-kind-requires-clause-rising : goal.value_at-kind-requires-clause-rising
value_at-kind-requires-clause-rising c = (ready_looks _ _ c.requires).rising

pub returns-then-kind-ne0-clause-obeyed : goal.returns-then-kind-ne0-clause-obeyed
returns-then-kind-ne0-clause-obeyed c =
    let a = arrays c.args.sheet.now in
    let t = c.args.t in
    let r = c.requires in
    let q = move c.args.v c.args.p in
    obeyed_no a r.sound q 4 _ refl
    (no_4 _ q (early_one q c.args.p refl (sym c.in_bounds.ensures ∙ c.if-not-in_bounds.false))
    (move_four _ c.args.v c.args.p
    (sym (kind_vertex _ (ready_sizes a t r) (ready_drawing a t r) _ (ready_indexes a t r) c.args.v c.value_at-kind.result c.value_at-kind.ensures)
    ∙ ne_eqb _ 0 c.if-kind-ne0.true)))

pub find-row-requires-clause-rising : goal.find-row-requires-clause-rising
find-row-requires-clause-rising c = (ready_looks _ _ c.requires).rising

pub returns-clause-obeyed : goal.returns-clause-obeyed
returns-clause-obeyed c =
    let w = c.put_position in
    obeyed_moved (arrays c.args.sheet.now) c.requires.long c.requires.sound c.args.v c.args.p c.value_at-kind.result c.find-row.result c.value_at-kind.ensures
    c.if-kind-ne0.false c.find-row.ensures (sym c.in_bounds.ensures ∙ c.if-not-in_bounds.false) w.new.px w.new.py w.ensures.px_after w.ensures.py_after _ refl
