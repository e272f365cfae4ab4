-- `add_edge` meets its contract: questions 7 and 8, then the bends and the row. Assumes nothing.
use Prim.Native.Nat.{◌≤◌}
use mathlib.Core.Path.{ap}
use Rattle.std.specs.Prelude.{Ok}
use Rattle.bends.specs.Bends.{positions_at}
use Rattle.bends.proofs.Laws.{positions_length}
use Rattle.answer.specs.declared.Totals.{Totals}
use Rattle.answer.proofs.Asked.{next_in_lem}
use Rattle.lent.specs.Arrays.{Arrays, held_by}
use Rattle.lent.specs.declared.Change.{Change}
use Rattle.lent.specs.Replies.{line_says, Ready}
use Rattle.lent.proofs.Sums.{ready_drawing, ready_small}
use Rattle.kind_create.proofs.Edges.{edge_full, edge_obeyed}
use Rattle.answer.proofs.Questions.{all_yes, some_no}
use Rattle.lent.proofs.Refusals.{handed_on}
use Rattle.kind_create.proofs.add_edge.Goals as goal

next_most : {a : Arrays} {t : Totals} → Ready a t → a.next ≤ 65536
next_most {a} {t} y = next_in_lem (held_by a) (ready_drawing a t y)

pub cell_asked-requires-clause-next_le_ids_end : goal.cell_asked-requires-clause-next_le_ids_end
cell_asked-requires-clause-next_le_ids_end c = next_most c.requires.ready

pub cell_asked-requires-clause-small : goal.cell_asked-requires-clause-small
cell_asked-requires-clause-small c = ready_small _ _ c.requires.ready

pub returns-in_err-cell_asked-clause-obeyed : goal.returns-in_err-cell_asked-clause-obeyed
returns-in_err-cell_asked-clause-obeyed c =
    let a = c.args in
    edge_full _ a.t c.requires.ready (positions_at a.script.now a.first a.k) a.k (positions_length a.script.now a.first a.k) c.wide.result c.wide.ensures
    _ c.cell_asked.ensures c.requires.row c.requires.passed (some_no c.in_err-cell_asked.was) _ (handed_on _ c.in_err-cell_asked.was c.from_residual.ensures)

pub returns-clause-obeyed : goal.returns-clause-obeyed
returns-clause-obeyed c =
    let a = c.args in
    edge_obeyed _ a.t c.requires.ready (positions_at a.script.now a.first a.k) a.k (positions_length a.script.now a.first a.k) c.wide.result c.wide.ensures
    _ c.cell_asked.ensures (all_yes c.in_ok-cell_asked.was) c.put_bends.new.bx c.put_bends.new.by c.put_bends.ensures c.requires.row c.requires.passed _
    c.add_row.ensures.added _ (ap (λ (u : Change). line_says (Ok u)) c.add_row.ensures.value)
