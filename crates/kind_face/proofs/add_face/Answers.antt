-- `add_face` meets its contract: questions 4 and 6, then 7 and 8, then the cycles, the steps and the row. Assumes nothing.
use Prim.Native.Nat.{◌≤◌}
use mathlib.Core.Path.{ap}
use Rattle.std.specs.Prelude.{Ok}
use Rattle.lent.specs.declared.Change.{Change}
use Rattle.answer.specs.declared.Totals.{Totals}
use Rattle.answer.proofs.Asked.{next_in_lem}
use Rattle.lent.specs.Arrays.{Arrays, held_by}
use Rattle.lent.specs.Replies.{Ready, line_says}
use Rattle.lent.proofs.Sums.{ready_drawing, ready_small}
use Rattle.kind_face.proofs.Face.{face_rowed, obeyed_asked, obeyed_face_full, obeyed_face}
use Rattle.answer.proofs.Questions.{all_yes, some_no}
use Rattle.lent.proofs.Refusals.{handed_on}
use Rattle.kind_face.proofs.add_face.Goals as goal

next_most : {a : Arrays} {t : Totals} → Ready a t → a.next ≤ 65536
next_most {a} {t} y = next_in_lem (held_by a) (ready_drawing a t y)

pub face_asked-requires-clause-rowed : goal.face_asked-requires-clause-rowed
face_asked-requires-clause-rowed c = face_rowed _ c.args.t c.requires.ready c.args.script.now c.args.first c.args.k c.requires.stand

pub returns-in_err-face_asked-clause-obeyed : goal.returns-in_err-face_asked-clause-obeyed
returns-in_err-face_asked-clause-obeyed c =
    let a = c.args in
    obeyed_asked _ a.t c.requires.ready a.script.now a.first a.k c.requires.stand _ c.face_asked.ensures
    (some_no c.in_err-face_asked.was) _ (handed_on _ c.in_err-face_asked.was c.from_residual.ensures)

pub cell_asked-requires-clause-next_le_ids_end : goal.cell_asked-requires-clause-next_le_ids_end
cell_asked-requires-clause-next_le_ids_end c = next_most c.requires.ready

pub cell_asked-requires-clause-small : goal.cell_asked-requires-clause-small
cell_asked-requires-clause-small c = ready_small _ _ c.requires.ready

pub returns-in_err-cell_asked-clause-obeyed : goal.returns-in_err-cell_asked-clause-obeyed
returns-in_err-cell_asked-clause-obeyed c =
    let a = c.args in
    obeyed_face_full _ a.t c.requires.ready a.script.now a.first a.k c.requires.stand _ c.face_asked.ensures
    (all_yes c.in_ok-face_asked.was) c.wide.result c.count_cycle_steps-m.result _ c.wide.ensures c.count_cycle_steps-m.ensures c.cell_asked.ensures
    (some_no c.in_err-cell_asked.was) _ (handed_on _ c.in_err-cell_asked.was c.from_residual-in_err-cell_asked.ensures)

pub returns-clause-obeyed : goal.returns-clause-obeyed
returns-clause-obeyed c =
    let a = c.args in
    obeyed_face _ a.t c.requires.ready a.script.now a.first a.k c.requires.stand _ c.face_asked.ensures
    (all_yes c.in_ok-face_asked.was) c.wide.result c.count_cycle_steps-m.result _ c.wide.ensures c.count_cycle_steps-m.ensures c.cell_asked.ensures
    (all_yes c.in_ok-cell_asked.was) c.put_cycles.new.counts c.put_cycles.new.steps c.put_cycles.ensures.counts_after c.put_cycles.ensures.steps_after _
    c.add_row.ensures.added _ (ap (λ (u : Change). line_says (Ok u)) c.add_row.ensures.value)
