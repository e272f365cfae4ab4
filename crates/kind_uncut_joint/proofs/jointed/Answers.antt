-- `jointed` meets its contract: questions 7 and 8, then the steps, the rows and the bends. Assumes nothing.
use Rattle.lent.proofs.Finds.{ready_finds}
use Rattle.kind_uncut_joint.proofs.Answering.{counts, refuses, vertex_row, first_asks, second_asks, merges, joins, obeyed}
use Rattle.answer.proofs.Questions.{all_yes, some_no}
use Rattle.lent.proofs.Refusals.{handed_on}
use Rattle.kind_uncut_joint.proofs.jointed.Goals as goal

pub bend_asked-requires : goal.bend_asked-requires
bend_asked-requires c =
    let whole = counts _ _ c.requires.ready c.args.v c.args.x c.args.back1 c.args.y c.args.back2 c.requires.v_value in record {
      next_le_ids_end = whole.0;
      small = whole.1.0;
      cells_bound = whole.1.1;
    }

pub returns-in_err-bend_asked-clause-obeyed : goal.returns-in_err-bend_asked-clause-obeyed
returns-in_err-bend_asked-clause-obeyed c =
    refuses _ _ c.requires.ready c.args.v c.args.x c.args.back1 c.args.y c.args.back2 c.requires.v_value _
    c.bend_asked.ensures (some_no c.in_err-bend_asked.was) _ (handed_on _ c.in_err-bend_asked.was c.from_residual.ensures)

pub find-row-requires : goal.find-row-requires
find-row-requires c =
    let whole = ready_finds _ _ c.requires.ready in record {
      n_bound = whole.0;
      ids_len = whole.1.0;
      rising = whole.1.1;
    }

pub vertex_at-p-requires : goal.vertex_at-p-requires
vertex_at-p-requires c =
    vertex_row _ _ c.requires.ready c.args.v c.args.x c.args.back1 c.args.y c.args.back2 c.requires.v_value _
    c.bend_asked.ensures (all_yes c.in_ok-bend_asked.was)
    c.find-row.result c.find-row.ensures

pub side_at-s-requires : goal.side_at-s-requires
side_at-s-requires c =
    let whole = first_asks _ _ c.requires.ready c.args.v c.args.x c.args.back1 c.args.y c.args.back2 c.requires.v_value _
    c.bend_asked.ensures (all_yes c.in_ok-bend_asked.was) in record {
      n_le_cells_most = whole.0;
      ids_len = whole.1.0;
      rising = whole.1.1.0;
      ids_bound = whole.1.1.1.0;
      bends_bound = whole.1.1.1.1.0;
      bends_len = whole.1.1.1.1.1;
    }

pub side_at-u-requires : goal.side_at-u-requires
side_at-u-requires c =
    let whole = second_asks _ _ c.requires.ready c.args.v c.args.x c.args.back1 c.args.y c.args.back2 c.requires.v_value
    _ c.bend_asked.ensures (all_yes c.in_ok-bend_asked.was) in record {
      n_le_cells_most = whole.0;
      ids_len = whole.1.0;
      rising = whole.1.1.0;
      ids_bound = whole.1.1.1.0;
      bends_bound = whole.1.1.1.1.0;
      bends_len = whole.1.1.1.1.1;
    }

pub merge_steps-requires : goal.merge_steps-requires
merge_steps-requires c =
    merges _ _ c.requires.ready _ _ _ _ _ c.requires.v_value _ c.bend_asked.ensures (all_yes c.in_ok-bend_asked.was) _ c.find-row.ensures _
    c.vertex_at-p.ensures _ _ c.side_at-s.ensures c.side_at-u.ensures

pub join-requires : goal.join-requires
join-requires c =
    joins _ _ c.requires.ready _ _ _ _ _ c.requires.v_value _ c.bend_asked.ensures (all_yes c.in_ok-bend_asked.was) _ c.find-row.ensures _
    c.vertex_at-p.ensures _ _ c.side_at-s.ensures c.side_at-u.ensures _ c.merge_steps.ensures.kept
    c.merge_steps.ensures.merged_in _ c.order_of-o.ensures

pub returns-clause-obeyed : goal.returns-clause-obeyed
returns-clause-obeyed c =
    obeyed _ _ c.requires.ready _ _ _ _ _ c.requires.v_value _ c.bend_asked.ensures (all_yes c.in_ok-bend_asked.was) _ c.find-row.ensures _
    c.vertex_at-p.ensures _ _ c.side_at-s.ensures c.side_at-u.ensures _ c.merge_steps.ensures.kept
    c.merge_steps.ensures.merged_in _ c.order_of-o.ensures
    _ _ c.join.ensures.joined
