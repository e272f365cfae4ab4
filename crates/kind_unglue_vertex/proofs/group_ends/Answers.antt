-- `group_ends` meets its contract: marks, then links and groups. Assumes nothing.
use native.Mathlib.Omega.{arith}
use Rattle.ask_unglue.proofs.Found.{fresh_marks}
use Rattle.lent.specs.Arrays.{rows_by}
use Rattle.lent.specs.Sheets.{seen}
use Rattle.lent.proofs.Sums.{ready_fits}
use Rattle.kind_unglue_vertex.proofs.Linked.{few_steps_lem, linkable}
use Rattle.kind_unglue_vertex.proofs.group_ends.Goals as goal

pub mark_ends-requires : goal.mark_ends-requires
mark_ends-requires c =
    let b = seen c.args.view.now in
    let l = c.requires.ready.long in
    let f = (ready_fits b c.args.t c.requires.ready).cells in
    let n = c.requires in record {
      n_in_bounds = omega (arith, l.kinds, f);
      n_in_bounds_2 = omega (arith, l.starts, f);
      n_in_bounds_3 = omega (arith, l.ends, f);
      n_in_bounds_4 = omega (arith, f, n.fresh.marks);
      end_marks = fresh_marks (rows_by b) c.args.v c.args.at.now n.fresh.unmarked;
    }

pub link_ends-requires : goal.link_ends-requires
link_ends-requires c =
    let b = seen c.args.view.now in
    let k = c.mark_ends in
    let h = c.if-t-le256.true in
    record {
      ready = c.requires.ready;
      t = c.requires.t;
      linkable = linkable (rows_by b) _ _ c.requires.fresh k.auto.at k.ensures _ _ _ (omega arith) (omega arith);
    }

pub link_ends-requires-2 : goal.link_ends-requires-2
link_ends-requires-2 c =
    let b = seen c.args.view.now in
    let k = c.mark_ends in
    let h = few_steps_lem _ _ c.requires.ready in
    record {
      ready = c.requires.ready;
      t = c.requires.t;
      linkable = linkable (rows_by b) _ _ c.requires.fresh k.auto.at k.ensures _ _ _ (omega arith) (omega arith);
    }
