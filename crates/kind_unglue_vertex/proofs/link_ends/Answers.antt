-- `link_ends` meets its contract: links, then groups. Assumes nothing.
use native.Mathlib.Omega.{arith}
use Rattle.ask_unglue.proofs.Found.{links_ready, groups_found}
use Rattle.lent.specs.Arrays.{held_by, rows_by}
use Rattle.lent.specs.Sheets.{seen}
use Rattle.lent.proofs.Sums.{ready_cycles, ready_drawing, ready_sizes, ready_indexes}
use Rattle.kind_unglue_vertex.proofs.Linked.{linked_rows, linked_cycles, linked_steps, few_steps_lem, few_places}
use Rattle.kind_unglue_vertex.proofs.link_ends.Goals as goal

pub find_links-k-requires : goal.find_links-k-requires
find_links-k-requires c =
    let b = seen c.args.view.now in
    let r = c.requires.ready in
    let t = c.args.t in
    let p = c.requires in
    let e = linked_steps b t r in
    record {
      id_rows = linked_rows b t r;
      m_in_bounds = linked_cycles b t r;
      cycles_in_bounds = omega (arith, e, few_steps_lem b t r, r.long.steps);
      cycles_in_bounds_2 = omega (arith, e, p.linkable.lefts);
      cycles_in_bounds_3 = omega (arith, e, p.linkable.rights);
    }

pub overflow_mul-view : goal.overflow_mul-view
overflow_mul-view c = record { fits = omega (arith, few_places _ _ c.requires.ready) }

pub find_groups-requires : goal.find_groups-requires
find_groups-requires c =
    let b = seen c.args.view.now in
    let r = c.requires.ready in
    let t = c.args.t in
    let p = c.requires in
    let whole = links_ready (held_by b) (ready_sizes b t r) (ready_drawing b t r) (rows_by b) (ready_indexes b t r) c.args.v _ p.linkable.marks c.requires.t
    p.linkable.size _
    (ready_cycles b t r) _ _ c.find_links-k.result _ _ c.find_links-k.ensures c.args.groups.now p.linkable.numbers p.linkable.unnumbered in record {
      n_in_bounds = omega (arith, p.linkable.size, few_places b t r);
      links_ready = whole.0;
      sorting = whole.1;
    }

pub returns : goal.returns
returns c =
    let b = seen c.args.view.now in
    let r = c.requires.ready in
    let t = c.args.t in
    let p = c.requires in
    let whole = groups_found (held_by b) (ready_sizes b t r) (ready_drawing b t r) (rows_by b) (ready_indexes b t r) c.args.v _ p.linkable.marks
    c.requires.t p.linkable.size _
    (ready_cycles b t r) _ _ c.find_links-k.result _ _ c.find_links-k.ensures c.find_groups.result _ (few_places b t r) c.find_groups.ensures in record {
      grouped_ends = whole.0;
      upper_bound = whole.1;
    }
