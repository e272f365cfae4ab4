-- `cut_round` meets its contract: the cycles are parted, then the edge comes, then the face. Assumes nothing.
use Prim.Native.Nat.{ℕ}
use mathlib.Core.Path.{ap, ◌∙◌}
use mathlib.Core.List.{List}
use Rattle.lent.specs.Arrays.{Arrays}
use Rattle.lent.specs.Growing.{with_closed}
use Rattle.lent.specs.Sheets.{arrays}
use Rattle.kernel_add.proofs.Put.{with_placed}
use Rattle.kernel_cycles.proofs.Held.{with_cycles}
use Rattle.kind_cut_round.proofs.Cutting.{row_counted, parting, row_fits, edge_asks, row_asks, round_holds}
use Rattle.kind_cut_round.proofs.cut_round.Goals as goal

pub spans_at-s-requires : goal.spans_at-s-requires
spans_at-s-requires c =
    let a = c.args in
    row_counted _ a.t c.requires.ready a.script.now a.f a.k a.first a.moved a.place c.requires.round_cut c.find-row.result c.find-row.ensures

pub part-q-requires : goal.part-q-requires
part-q-requires c =
    let a = c.args in
    parting _ a.t c.requires.ready a.script.now a.f a.k a.first a.moved a.place c.requires.round_cut c.find-row.result c.find-row.ensures
    c.spans_at-s.result c.spans_at-s.ensures

pub put_count-requires : goal.put_count-requires
put_count-requires c =
    let a = c.args in
    let fits =
    row_fits _ a.t c.requires.ready a.script.now a.f a.k a.first a.moved a.place c.requires.round_cut c.find-row.result c.find-row.ensures
    c.spans_at-s.result c.spans_at-s.ensures c.part-q.result.old c.part-q.result.new _ _ c.part-q.ensures in record {
      row_lt_cells_most = fits.0;
      n_le_cycles_most = fits.1.0;
    }

pub put_bends-requires : goal.put_bends-requires
put_bends-requires c =
    let a = c.args in
    let room =
    edge_asks _ a.t c.requires.ready a.script.now a.f a.k a.first a.moved a.place c.requires.round_cut c.find-row.result c.find-row.ensures
    c.spans_at-s.result c.spans_at-s.ensures c.part-q.result.old c.part-q.result.new _ _ c.part-q.ensures in
    record {
      k_in_bounds = c.requires.round_cut.bytes;
      k_bound = room.0;
      bx_len = c.requires.ready.long.bx;
      by_len = c.requires.ready.long.by;
    }

pub add_row-requires : goal.add_row-requires
add_row-requires c =
    let a = c.args in
    let room =
    edge_asks _ a.t c.requires.ready a.script.now a.f a.k a.first a.moved a.place c.requires.round_cut c.find-row.result c.find-row.ensures
    c.spans_at-s.result c.spans_at-s.ensures c.part-q.result.old c.part-q.result.new _ _ c.part-q.ensures in
    record {
      count_lt_cells_most = room.1.0;
      next_lt_ids_end = room.1.1;
    }

pub add_row-requires-2 : goal.add_row-requires-2
add_row-requires-2 c =
    let a = c.args in
    let whole =
    row_asks _ a.t c.requires.ready a.script.now a.f a.k a.first a.moved a.place c.requires.round_cut c.find-row.result c.find-row.ensures
    c.spans_at-s.result c.spans_at-s.ensures c.part-q.result.old c.part-q.result.new _ _ c.part-q.ensures _ _
    c.put_bends.ensures _ _
    (ap (λ (x : Arrays). x.count) c.add_row.ensures.added) (ap (λ (x : Arrays). x.next) c.add_row.ensures.added) in record {
      count_lt_cells_most = whole.0;
      next_lt_ids_end = whole.1;
    }

pub returns-clause-holds : goal.returns-clause-holds
returns-clause-holds c =
    let a = c.args in
    let q = c.part-q.result in
    let b = with_placed (with_cycles (arrays a.sheet.now) c.find-row.result q.old.cycles c.part-q.new.cycles c.part-q.new.steps) c.put_bends.new.bx c.put_bends.new.by in
    round_holds _ a.t c.requires.ready a.script.now a.f a.k a.first a.moved a.place c.requires.round_cut c.find-row.result c.find-row.ensures
    c.spans_at-s.result c.spans_at-s.ensures q.old q.new _ _ c.part-q.ensures _ _ c.put_bends.ensures _ _
    (c.add_row.ensures.added ∙ ap (λ (l : List ℕ). with_closed (record b { counts = l }) a.k) c.put_count.ensures) c.add_row-2.ensures.added
