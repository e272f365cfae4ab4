-- `looped` meets its contract: questions 7 and 8, then the steps, the rows and the bends, and the closed edge. Assumes nothing.
use Prim.Native.Nat.{◌≤◌}
use native.Mathlib.Omega.{arith}
use mathlib.Core.Bool.{false}
use mathlib.Core.Path.{refl, ap}
use lib.Dec.{lit≤}
use Rattle.complex.specs.Sound.{ids_end}
use Rattle.complex.specs.Decode.{uncut}
use Rattle.answer.specs.declared.Totals.{Totals}
use Rattle.answer.proofs.Asked.{next_in_lem}
use Rattle.ask_cut_edge.proofs.Found.{base_asks}
use Rattle.lent.specs.Arrays.{Arrays, held_by, rows_by}
use Rattle.lent.specs.Sheets.{arrays}
use Rattle.lent.specs.Replies.{Ready}
use Rattle.lent.proofs.Sums.{ready_drawing, ready_sizes, ready_indexes, ready_small, ready_fits, ready_cycles, ready_steps, ready_no}
use Rattle.lent.proofs.Finds.{ready_finds}
use Rattle.kernel_swap.proofs.Asking.{one_asks}
use Rattle.kind_uncut_loop.proofs.Plans.{live_row, told, refuses, goes_by}
use Rattle.kind_uncut_loop.proofs.Uncutting.{bends_in_lem, mid_edge, mid_bare, mid_rows, row_in, obeyed_loop}
use Rattle.answer.proofs.Questions.{all_yes, some_no}
use Rattle.lent.proofs.Refusals.{handed_on}
use Rattle.kind_uncut_loop.proofs.looped.Goals as goal

next_in : {a : Arrays} {t : Totals} → Ready a t → a.next ≤ ids_end
next_in {a} {t} y = next_in_lem (held_by a) (ready_drawing a t y)

pub bend_asked-requires : goal.bend_asked-requires
bend_asked-requires c =
    record {
      next_le_ids_end = next_in c.requires.ready;
      small = ready_small _ _ c.requires.ready;
      cells_bound = lit≤ tt;
    }

pub returns-in_err-bend_asked-clause-obeyed : goal.returns-in_err-bend_asked-clause-obeyed
returns-in_err-bend_asked-clause-obeyed c =
    let s = c.args in
    let y = c.requires.ready in
    ready_no _ _ y (uncut s.v) _ _ (handed_on _ c.in_err-bend_asked.was c.from_residual.ensures)
    (refuses _ _ y s.v s.e c.requires.v_value _ c.bend_asked.ensures (some_no c.in_err-bend_asked.was))

pub find-vertex-requires : goal.find-vertex-requires
find-vertex-requires c = let whole = ready_finds _ _ c.requires.ready in record {
  n_bound = whole.0;
  ids_len = whole.1.0;
  rising = whole.1.1;
}

pub find-row-requires : goal.find-row-requires
find-row-requires c = let whole = ready_finds _ _ c.requires.ready in record {
  n_bound = whole.0;
  ids_len = whole.1.0;
  rising = whole.1.1;
}

pub vertex_at-p-requires : goal.vertex_at-p-requires
vertex_at-p-requires c =
    let s = c.args in
    let y = c.requires.ready in
    live_row _ _ y s.v _ c.find-vertex.ensures (told _ _ y s.v s.e c.requires.v_value).vertex_live_lem

pub bend_start-base-requires : goal.bend_start-base-requires
bend_start-base-requires c =
    let s = c.args in
    let a = arrays s.sheet.now in
    let y = c.requires.ready in
    let whole = base_asks (held_by a) (ready_sizes a s.t y) (ready_drawing a s.t y) (rows_by a) (ready_indexes a s.t y) s.e c.find-row.result
    c.find-row.ensures
    (told a s.t y s.v s.e c.requires.v_value).edge_live in record {
      row_in_bounds = whole.0;
      counts_bound = whole.1;
    }

pub offset_bounds-sheet-row : goal.offset_bounds-sheet-row
offset_bounds-sheet-row c =
    let s = c.args in
    let y = c.requires.ready in
    let h = live_row _ _ y s.e _ c.find-row.ensures (told _ _ y s.v s.e c.requires.v_value).edge_live in
    omega (arith, h)

pub bounds-sheet-row : goal.bounds-sheet-row
bounds-sheet-row c =
    let s = c.args in
    let y = c.requires.ready in
    live_row _ _ y s.e _ c.find-row.ensures (told _ _ y s.v s.e c.requires.v_value).edge_live

pub one_for-w-requires : goal.one_for-w-requires
one_for-w-requires c =
    let s = c.args in
    let y = c.requires.ready in
    let g = goes_by _ _ y s.v s.e c.requires.v_value _ c.bend_asked.ensures (all_yes c.in_ok-bend_asked.was)
    _ _ c.find-vertex.ensures c.find-row.ensures _ c.vertex_at-p.ensures _ c.bend_start-base.ensures _ c.wide-m.ensures in
    record {
      e_bound = g.looped.small;
      a_bound = omega (arith, next_in y);
    }

pub swap_steps-requires : goal.swap_steps-requires
swap_steps-requires c =
    let y = c.requires.ready in
    let whole = one_asks _ c.args.e c.args.sheet.now.next.now false c.one_for-w.result c.one_for-w.ensures c.args.t.cycles c.args.t.steps y.long (ready_fits _ _ y)
    (ready_cycles _ _ y) (ready_steps _ _ y) in record {
      fits = whole.0;
      lengths = whole.1.0;
      k_value = whole.1.1.0;
      n_bound = whole.1.1.1.0;
      by_value = whole.1.1.1.1.0;
      by_bound = whole.1.1.1.1.1.0;
      m_value = whole.1.1.1.1.1.1.0;
      fact = whole.1.1.1.1.1.1.1;
    }

pub drop_pair-requires : goal.drop_pair-requires
drop_pair-requires c =
    let s = c.args in
    let y = c.requires.ready in
    let g = goes_by _ _ y s.v s.e c.requires.v_value _ c.bend_asked.ensures (all_yes c.in_ok-bend_asked.was)
    _ _ c.find-vertex.ensures c.find-row.ensures _ c.vertex_at-p.ensures _ c.bend_start-base.ensures _ c.wide-m.ensures in
    let sw = c.swap_steps.ensures.swapped_in in
    record {
      fits = sw.fits;
      lengths = sw.long;
      by_value = mid_rows _ _ y s.v s.e c.requires.v_value _ g c.one_for-w.result c.one_for-w.ensures _ c.swap_steps.ensures.kept sw;
      bare_row = mid_bare _ _ y s.v s.e c.requires.v_value _ g c.one_for-w.result c.one_for-w.ensures _ c.swap_steps.ensures.kept sw;
      edge_row = mid_edge _ _ y s.v s.e c.requires.v_value _ g c.one_for-w.result c.one_for-w.ensures _ c.swap_steps.ensures.kept sw;
      t_lt_bends_most = g.room;
    }

pub overflow_add-m : goal.overflow_add-m
overflow_add-m c =
    let s = c.args in
    let y = c.requires.ready in
    let g = goes_by _ _ y s.v s.e c.requires.v_value _ c.bend_asked.ensures (all_yes c.in_ok-bend_asked.was)
    _ _ c.find-vertex.ensures c.find-row.ensures _ c.vertex_at-p.ensures _ c.bend_start-base.ensures _ c.wide-m.ensures in
    let h = bends_in_lem _ _ y s.v s.e c.requires.v_value _ g in
    omega (arith, h.0, h.1)

pub overflow_cast-m : goal.overflow_cast-m
overflow_cast-m c =
    let s = c.args in
    let y = c.requires.ready in
    let g = goes_by _ _ y s.v s.e c.requires.v_value _ c.bend_asked.ensures (all_yes c.in_ok-bend_asked.was)
    _ _ c.find-vertex.ensures c.find-row.ensures _ c.vertex_at-p.ensures _ c.bend_start-base.ensures _ c.wide-m.ensures in
    let h = bends_in_lem _ _ y s.v s.e c.requires.v_value _ g in
    omega (arith, h.0, h.1)

pub put_row-requires : goal.put_row-requires
put_row-requires c =
    let s = c.args in
    let y = c.requires.ready in
    let g = goes_by _ _ y s.v s.e c.requires.v_value _ c.bend_asked.ensures (all_yes c.in_ok-bend_asked.was)
    _ _ c.find-vertex.ensures c.find-row.ensures _ c.vertex_at-p.ensures _ c.bend_start-base.ensures _ c.wide-m.ensures in
    row_in _ _ y s.v s.e c.requires.v_value _ g c.one_for-w.result c.one_for-w.ensures _ c.swap_steps.ensures.kept
    c.swap_steps.ensures.swapped_in _ (ap (λ (b : Arrays). b.next) c.drop_pair.ensures.kept) c.drop_pair.ensures.pair_gone

pub overflow_add-sheet : goal.overflow_add-sheet
overflow_add-sheet c = omega (arith, c.drop_pair.ensures.pair_gone.keeps.few, ap (λ (b : Arrays). b.count) c.swap_steps.ensures.kept, (ready_fits _ _ c.requires.ready).cells)

pub overflow_add-sheet-2 : goal.overflow_add-sheet-2
overflow_add-sheet-2 c = omega (arith, next_in c.requires.ready)

pub overflow_sub-removed : goal.overflow_sub-removed
overflow_sub-removed c = omega (arith, c.drop_pair.ensures.pair_gone.keeps.few, ap (λ (b : Arrays). b.count) c.swap_steps.ensures.kept)

pub overflow_cast-removed : goal.overflow_cast-removed
overflow_cast-removed c = omega (arith, (ready_fits _ _ c.requires.ready).cells)

pub returns-clause-obeyed : goal.returns-clause-obeyed
returns-clause-obeyed c =
    let s = c.args in
    let y = c.requires.ready in
    let g = goes_by _ _ y s.v s.e c.requires.v_value _ c.bend_asked.ensures (all_yes c.in_ok-bend_asked.was)
    _ _ c.find-vertex.ensures c.find-row.ensures _ c.vertex_at-p.ensures _ c.bend_start-base.ensures _ c.wide-m.ensures in
    obeyed_loop _ _ y s.v s.e c.requires.v_value _ g c.one_for-w.result c.one_for-w.ensures _ c.swap_steps.ensures.kept
    c.swap_steps.ensures.swapped_in _ (ap (λ (b : Arrays). b.next) c.drop_pair.ensures.kept) c.drop_pair.ensures.pair_gone _
    c.put_row.ensures.put _ refl
