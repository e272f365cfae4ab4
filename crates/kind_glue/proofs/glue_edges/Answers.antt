-- `glue_edges` meets its contract: questions 4, 5 and 6, then the steps of b become a's, and b goes. Assumes nothing.
use native.Mathlib.Omega.{arith}
use Prim.Native.Nat.{ℕ}
use mathlib.Core.Path.{◌≡◌, refl, ap, ◌∙◌}
use mathlib.Core.Bool.{Bool, true}
use mathlib.Core.List.{List}
use lib.Dec.{eqb}
use lib.ListN.{length}
use Rattle.complex.specs.Cells.{cell_at, is_live}
use Rattle.complex.specs.Edits.{rewired, same_vertex, in_place_of}
use Rattle.complex.specs.Decode.{glue_edges}
use Rattle.store.specs.View.{sheet_of}
use Rattle.sound.specs.Looks.{index_value}
use Rattle.answer.specs.declared.Totals.{Totals}
use Rattle.ask_glue.specs.Questions.{NumberRows, ends_meet, edges_no}
use Rattle.ask_glue.proofs.Glued.{rows_of, Glues}
use Rattle.ask_glue.proofs.Edges.{glue_no, glues_edges, step_small}
use Rattle.lent.specs.Arrays.{Arrays, held_by, rows_by, normal}
use Rattle.lent.specs.Sheets.{arrays}
use Rattle.lent.specs.Replies.{Ready}
use Rattle.lent.proofs.Sums.{ready_rows, ready_drawing, ready_sizes, ready_fits, ready_indexes, ready_no}
use Rattle.kind_glue.proofs.Glue.{row_below, bends_before_lem, edge_row, swap_asks, swapped_is, edge_stays, obeyed_glued}
use Rattle.answer.proofs.Questions.{all_yes, some_no}
use Rattle.lent.proofs.Refusals.{handed_on}
use Rattle.kind_glue.proofs.glue_edges.Goals as goal

rows : (a : Arrays) (t : Totals) (y : Ready a t) (vs : List ℕ) → length vs ≡ 256 → NumberRows a.ids vs a.count
rows a t y vs l = rows_of (held_by a) (ready_sizes a t y) (ready_drawing a t y) (rows_by a) (ready_indexes a t y) vs l

goes : (a : Arrays) (t : Totals) (y : Ready a t) (p q flag ka kb : ℕ) (meet : Bool) (n : ℕ) → ka ≡ index_value 4 (held_by a) (rows_by a) a.kinds p
    → kb ≡ index_value 4 (held_by a) (rows_by a) a.kinds q
    → meet ≡ ends_meet flag (index_value 0 (held_by a) (rows_by a) a.starts p) (index_value 0 (held_by a) (rows_by a) a.ends p)
    (index_value 0 (held_by a) (rows_by a) a.starts q) (index_value 0 (held_by a) (rows_by a) a.ends q)
    → n ≡ edges_no ka kb (eqb p q) flag meet → n ≡ 0
    → Glues (held_by a) (glue_edges p q flag) q (rewired same_vertex (in_place_of q p (eqb flag 1)))
    × (is_live (cell_at (sheet_of (held_by a)) p) ≡ true)
goes a t y p q flag ka kb meet n ea eb em en z =
    glues_edges (held_by a) (ready_sizes a t y) (ready_drawing a t y) p q flag (rows_by a) (ready_indexes a t y) ka kb meet n ea eb em en z

pub value_at-ka-requires : goal.value_at-ka-requires
value_at-ka-requires c = let r = rows _ _ c.requires c.args.sheet.now.kinds.now c.requires.long.kinds in record {
  n_bound = r.few;
  ids_len = r.id_rows;
  values_len = r.value_rows;
  rising = r.rising;
}

pub value_at-kb-requires : goal.value_at-kb-requires
value_at-kb-requires c = let r = rows _ _ c.requires c.args.sheet.now.kinds.now c.requires.long.kinds in record {
  n_bound = r.few;
  ids_len = r.id_rows;
  values_len = r.value_rows;
  rising = r.rising;
}

pub ends_of-meet-requires : goal.ends_of-meet-requires
ends_of-meet-requires c = record {
  number_rows = rows _ _ c.requires c.args.sheet.now.starts.now c.requires.long.starts;
  number_rows_2 = rows _ _ c.requires c.args.sheet.now.ends.now c.requires.long.ends;
}

pub returns-in_err-edges_asked-clause-obeyed : goal.returns-in_err-edges_asked-clause-obeyed
returns-in_err-edges_asked-clause-obeyed c =
    let s = c.args in
    let a = arrays s.sheet.now in
    let y = c.requires in
    ready_no a s.t y (glue_edges s.a s.b s.flag) _ _ (handed_on _ c.in_err-edges_asked.was c.from_residual.ensures)
    (glue_no (held_by a) (ready_sizes a s.t y) (ready_drawing a s.t y) s.a s.b s.flag (rows_by a) (ready_indexes a s.t y)
    c.value_at-ka.result c.value_at-kb.result c.ends_of-meet.result _
    c.value_at-ka.ensures c.value_at-kb.ensures c.ends_of-meet.ensures c.edges_asked.ensures (some_no c.in_err-edges_asked.was))

pub find-row-requires : goal.find-row-requires
find-row-requires c = let r = rows _ _ c.requires c.args.sheet.now.kinds.now c.requires.long.kinds in record {
  n_bound = r.few;
  ids_len = r.id_rows;
  rising = r.rising;
}

pub bend_start-base-requires : goal.bend_start-base-requires
bend_start-base-requires c =
    let s = c.args in
    let a = arrays s.sheet.now in
    let y = c.requires in
    let g = goes a s.t y s.a s.b s.flag c.value_at-ka.result c.value_at-kb.result c.ends_of-meet.result _
    c.value_at-ka.ensures c.value_at-kb.ensures c.ends_of-meet.ensures c.edges_asked.ensures (all_yes c.in_ok-edges_asked.was) in
    let whole = bends_before_lem a s.t y c.find-row.result
    (omega (arith, row_below a s.t y s.b c.find-row.result c.find-row.ensures g.0.live)) in record {
      row_in_bounds = whole.0;
      counts_bound = whole.1;
    }

pub offset_bounds-sheet-row : goal.offset_bounds-sheet-row
offset_bounds-sheet-row c =
    let s = c.args in
    let a = arrays s.sheet.now in
    let y = c.requires in
    let g = goes a s.t y s.a s.b s.flag c.value_at-ka.result c.value_at-kb.result c.ends_of-meet.result _
    c.value_at-ka.ensures c.value_at-kb.ensures c.ends_of-meet.ensures c.edges_asked.ensures (all_yes c.in_ok-edges_asked.was) in
    omega (arith, row_below a s.t y s.b c.find-row.result c.find-row.ensures g.0.live, (ready_fits a s.t y).cells)

pub bounds-sheet-row : goal.bounds-sheet-row
bounds-sheet-row c =
    let s = c.args in
    let a = arrays s.sheet.now in
    let y = c.requires in
    let g = goes a s.t y s.a s.b s.flag c.value_at-ka.result c.value_at-kb.result c.ends_of-meet.result _
    c.value_at-ka.ensures c.value_at-kb.ensures c.ends_of-meet.ensures c.edges_asked.ensures (all_yes c.in_ok-edges_asked.was) in
    omega (arith, row_below a s.t y s.b c.find-row.result c.find-row.ensures g.0.live, (ready_fits a s.t y).cells)

pub one_for-w-requires : goal.one_for-w-requires
one_for-w-requires c =
    let s = c.args in
    let a = arrays s.sheet.now in
    let y = c.requires in
    let g = goes a s.t y s.a s.b s.flag c.value_at-ka.result c.value_at-kb.result c.ends_of-meet.result _
    c.value_at-ka.ensures c.value_at-kb.ensures c.ends_of-meet.ensures c.edges_asked.ensures (all_yes c.in_ok-edges_asked.was) in
    let small = step_small (held_by a) (ready_sizes a s.t y) (ready_drawing a s.t y) s.a s.b s.flag in
    record {
      e_bound = small s.b g.0.live;
      a_bound = small s.a g.1;
    }

pub swap_steps-requires : goal.swap_steps-requires
swap_steps-requires c =
    let s = c.args in
    let o = c.one_for-w in
    let whole = swap_asks _ _ c.requires s.b s.a (eqb s.flag 1) o.result o.ensures in record {
      fits = whole.0;
      lengths = whole.1.0;
      k_value = whole.1.1.0;
      n_bound = whole.1.1.1.0;
      by_value = whole.1.1.1.1.0;
      by_bound = whole.1.1.1.1.1.0;
      m_value = whole.1.1.1.1.1.1.0;
      fact = whole.1.1.1.1.1.1.1;
    }

pub drop_row-requires : goal.drop_row-requires
drop_row-requires c =
    let s = c.args in
    let a = arrays s.sheet.now in
    let y = c.requires in
    let g = goes a s.t y s.a s.b s.flag c.value_at-ka.result c.value_at-kb.result c.ends_of-meet.result _
    c.value_at-ka.ensures c.value_at-kb.ensures c.ends_of-meet.ensures c.edges_asked.ensures (all_yes c.in_ok-edges_asked.was) in
    let w = c.swap_steps.ensures.swapped_in in
    let own = edge_row a s.t y s.b c.find-row.result c.find-row.ensures g.0.live _ c.value_at-ka.result c.value_at-kb.result
    (eqb s.a s.b) s.flag c.ends_of-meet.result c.value_at-kb.ensures c.edges_asked.ensures (all_yes c.in_ok-edges_asked.was) in record {
      fits = w.fits;
      lengths = w.long;
      by_value = ap normal c.swap_steps.ensures.kept ∙ ready_rows a s.t y;
      edge_row = edge_stays a _ _ _ c.swap_steps.ensures.kept (record {
        below = row_below a s.t y s.b c.find-row.result c.find-row.ensures g.0.live;
        from = c.bend_start-base.ensures;
        own = c.wide-m.ensures;
        none = own;
        all = ap (λ (u : Totals). u.bends) y.sums;
      });
      i_le_j = omega arith;
      j_le_m = omega arith;
    }

pub overflow_sub-removed : goal.overflow_sub-removed
overflow_sub-removed c = omega (arith, c.drop_row.ensures.row_gone.keeps.few, ap (λ (u : Arrays). u.count) c.swap_steps.ensures.kept)

pub overflow_cast-removed : goal.overflow_cast-removed
overflow_cast-removed c = omega (arith, (ready_fits _ _ c.requires).cells)

pub returns-clause-obeyed : goal.returns-clause-obeyed
returns-clause-obeyed c =
    let s = c.args in
    let a = arrays s.sheet.now in
    let y = c.requires in
    let g = goes a s.t y s.a s.b s.flag c.value_at-ka.result c.value_at-kb.result c.ends_of-meet.result _
    c.value_at-ka.ensures c.value_at-kb.ensures c.ends_of-meet.ensures c.edges_asked.ensures (all_yes c.in_ok-edges_asked.was) in
    let flip = eqb s.flag 1 in
    let w = c.swap_steps.ensures.swapped_in in
    let o = c.one_for-w in
    obeyed_glued a s.t y (glue_edges s.a s.b s.flag) s.b (rewired same_vertex (in_place_of s.b s.a flip)) g.0 c.find-row.result c.find-row.ensures
    (arrays c.swap_steps.new.sheet) w.long w.fits (swapped_is a s.t y s.b s.a flip o.result o.ensures _ w)
    (arrays c.drop_row.new.sheet) c.drop_row.ensures.row_gone.keeps
    (ap (λ (u : Arrays). u.next) c.drop_row.ensures.kept ∙ ap (λ (u : Arrays). u.next) c.swap_steps.ensures.kept) _ refl
