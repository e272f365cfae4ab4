-- `cut_plan` meets its contract. Assumes nothing.
use native.Mathlib.Omega.{arith}
use Prim.Native.Nat.{ℕ, ◌-◌, ◌%◌}
use mathlib.Core.Path.{◌≡◌, refl, sym, ◌∙◌}
use mathlib.Core.Bool.{true}
use lib.Dec.{eqb}
use lib.ListN.{take, get_or}
use Rattle.complex.specs.Cells.{cell_at}
use Rattle.store.specs.Index.{row_of}
use Rattle.store.specs.View.{sheet_of}
use Rattle.sound.specs.Looks.{index_value}
use Rattle.answer.specs.declared.Totals.{Totals}
use Rattle.answer.specs.Sizes.{sized, more_less, changed_by}
use Rattle.answer.specs.Late.{sizes_by, late_no}
use Rattle.lent.specs.Arrays.{Arrays, held_by, rows_by}
use Rattle.lent.specs.Replies.{Ready}
use Rattle.lent.proofs.Sums.{ready_fits, ready_looks}
use Rattle.lent.proofs.Finds.{ready_finds}
use Rattle.kind_cut_plan.specs.Kinds.{new_by, new_on, edge_on, exists_on, uses_on}
use Rattle.kind_cut_plan.proofs.Late.{planned_no}
use Rattle.kind_cut_plan.proofs.Plans.{Found, counts_in, late_asks, kind_no, kind_yes, base_in, place_no, late_no_lem, place_asks, planned}
use Rattle.answer.proofs.Questions.{all_yes, some_no}
use Rattle.kind_cut_plan.proofs.cut_plan.Goals as goal

-- what is found of a cell e of this kind, of which some come
module _ {a : Arrays} {t : Totals} (y : Ready a t) (e q : ℕ) {kind new : ℕ} (ek : kind ≡ index_value 4 (held_by a) (rows_by a) a.kinds e) (en : new ≡ new_by kind)
    (nz : new ≡ 0 → ⊥) where
  edge : (edge_on (eqb kind 1) (cell_at (sheet_of (held_by a)) e) ≡ true) × (new ≡ new_on (eqb kind 1))
  edge = let h = kind_yes a t y e q kind ek (λ z. nz (en ∙ z)) in (h.0, en ∙ h.1)

  module _ {row : ℕ} (er : row ≡ row_of e (take a.count a.ids)) where
    late : {m uses r : ℕ} → m ≡ get_or a.bends row 0 → exists_on (eqb kind 1) m q ≡ true → uses ≡ uses_on (eqb kind 1) e (take t.cycles a.cycles) a.steps
        → r ≡ late_no a.next new (changed_by (sizes_by t) (more_less (sized (new - 1) 0 uses 0) (sized 0 0 0 (q % 2))))
        → Found a t e q (eqb kind 1) row m uses r
    late {m} {uses} {r} em ex eu el =
        record {
          ready = y;
          edge = edge.0;
          at = er;
          own = em;
          exists = ex;
          counted = eu;
          late = el ∙ (λ i. late_no a.next (edge.1 i) (changed_by (sizes_by t) (more_less (sized (edge.1 i - 1) 0 uses 0) (sized 0 0 0 (q % 2)))));
        }

pub value_at-kind-requires : goal.value_at-kind-requires
value_at-kind-requires c =
    record {
      n_bound = (ready_fits _ _ c.requires).cells;
      ids_len = c.requires.long.ids;
      values_len = c.requires.long.kinds;
      rising = (ready_looks _ _ c.requires).rising;
    }

pub returns-then-new-eq0 : goal.returns-then-new-eq0
returns-then-new-eq0 c =
    kind_no _ _ c.requires c.args.e c.args.q _ c.value_at-kind.ensures (sym c.new_cells-new.ensures ∙ c.if-new-eq0.true)

pub find-row-requires : goal.find-row-requires
find-row-requires c = let whole = ready_finds _ _ c.requires in record {
  n_bound = whole.0;
  ids_len = whole.1.0;
  rising = whole.1.1;
}

pub returns-then-not-place_exists : goal.returns-then-not-place_exists
returns-then-not-place_exists c =
    let g = edge c.requires c.args.e c.args.q c.value_at-kind.ensures c.new_cells-new.ensures c.if-new-eq0.false in
    place_no _ _ c.requires c.args.e c.args.q c.find-row.result c.find-row.ensures (eqb c.value_at-kind.result 1) g.0
    c.wide-m.result c.wide-m.ensures (sym c.place_exists.ensures ∙ c.if-not-place_exists.true)

pub uses_of-uses-requires : goal.uses_of-uses-requires
uses_of-uses-requires c =
    let k = counts_in _ _ c.requires c.args.e c.args.q in
    record {
      n_in_bounds = omega (arith, k.cycles_in, k.cycle_room);
      cycles_in_bounds = omega (arith, k.steps_in, k.step_room);
    }

pub cut_asked-requires : goal.cut_asked-requires
cut_asked-requires c =
    let g = edge c.requires c.args.e c.args.q c.value_at-kind.ensures c.new_cells-new.ensures c.if-new-eq0.false in
    let whole = late_asks _ _ c.requires c.args.e c.args.q (eqb c.value_at-kind.result 1) _ _ g.1 c.uses_of-uses.ensures in record {
      next_le_ids_end = whole.0;
      some_new = whole.1.0;
      le_ids_end = whole.1.1.0;
      small = whole.1.1.1.0;
      uses_bound = whole.1.1.1.1;
    }

pub returns-in_err-cut_asked : goal.returns-in_err-cut_asked
returns-in_err-cut_asked c =
    planned_no _ c.args.e c.args.q _ c.in_err-cut_asked.was c.from_residual.ensures
    (late_no_lem _ _ c.args.e c.args.q _ _ _ _ (eqb c.value_at-kind.result 1)
    (late c.requires c.args.e c.args.q c.value_at-kind.ensures c.new_cells-new.ensures c.if-new-eq0.false c.find-row.ensures c.wide-m.ensures
    (sym c.place_exists.ensures ∙ c.if-not-place_exists.false) c.uses_of-uses.ensures c.cut_asked.ensures)
    (some_no c.in_err-cut_asked.was))

pub bend_start-base-requires : goal.bend_start-base-requires
bend_start-base-requires c =
    let g = edge c.requires c.args.e c.args.q c.value_at-kind.ensures c.new_cells-new.ensures c.if-new-eq0.false in
    let whole = base_in _ _ c.requires c.args.e c.args.q c.find-row.result c.find-row.ensures (eqb c.value_at-kind.result 1) g.0 in record {
      row_in_bounds = whole.0;
      counts_bound = whole.1;
    }

pub place_at-p-requires : goal.place_at-p-requires
place_at-p-requires c =
    let k =
    late c.requires c.args.e c.args.q c.value_at-kind.ensures c.new_cells-new.ensures c.if-new-eq0.false c.find-row.ensures c.wide-m.ensures
    (sym c.place_exists.ensures ∙ c.if-not-place_exists.false) c.uses_of-uses.ensures c.cut_asked.ensures in
    let whole = place_asks _ _ c.args.e c.args.q _ _ _ _ (all_yes c.in_ok-cut_asked.was) _ c.bend_start-base.ensures _ _ refl refl (eqb c.value_at-kind.result 1) k in record {
      n_le_cells_most = whole.0;
      ids_len = whole.1.0;
      rising = whole.1.1.0;
      ids_bound = whole.1.1.1.0;
      m_bound = whole.1.1.1.1.0;
      q_bound = whole.1.1.1.1.1;
    }

pub returns : goal.returns
returns c =
    planned _ _ c.args.e c.args.q _ _ _ _ (all_yes c.in_ok-cut_asked.was) _ c.bend_start-base.ensures _ _ refl refl (eqb c.value_at-kind.result 1)
    (late c.requires c.args.e c.args.q c.value_at-kind.ensures c.new_cells-new.ensures c.if-new-eq0.false c.find-row.ensures c.wide-m.ensures
    (sym c.place_exists.ensures ∙ c.if-not-place_exists.false) c.uses_of-uses.ensures c.cut_asked.ensures)
    _ c.place_at-p.ensures
