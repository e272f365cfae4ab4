-- `uncut_edge` meets its contract: questions 7 and 8, and then the cells go. Assumes nothing.
use Prim.Native.Nat.{ℕ, ◌-◌, ◌≤◌}
use lib.Dec.{lit≤}
use mathlib.Core.Path.{◌≡◌, ap}
use Rattle.std.specs.Prelude.{Ok}
use Rattle.complex.specs.Cells.{Sheet}
use Rattle.complex.specs.Sound.{ids_end}
use Rattle.complex.specs.Uncut.{uncut_case, uncut_result}
use Rattle.store.specs.View.{sheet_of}
use Rattle.answer.specs.declared.Totals.{Totals}
use Rattle.answer.specs.Sizes.{sized, nothing, more_less, changed_by}
use Rattle.answer.specs.Late.{sizes_by, late_no}
use Rattle.answer.proofs.Asked.{next_in_lem}
use Rattle.rows_corners.specs.Faces.{Roomy}
use Rattle.ask_uncut_uses.specs.declared.Use.{Use}
use Rattle.ask_uncut_uses.specs.declared.Between.{Between}
use Rattle.ask_uncut_uses.specs.Uses.{use_at, case_of}
use Rattle.law_uncut_edge.specs.Needs.{more_cycles, Takes}
use Rattle.lent.specs.Arrays.{Arrays, held_by}
use Rattle.lent.specs.declared.Change.{Change}
use Rattle.lent.specs.Replies.{line_says, Ready, Holds}
use Rattle.lent.proofs.Sums.{ready_fits, ready_drawing, ready_small}
use Rattle.kind_uncut_edge.specs.Left.{Leaves}
use Rattle.kind_uncut_edge.proofs.Leads.{small, large, room_by, edge_no, case_is, fewer, edge_obeyed, few_more}
use Rattle.answer.proofs.Questions.{all_yes, some_no}
use Rattle.lent.proofs.Refusals.{handed_on}
use Rattle.kind_uncut_edge.proofs.uncut_edge.Goals as goal

abbrev result : Arrays → ℕ → Between → Use → Use → Sheet
result a e k u w = uncut_result (sheet_of (held_by a)) e (case_of k (use_at e u) (use_at e w))

-- ---- what is known once questions 7 and 8 are passed
module _ {a : Arrays} {t : Totals} (y : Ready a t) (e : ℕ) (k : Between) (u w : Use)
    (h : uncut_case (sheet_of (held_by a)) e ≡ case_of k (use_at e u) (use_at e w)) {n : ℕ} (en : n ≡ more_cycles k) {r : ℕ}
    (er : r ≡ late_no a.next 0 (changed_by (sizes_by t) (more_less (sized 0 n 0 0) nothing))) (z : r ≡ 0) where
  leaves : (i j : ℕ) → (Roomy (result a e k u w) → Takes i j (result a e k u w)) → Leaves a t e k u w i j
  leaves i j f =
      let c = case_is a t y e k u w h n en r er z in
      record { ready = y; is = c; takes = f c.room }

  -- the cells are gone
  module _ (out : Arrays) (eo : out.next ≡ a.next) (o : Holds (result a e k u w) out) where
    gone_asks : (out.count ≤ a.count) × (a.count ≤ 256)
    gone_asks = (fewer a t y e k u w h n en r er z out eo o, (ready_fits a t y).cells)

next_in : {a : Arrays} {t : Totals} → Ready a t → a.next ≤ ids_end
next_in {a} {t} y = next_in_lem (held_by a) (ready_drawing a t y)

pub late_asked-requires : goal.late_asked-requires
late_asked-requires c =
    record {
      next_le_ids_end = next_in c.requires.ready;
      le_ids_end = lit≤ tt;
      small = (
        ready_small _ _ c.requires.ready,
        record { cells = lit≤ tt; cycles = few_more c.args.k _ c.more_cycles.ensures; steps = lit≤ tt; bends = lit≤ tt },
        record { cells = lit≤ tt; cycles = lit≤ tt; steps = lit≤ tt; bends = lit≤ tt },
      );
    }

pub returns-in_err-late_asked-clause-obeyed : goal.returns-in_err-late_asked-clause-obeyed
returns-in_err-late_asked-clause-obeyed c =
    edge_no _ _ c.requires.ready c.args.e c.args.k c.args.u c.args.w c.requires.e_value _ c.more_cycles.ensures
    _ c.late_asked.ensures (some_no c.in_err-late_asked.was) _ (handed_on _ c.in_err-late_asked.was c.from_residual.ensures)

pub take_out-requires : goal.take_out-requires
take_out-requires c =
    leaves c.requires.ready c.args.e c.args.k c.args.u c.args.w c.requires.e_value
    c.more_cycles.ensures c.late_asked.ensures (all_yes c.in_ok-late_asked.was) _ _
    (λ q. small (room_by _ _ c.requires.ready c.args.e c.args.k c.args.u c.args.w c.requires.e_value) (c.few.ensures c.if-few.true))

pub gone-requires : goal.gone-requires
gone-requires c =
    let whole = gone_asks c.requires.ready c.args.e c.args.k c.args.u c.args.w c.requires.e_value
    c.more_cycles.ensures c.late_asked.ensures (all_yes c.in_ok-late_asked.was) _ (ap (λ (b : Arrays). b.next) c.take_out.ensures.kept) c.take_out.ensures.holds in
    record { k_le_n = whole.0; n_le_cells_most = whole.1 }

pub returns-then-few-clause-obeyed : goal.returns-then-few-clause-obeyed
returns-then-few-clause-obeyed c =
    edge_obeyed _ _ c.requires.ready c.args.e c.args.k c.args.u c.args.w c.requires.e_value
    _ c.more_cycles.ensures _ c.late_asked.ensures (all_yes c.in_ok-late_asked.was) _ (ap (λ (b : Arrays). b.next) c.take_out.ensures.kept) c.take_out.ensures.holds _
    (ap (λ (u : Change). line_says (Ok u)) c.gone.ensures)

pub take_out-requires-2 : goal.take_out-requires-2
take_out-requires-2 c =
    leaves c.requires.ready c.args.e c.args.k c.args.u c.args.w c.requires.e_value
    c.more_cycles.ensures c.late_asked.ensures (all_yes c.in_ok-late_asked.was) _ _ large

pub gone-requires-2 : goal.gone-requires-2
gone-requires-2 c =
    let whole = gone_asks c.requires.ready c.args.e c.args.k c.args.u c.args.w c.requires.e_value
    c.more_cycles.ensures c.late_asked.ensures (all_yes c.in_ok-late_asked.was) _ (ap (λ (b : Arrays). b.next) c.take_out-2.ensures.kept)
    c.take_out-2.ensures.holds in
    record { k_le_n = whole.0; n_le_cells_most = whole.1 }

pub returns-clause-obeyed : goal.returns-clause-obeyed
returns-clause-obeyed c =
    edge_obeyed _ _ c.requires.ready c.args.e c.args.k c.args.u c.args.w c.requires.e_value
    _ c.more_cycles.ensures _ c.late_asked.ensures (all_yes c.in_ok-late_asked.was) _ (ap (λ (b : Arrays). b.next) c.take_out-2.ensures.kept) c.take_out-2.ensures.holds _
    (ap (λ (u : Change). line_says (Ok u)) c.gone-2.ensures)
