-- `cut_face_closed` meets its contract: questions 3 to 5, 7 and 8, then the cut. Assumes nothing.
use Prim.Native.Nat.{◌≤◌}
use mathlib.Core.Path.{refl, sym, ◌∙◌}
use native.Mathlib.Omega.{arith}
use lib.Dec.{lit≤}
use Rattle.bends.specs.Bends.{positions_at}
use Rattle.complex.specs.Decode.{cut_face_closed}
use Rattle.complex.proofs.Asked.{no_3, out_bends}
use Rattle.answer.specs.declared.Totals.{Totals}
use Rattle.answer.proofs.Asked.{next_in_lem}
use Rattle.decode_parts.specs.Lists.{numbers_read}
use Rattle.lent.specs.Arrays.{Arrays, held_by}
use Rattle.lent.specs.Replies.{Ready}
use Rattle.lent.proofs.Sums.{ready_fits, ready_drawing, ready_looks, ready_small, ready_no}
use Rattle.kind_cut_round.proofs.Asking.{closed_no, closed_refused, closed_cuts, closed_obeyed}
use Rattle.answer.proofs.Questions.{all_yes, some_no}
use Rattle.lent.proofs.Refusals.{handed_on}
use Rattle.kind_cut_round.proofs.cut_face_closed.Goals as goal

next_most : {a : Arrays} {t : Totals} → Ready a t → a.next ≤ 65536
next_most {a} {t} y = next_in_lem (held_by a) (ready_drawing a t y)

pub returns-then-not-bends_within-clause-obeyed : goal.returns-then-not-bends_within-clause-obeyed
returns-then-not-bends_within-clause-obeyed c =
    let a = c.args in
    let q = cut_face_closed a.f (positions_at a.script.now a.first a.k) (numbers_read a.script.now a.place a.moved) in
    ready_no _ a.t c.requires.ready q 3 _ refl (no_3 _ q (out_bends q (sym c.bends_within.ensures ∙ c.if-not-bends_within.true)))

pub round_asked-requires : goal.round_asked-requires
round_asked-requires c =
    let r = c.requires.ready in record {
      face_rows = record {
        few = (ready_fits _ _ r).cells;
        ids_size = r.long.ids;
        kinds_size = r.long.kinds;
        counts_size = r.long.counts;
        rising = (ready_looks _ _ r).rising;
      };
      stand = c.requires.stand;
    }

pub returns-in_err-round_asked-clause-obeyed : goal.returns-in_err-round_asked-clause-obeyed
returns-in_err-round_asked-clause-obeyed c =
    let a = c.args in
    closed_no _ a.t c.requires.ready a.script.now a.f a.k a.first a.moved a.place
    (sym c.bends_within.ensures ∙ c.if-not-bends_within.false) _ c.round_asked.ensures (some_no c.in_err-round_asked.was) _
    (handed_on _ c.in_err-round_asked.was c.from_residual.ensures)

pub late_asked-requires : goal.late_asked-requires
late_asked-requires c =
    record {
      next_le_ids_end = next_most c.requires.ready;
      le_ids_end = lit≤ tt;
      small = (
        ready_small _ _ c.requires.ready,
        record { cells = lit≤ tt; cycles = lit≤ tt; steps = lit≤ tt; bends = omega (arith, c.wide.ensures, c.ranges.k) },
        record { cells = lit≤ tt; cycles = lit≤ tt; steps = lit≤ tt; bends = lit≤ tt },
      );
    }

pub returns-in_err-late_asked-clause-obeyed : goal.returns-in_err-late_asked-clause-obeyed
returns-in_err-late_asked-clause-obeyed c =
    let a = c.args in
    closed_refused _ a.t c.requires.ready a.script.now a.f a.k a.first a.moved a.place
    (sym c.bends_within.ensures ∙ c.if-not-bends_within.false) (sym (all_yes c.in_ok-round_asked.was) ∙ c.round_asked.ensures) c.wide.result c.wide.ensures
    _ c.late_asked.ensures (some_no c.in_err-late_asked.was) _ (handed_on _ c.in_err-late_asked.was c.from_residual-in_err-late_asked.ensures)

pub cut_round-requires : goal.cut_round-requires
cut_round-requires c =
    let a = c.args in
    record {
      ready = c.requires.ready;
      round_cut = closed_cuts _ a.t c.requires.ready a.script.now a.f a.k a.first a.moved a.place
          (sym c.bends_within.ensures ∙ c.if-not-bends_within.false) (sym (all_yes c.in_ok-round_asked.was) ∙ c.round_asked.ensures) c.wide.result c.wide.ensures
          _ c.late_asked.ensures (all_yes c.in_ok-late_asked.was) c.requires.k_in_bounds c.requires.stand;
    }

pub returns-clause-obeyed : goal.returns-clause-obeyed
returns-clause-obeyed c =
    let a = c.args in
    let w = c.cut_round.ensures in
    closed_obeyed _ a.t c.requires.ready a.script.now a.f a.k a.first a.moved a.place
    (sym c.bends_within.ensures ∙ c.if-not-bends_within.false) (sym (all_yes c.in_ok-round_asked.was) ∙ c.round_asked.ensures) c.wide.result c.wide.ensures
    _ c.late_asked.ensures (all_yes c.in_ok-late_asked.was) _ w.next_after w.count_after w.holds _ refl
