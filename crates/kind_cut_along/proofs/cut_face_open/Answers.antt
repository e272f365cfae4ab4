-- `cut_face_open` meets its contract: questions 3 to 5, 7 and 8, and then the cut, with small lists or large ones. Assumes nothing.
use Prim.Native.Nat.{◌≤◌}
use mathlib.Core.Path.{refl, sym, ◌∙◌}
use Rattle.answer.specs.declared.Totals.{Totals}
use Rattle.answer.proofs.Asked.{next_in_lem}
use Rattle.lent.specs.Arrays.{Arrays, held_by}
use Rattle.lent.specs.Replies.{Ready}
use Rattle.lent.proofs.Finds.{ready_finds}
use Rattle.lent.proofs.Sums.{ready_fits, ready_looks, ready_drawing, ready_small}
use Rattle.kind_cut_along.proofs.Opening.{bends_no, face_no_lem, counted, corners_ask, five}
use Rattle.kind_cut_along.proofs.Cutting.{in_array, late_no_lem, goes_small, goes_large}
use Rattle.answer.proofs.Questions.{all_yes, some_no}
use Rattle.lent.proofs.Refusals.{handed_on}
use Rattle.kind_cut_along.proofs.cut_face_open.Goals as goal

next_most : {a : Arrays} {t : Totals} → Ready a t → a.next ≤ 65536
next_most {a} {t} y = next_in_lem (held_by a) (ready_drawing a t y)

pub bends_within-requires : goal.bends_within-requires
bends_within-requires c = c.requires.in_script.0

pub returns-then-not-bends_within-clause-obeyed : goal.returns-then-not-bends_within-clause-obeyed
returns-then-not-bends_within-clause-obeyed c =
    let a = c.args in
    bends_no _ a.t c.requires.ready a.script.now a.f a.c1 a.s1 a.c2 a.s2 a.k a.first a.moved a.place
    (sym c.bends_within.ensures ∙ c.if-not-bends_within.true) _ refl

pub value_at-kind-requires : goal.value_at-kind-requires
value_at-kind-requires c =
    let y = c.requires.ready in
    record {
      n_bound = (ready_fits _ _ y).cells;
      ids_len = y.long.ids;
      values_len = y.long.kinds;
      rising = (ready_looks _ _ y).rising;
    }

pub returns-then-kind-ne3-clause-obeyed : goal.returns-then-kind-ne3-clause-obeyed
returns-then-kind-ne3-clause-obeyed c =
    let a = c.args in
    face_no_lem _ a.t c.requires.ready a.script.now a.f a.c1 a.s1 a.c2 a.s2 a.k a.first a.moved a.place
    (sym c.bends_within.ensures ∙ c.if-not-bends_within.false) c.value_at-kind.result c.value_at-kind.ensures c.if-kind-ne3.true _ refl

pub find-row-requires : goal.find-row-requires
find-row-requires c = let whole = ready_finds _ _ c.requires.ready in record {
  n_bound = whole.0;
  ids_len = whole.1.0;
  rising = whole.1.1;
}

pub spans_at-spans-requires : goal.spans_at-spans-requires
spans_at-spans-requires c =
    let a = c.args in
    counted _ a.t c.requires.ready a.script.now a.f a.c1 a.s1 a.c2 a.s2 a.k a.first a.moved a.place
    (sym c.bends_within.ensures ∙ c.if-not-bends_within.false) c.value_at-kind.result c.value_at-kind.ensures c.if-kind-ne3.false c.find-row.result c.find-row.ensures

pub corners_exist-requires : goal.corners_exist-requires
corners_exist-requires c =
    let a = c.args in
    let whole =
    corners_ask _ a.t c.requires.ready a.script.now a.f a.c1 a.s1 a.c2 a.s2 a.k a.first a.moved a.place
    (sym c.bends_within.ensures ∙ c.if-not-bends_within.false) c.value_at-kind.result c.value_at-kind.ensures c.if-kind-ne3.false c.find-row.result c.find-row.ensures
    c.spans_at-spans.result c.spans_at-spans.ensures c.requires.in_script.1 in record {
      ruled = whole.0;
      within = whole.1.0;
      stand = whole.1.1;
    }

pub returns-then-not-corners_exist-clause-obeyed : goal.returns-then-not-corners_exist-clause-obeyed
returns-then-not-corners_exist-clause-obeyed c =
    let a = c.args in
    let said =
    five _ a.t c.requires.ready a.script.now a.f a.c1 a.s1 a.c2 a.s2 a.k a.first a.moved a.place
    (sym c.bends_within.ensures ∙ c.if-not-bends_within.false) c.value_at-kind.result c.value_at-kind.ensures c.if-kind-ne3.false c.find-row.result c.find-row.ensures
    c.spans_at-spans.result c.spans_at-spans.ensures c.corners_exist.result c.corners_exist.ensures c.requires.in_script.0 c.requires.in_script.1 in
    said.refused c.if-not-corners_exist.true _ refl

pub cut_asked-requires : goal.cut_asked-requires
cut_asked-requires c =
    let a = c.args in
    let said =
    five _ a.t c.requires.ready a.script.now a.f a.c1 a.s1 a.c2 a.s2 a.k a.first a.moved a.place
    (sym c.bends_within.ensures ∙ c.if-not-bends_within.false) c.value_at-kind.result c.value_at-kind.ensures c.if-kind-ne3.false c.find-row.result c.find-row.ensures
    c.spans_at-spans.result c.spans_at-spans.ensures c.corners_exist.result c.corners_exist.ensures c.requires.in_script.0 c.requires.in_script.1 in
    let inside = in_array _ a.t a.script.now a.f c.spans_at-spans.result a.c1 a.s1 a.c2 a.s2 a.k a.first a.moved a.place (said.passes c.if-not-corners_exist.false) in record {
      next_le_ids_end = next_most c.requires.ready;
      small = ready_small _ _ c.requires.ready;
      c1_bound = inside.0;
      c2_bound = inside.1;
    }

pub returns-in_err-cut_asked-clause-obeyed : goal.returns-in_err-cut_asked-clause-obeyed
returns-in_err-cut_asked-clause-obeyed c =
    let a = c.args in
    let said =
    five _ a.t c.requires.ready a.script.now a.f a.c1 a.s1 a.c2 a.s2 a.k a.first a.moved a.place
    (sym c.bends_within.ensures ∙ c.if-not-bends_within.false) c.value_at-kind.result c.value_at-kind.ensures c.if-kind-ne3.false c.find-row.result c.find-row.ensures
    c.spans_at-spans.result c.spans_at-spans.ensures c.corners_exist.result c.corners_exist.ensures c.requires.in_script.0 c.requires.in_script.1 in
    late_no_lem _ a.t a.script.now a.f c.spans_at-spans.result a.c1 a.s1 a.c2 a.s2 a.k a.first a.moved a.place (said.passes c.if-not-corners_exist.false)
    _ c.cut_asked.ensures (some_no c.in_err-cut_asked.was) _ (handed_on _ c.in_err-cut_asked.was c.from_residual.ensures)

pub cut_in-requires : goal.cut_in-requires
cut_in-requires c =
    let a = c.args in
    let said =
    five _ a.t c.requires.ready a.script.now a.f a.c1 a.s1 a.c2 a.s2 a.k a.first a.moved a.place
    (sym c.bends_within.ensures ∙ c.if-not-bends_within.false) c.value_at-kind.result c.value_at-kind.ensures c.if-kind-ne3.false c.find-row.result c.find-row.ensures
    c.spans_at-spans.result c.spans_at-spans.ensures c.corners_exist.result c.corners_exist.ensures c.requires.in_script.0 c.requires.in_script.1 in
    goes_small _ a.t a.script.now a.f c.spans_at-spans.result a.c1 a.s1 a.c2 a.s2 a.k a.first a.moved a.place (said.passes c.if-not-corners_exist.false)
    (sym c.cut_asked.ensures ∙ (all_yes c.in_ok-cut_asked.was)) c.find-row.result c.find-row.ensures c.few.result c.few.ensures c.if-few.true

pub returns-then-few-clause-obeyed : goal.returns-then-few-clause-obeyed
returns-then-few-clause-obeyed c = c.cut_in.ensures.obeyed

pub cut_in-requires-2 : goal.cut_in-requires-2
cut_in-requires-2 c =
    let a = c.args in
    let said =
    five _ a.t c.requires.ready a.script.now a.f a.c1 a.s1 a.c2 a.s2 a.k a.first a.moved a.place
    (sym c.bends_within.ensures ∙ c.if-not-bends_within.false) c.value_at-kind.result c.value_at-kind.ensures c.if-kind-ne3.false c.find-row.result c.find-row.ensures
    c.spans_at-spans.result c.spans_at-spans.ensures c.corners_exist.result c.corners_exist.ensures c.requires.in_script.0 c.requires.in_script.1 in
    goes_large _ a.t a.script.now a.f c.spans_at-spans.result a.c1 a.s1 a.c2 a.s2 a.k a.first a.moved a.place (said.passes c.if-not-corners_exist.false)
    (sym c.cut_asked.ensures ∙ (all_yes c.in_ok-cut_asked.was)) c.find-row.result c.find-row.ensures

pub returns-clause-obeyed : goal.returns-clause-obeyed
returns-clause-obeyed c = c.cut_in-2.ensures.obeyed
