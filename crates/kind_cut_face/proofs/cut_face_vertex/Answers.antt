-- `cut_face_vertex` meets its contract: questions 3, 4, 7 and 8, then the cut. Assumes nothing.
use borrow.Author.Tests.{ne_eqb, eq-eqb}
use Prim.Native.Nat.{ℕ, ◌≤◌}
use mathlib.Core.Path.{◌≡◌, refl, sym, ap, ◌∙◌}
use mathlib.Core.Bool.{true, false}
use lib.Dec.{eqb}
use Rattle.std.specs.Prelude.{Ok}
use Rattle.lent.specs.declared.Change.{Change}
use Rattle.coordinate.specs.declared.Position.{Position}
use Rattle.coordinate.specs.Bounds.{within}
use Rattle.complex.specs.Cells.{cell_at, is_face}
use Rattle.complex.specs.Decode.{cut_face_vertex}
use Rattle.complex.proofs.Asked.{no_3, no_4, early_one, out_one}
use Rattle.store.specs.View.{sheet_of}
use Rattle.sound.specs.Looks.{index_value}
use Rattle.answer.specs.declared.Totals.{Totals}
use Rattle.answer.proofs.Asked.{next_in_lem}
use Rattle.rows_corners.proofs.Edits.{face_told}
use Rattle.law_cut_face.proofs.Edits.{vertex_four}
use Rattle.lent.specs.Arrays.{Arrays, held_by, rows_by}
use Rattle.lent.specs.declared.Line.{Line}
use Rattle.lent.specs.Replies.{line_of, Ready, Obeyed, line_says}
use Rattle.lent.proofs.Sums.{ready_sizes, ready_drawing, ready_indexes, ready_looks, ready_small, ready_no}
use Rattle.kind_cut_face.proofs.Lone.{vertex_refused, vertex_cuts, vertex_obeyed}
use Rattle.answer.proofs.Questions.{all_yes, some_no}
use Rattle.lent.proofs.Refusals.{handed_on}
use Rattle.kind_cut_face.proofs.cut_face_vertex.Goals as goal

next_most : {a : Arrays} {t : Totals} → Ready a t → a.next ≤ 65536
next_most {a} {t} y = next_in_lem (held_by a) (ready_drawing a t y)

-- k is the kind in the row of f
module _ {a : Arrays} {t : Totals} (y : Ready a t) (f : ℕ) {k : ℕ} (e : k ≡ index_value 4 (held_by a) (rows_by a) a.kinds f) where
  kind : is_face (cell_at (sheet_of (held_by a)) f) ≡ eqb k 3
  kind = face_told (held_by a) (ready_sizes a t y) (ready_drawing a t y) (rows_by a) (ready_indexes a t y) f _ (ap (λ (n : ℕ). eqb n 3) e)

  there : k ≡ 3 → is_face (cell_at (sheet_of (held_by a)) f) ≡ true
  there z = kind ∙ eq-eqb k 3 z

  no_face : (p : Position) → within p ≡ true → (k ≡ 3 → ⊥) → (l : Line) → l ≡ line_of 4 → Obeyed a (cut_face_vertex f p) a l
  no_face p b z l el =
      let q = cut_face_vertex f p in
      ready_no a t y q 4 l el (no_4 _ q (early_one q p refl b) (vertex_four (sheet_of (held_by a)) f p false (kind ∙ ne_eqb k 3 z)))

pub returns-then-not-in_bounds-clause-obeyed : goal.returns-then-not-in_bounds-clause-obeyed
returns-then-not-in_bounds-clause-obeyed c =
    let q = cut_face_vertex c.args.f c.args.p in
    ready_no _ c.args.t c.requires q 3 _ refl (no_3 _ q (out_one q c.args.p refl (sym c.in_bounds.ensures ∙ c.if-not-in_bounds.true)))

pub value_at-kind-requires-clause-rising : goal.value_at-kind-requires-clause-rising
value_at-kind-requires-clause-rising c = (ready_looks _ _ c.requires).rising

pub returns-then-kind-ne3-clause-obeyed : goal.returns-then-kind-ne3-clause-obeyed
returns-then-kind-ne3-clause-obeyed c =
    no_face c.requires c.args.f c.value_at-kind.ensures c.args.p (sym c.in_bounds.ensures ∙ c.if-not-in_bounds.false) c.if-kind-ne3.true _
    refl

pub cell_asked-requires-clause-next_le_ids_end : goal.cell_asked-requires-clause-next_le_ids_end
cell_asked-requires-clause-next_le_ids_end c = next_most c.requires

pub cell_asked-requires-clause-small : goal.cell_asked-requires-clause-small
cell_asked-requires-clause-small c = ready_small _ _ c.requires

pub returns-in_err-cell_asked-clause-obeyed : goal.returns-in_err-cell_asked-clause-obeyed
returns-in_err-cell_asked-clause-obeyed c =
    vertex_refused _ c.args.t c.requires c.args.f c.args.p (sym c.in_bounds.ensures ∙ c.if-not-in_bounds.false)
    (there c.requires c.args.f c.value_at-kind.ensures c.if-kind-ne3.false) _ c.cell_asked.ensures (some_no c.in_err-cell_asked.was) _
    (handed_on _ c.in_err-cell_asked.was c.from_residual.ensures)

pub cut_at-requires : goal.cut_at-requires
cut_at-requires c =
    vertex_cuts _ c.args.t c.requires c.args.f c.args.p (sym c.in_bounds.ensures ∙ c.if-not-in_bounds.false)
    (there c.requires c.args.f c.value_at-kind.ensures c.if-kind-ne3.false) _ c.cell_asked.ensures (all_yes c.in_ok-cell_asked.was)

pub returns-clause-obeyed : goal.returns-clause-obeyed
returns-clause-obeyed c =
    let w = c.cut_at.ensures in
    vertex_obeyed _ c.args.t c.requires c.args.f c.args.p (sym c.in_bounds.ensures ∙ c.if-not-in_bounds.false)
    (there c.requires c.args.f c.value_at-kind.ensures c.if-kind-ne3.false) _ c.cell_asked.ensures (all_yes c.in_ok-cell_asked.was)
    _ w.next_after w.count_after w.holds _ (ap (λ (u : Change). line_says (Ok u)) w.value)
