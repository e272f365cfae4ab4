-- `add_closed` meets its contract: questions 3 and 5, then the edge. Assumes nothing.
use Prim.Native.Nat.{ℕ}
use mathlib.Core.Path.{◌≡◌, refl, sym, ◌∙◌}
use mathlib.Core.Bool.{true}
use mathlib.Core.List.{List}
use Rattle.coordinate.specs.Bounds.{within}
use Rattle.bends.specs.Bends.{positions_at}
use Rattle.bends.proofs.Laws.{positions_length}
use Rattle.complex.specs.Lists.{all}
use Rattle.complex.specs.Cells.{closed_edge}
use Rattle.complex.specs.Decode.{create}
use Rattle.complex.proofs.Asked.{early_bends, no_5, Passed}
use Rattle.store.specs.View.{sheet_of}
use Rattle.answer.specs.declared.Totals.{Totals}
use Rattle.ask_create.proofs.Create.{closed_four, closed_five, closed_passed}
use Rattle.lent.specs.Arrays.{Arrays, held_by}
use Rattle.lent.specs.declared.Line.{Line}
use Rattle.lent.specs.Replies.{line_of, Ready, Obeyed}
use Rattle.lent.proofs.Sums.{ready_no}
use Rattle.kind_create.specs.Edges.{closed_row}
use Rattle.kind_create.proofs.Edges.{bends_out}
use Rattle.kind_create.proofs.add_closed.Goals as goal

module _ {a : Arrays} {t : Totals} (y : Ready a t) (script : List ℕ) (first k : ℕ) (b : all within (positions_at script first k) ≡ true) where
  no_bend : k ≡ 0 → (l : Line) → l ≡ line_of 5 → Obeyed a (create (closed_edge (positions_at script first k))) a l
  no_bend z l el =
      let bs = positions_at script first k in
      let q = create (closed_edge bs) in
      ready_no a t y q 5 l el
      (no_5 _ q (early_bends q b) (closed_four (held_by a) bs) (closed_five (held_by a) bs (positions_length script first k ∙ z)))

  passed : (k ≡ 0 → ⊥) → Passed (sheet_of (held_by a)) (create (closed_edge (positions_at script first k)))
  passed z = closed_passed (held_by a) (positions_at script first k) b (λ n. z (sym (positions_length script first k) ∙ n))

pub returns-then-not-bends_within-clause-obeyed : goal.returns-then-not-bends_within-clause-obeyed
returns-then-not-bends_within-clause-obeyed c =
    let a = c.args in
    bends_out _ a.t c.requires.ready (create (closed_edge (positions_at a.script.now a.first a.k))) _ c.bends_within.ensures
    c.if-not-bends_within.true _ refl

pub returns-then-k-eq0-clause-obeyed : goal.returns-then-k-eq0-clause-obeyed
returns-then-k-eq0-clause-obeyed c =
    let a = c.args in
    no_bend c.requires.ready a.script.now a.first a.k (sym c.bends_within.ensures ∙ c.if-not-bends_within.false) c.if-k-eq0.true _
    refl

pub add_edge-requires : goal.add_edge-requires
add_edge-requires c =
    let a = c.args in
    record {
      ready = c.requires.ready;
      bytes = c.requires.k_in_bounds;
      row = closed_row;
      passed = passed c.requires.ready a.script.now a.first a.k (sym c.bends_within.ensures ∙ c.if-not-bends_within.false) c.if-k-eq0.false;
    }
