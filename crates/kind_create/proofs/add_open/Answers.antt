-- `add_open` meets its contract: questions 3 and 4, then the edge. Assumes nothing.
use borrow.Author.Tests.{eq-eqb, ne_eqb}
use Prim.Native.Nat.{ℕ}
use mathlib.Core.Path.{◌≡◌, refl, sym, ◌∙◌}
use mathlib.Core.Bool.{true, false}
use mathlib.Core.List.{List}
use lib.Dec.{eqb}
use Rattle.coordinate.specs.declared.Position.{Position}
use Rattle.coordinate.specs.Bounds.{within}
use Rattle.bends.specs.Bends.{positions_at}
use Rattle.complex.specs.Lists.{all}
use Rattle.complex.specs.Cells.{open_edge, cell_at, is_vertex}
use Rattle.complex.specs.Decode.{create}
use Rattle.complex.proofs.Asked.{early_bends, no_4, Passed}
use Rattle.store.specs.View.{sheet_of}
use Rattle.sound.specs.Looks.{index_value}
use Rattle.answer.specs.declared.Totals.{Totals}
use Rattle.answer.proofs.Asked.{kind_vertex}
use Rattle.ask_create.proofs.Create.{open_four_start, open_four_end, open_passed}
use Rattle.lent.specs.Arrays.{Arrays, held_by, rows_by}
use Rattle.lent.specs.declared.Line.{Line}
use Rattle.lent.specs.Replies.{line_of, Ready, Obeyed}
use Rattle.lent.proofs.Sums.{ready_drawing, ready_sizes, ready_indexes, ready_looks, ready_no}
use Rattle.kind_create.specs.Edges.{open_row}
use Rattle.kind_create.proofs.Edges.{bends_out}
use Rattle.kind_create.proofs.add_open.Goals as goal

module _ {a : Arrays} {t : Totals} (y : Ready a t) where
  -- k is the kind in the row of v
  module _ (v : ℕ) {k : ℕ} (e : k ≡ index_value 4 (held_by a) (rows_by a) a.kinds v) where
    kind : eqb k 0 ≡ is_vertex (cell_at (sheet_of (held_by a)) v)
    kind = kind_vertex (held_by a) (ready_sizes a t y) (ready_drawing a t y) (rows_by a) (ready_indexes a t y) v k e

    there : k ≡ 0 → is_vertex (cell_at (sheet_of (held_by a)) v) ≡ true
    there z = sym kind ∙ eq-eqb k 0 z

    missing : (k ≡ 0 → ⊥) → is_vertex (cell_at (sheet_of (held_by a)) v) ≡ false
    missing z = sym kind ∙ ne_eqb k 0 z

  module _ (v w : ℕ) (bs : List Position) (b : all within bs ≡ true) where
    no_start : is_vertex (cell_at (sheet_of (held_by a)) v) ≡ false → (l : Line) → l ≡ line_of 4 → Obeyed a (create (open_edge v w bs)) a l
    no_start n l el =
        let q = create (open_edge v w bs) in
        ready_no a t y q 4 l el (no_4 _ q (early_bends q b) (open_four_start (held_by a) v w bs n))

    module _ (m : is_vertex (cell_at (sheet_of (held_by a)) v) ≡ true) where
      no_end : is_vertex (cell_at (sheet_of (held_by a)) w) ≡ false → (l : Line) → l ≡ line_of 4 → Obeyed a (create (open_edge v w bs)) a l
      no_end n l el =
          let q = create (open_edge v w bs) in
          ready_no a t y q 4 l el (no_4 _ q (early_bends q b) (open_four_end (held_by a) v w bs m n))

      passed : is_vertex (cell_at (sheet_of (held_by a)) w) ≡ true → Passed (sheet_of (held_by a)) (create (open_edge v w bs))
      passed n = open_passed (held_by a) v w bs b m n

pub returns-then-not-bends_within-clause-obeyed : goal.returns-then-not-bends_within-clause-obeyed
returns-then-not-bends_within-clause-obeyed c =
    let a = c.args in
    bends_out _ a.t c.requires.ready (create (open_edge a.start a.end (positions_at a.script.now a.first a.k))) _ c.bends_within.ensures
    c.if-not-bends_within.true _ refl

pub value_at-a-requires-clause-rising : goal.value_at-a-requires-clause-rising
value_at-a-requires-clause-rising c = (ready_looks _ _ c.requires.ready).rising

pub returns-then-a-ne0-clause-obeyed : goal.returns-then-a-ne0-clause-obeyed
returns-then-a-ne0-clause-obeyed c =
    let a = c.args in
    let r = c.requires.ready in
    no_start r a.start a.end (positions_at a.script.now a.first a.k) (sym c.bends_within.ensures ∙ c.if-not-bends_within.false)
    (missing r a.start c.value_at-a.ensures c.if-a-ne0.true) _ refl

pub value_at-b-requires-clause-rising : goal.value_at-b-requires-clause-rising
value_at-b-requires-clause-rising c = (ready_looks _ _ c.requires.ready).rising

pub returns-then-b-ne0-clause-obeyed : goal.returns-then-b-ne0-clause-obeyed
returns-then-b-ne0-clause-obeyed c =
    let a = c.args in
    let r = c.requires.ready in
    no_end r a.start a.end (positions_at a.script.now a.first a.k) (sym c.bends_within.ensures ∙ c.if-not-bends_within.false)
    (there r a.start c.value_at-a.ensures c.if-a-ne0.false) (missing r a.end c.value_at-b.ensures c.if-b-ne0.true) _ refl

pub add_edge-requires : goal.add_edge-requires
add_edge-requires c =
    let a = c.args in
    let r = c.requires.ready in
    record {
      ready = r;
      bytes = c.requires.k_in_bounds;
      row = open_row {s = a.start} {e = a.end};
      passed = passed r a.start a.end (positions_at a.script.now a.first a.k) (sym c.bends_within.ensures ∙ c.if-not-bends_within.false)
          (there r a.start c.value_at-a.ensures c.if-a-ne0.false) (there r a.end c.value_at-b.ensures c.if-b-ne0.false);
    }
