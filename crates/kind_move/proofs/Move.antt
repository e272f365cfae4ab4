-- 05: the arrays with another position in the row of a vertex. Assumes nothing.
use Prim.Native.Nat.{ℕ, ◌+◌, ◌-◌, ◌<◌}
use native.Mathlib.Omega.{arith}
use mathlib.Core.Path.{◌≡◌, refl, sym, ap, ap₂, ◌∙◌, subst}
use mathlib.Core.Bool.{true, cond}
use mathlib.Core.List.{List}
use lib.Ieee.{Float}
use lib.Dec.{T, eqb}
use lib.ListN.{get_or, set, take, length-set}
use lib.Seq.{get_or-take, set-get_or}
use borrow.Author.Tests.{eq-eqb}
use Rattle.coordinate.specs.declared.Position.{Position}
use Rattle.coordinate.specs.Bounds.{within}
use Rattle.complex.specs.Decode.{move}
use Rattle.store.specs.declared.Shape.{Shape}
use Rattle.store.specs.declared.Shape.TheVariants.{Vertex}
use Rattle.store.specs.declared.Drawing.{Drawing}
use Rattle.store.specs.Edits.{with_cells}
use Rattle.store.specs.Index.{row_of}
use Rattle.store.proofs.Rows.{get_d_any}
use Rattle.rows_steps.proofs.Renamed.{no_cell}
use Rattle.rows_steps.proofs.Placed.{row_counted, moved_is}
use Rattle.sound.specs.Looks.{index_value}
use Rattle.sound.proofs.Meaning.{sound_fits}
use Rattle.answer.specs.Answers.{outcome, Answers}
use Rattle.answer.proofs.Asked.{kind_vertex}
use Rattle.law_move_delete.proofs.Edit.{move_passed, move_row, move_new, move_change, move_result, edit_answers}
use Rattle.lent.specs.Arrays.{Arrays, shape_by, shape_at, cells_by, held_by, rows_by, sound_arrays, Lengths}
use Rattle.lent.proofs.Held.{held_sizes, held_indexes, cells_set, cells_id, place_other, place_same}
use Rattle.lent.specs.declared.Line.{Line}
use Rattle.lent.specs.Replies.{line_of, answer_by, Obeyed}
use Rattle.lent.proofs.Replies.{rows_of, drawing_of}

-- the arrays with other positions
abbrev pub with_places : Arrays → List Float → List Float → Arrays
with_places a xs ys =
    record {
      next = a.next;
      count = a.count;
      ids = a.ids;
      kinds = a.kinds;
      starts = a.starts;
      ends = a.ends;
      bends = a.bends;
      counts = a.counts;
      px = xs;
      py = ys;
      cycles = a.cycles;
      steps = a.steps;
      bx = a.bx;
      by = a.by;
    }

module _ (a : Arrays) (l : Lengths a) (row : ℕ) (p : Position) (h : row < 256) (k : get_or a.kinds row 0 ≡ 0) where
  abbrev after : Arrays
  after = with_places a (set a.px row p.x) (set a.py row p.y)

  here : shape_at after row ≡ Vertex p
  here =
      let q = place_same a.px a.py row p (omega (arith, l.px)) (omega (arith, l.py)) in
      λ i. shape_by (k i) (get_or a.starts row 0) (get_or a.ends row 0) (get_or a.bends row 0) (get_or a.counts row 0) (q i)

  there : (j : ℕ) → (j ≡ row → ⊥) → shape_at after j ≡ shape_at a j
  there j n = ap (shape_by (get_or a.kinds j 0) (get_or a.starts j 0) (get_or a.ends j 0) (get_or a.bends j 0) (get_or a.counts j 0))
      (place_other a.px a.py row j p n)

  -- the arrays hold the drawing with the vertex at its new place
  pub held_moved : held_by after ≡ with_cells (held_by a) a.next a.count
      (set (held_by a).cells row (record { id = (get_or (held_by a).cells row no_cell).id; shape = Vertex p }))
  held_moved =
      let cs = cells_by (shape_at a) a.ids in
      ap (with_cells (held_by a) a.next a.count)
      (ap (cells_by (shape_at after)) (sym (set-get_or a.ids row 0))
      ∙ cells_set (shape_at a) (shape_at after) row (get_or a.ids row 0) a.ids (omega (arith, l.ids)) there
      ∙ ap₂ (λ (i : ℕ) (s : Shape). set cs row (record { id = i; shape = s })) (sym (cells_id (shape_at a) a.ids row no_cell (omega (arith, h, l.ids)))) here)

outcome_is : (next n : ℕ) (out : Drawing) → out.next ≡ next → out.count ≡ n
    → record { number = 0; first = 0; new = 0; removed = 0; drawing = out } ≡ outcome next n out
outcome_is next n out e f =
    let g : out.next - next ≡ 0 = omega (arith, e) in
    let h : n + (out.next - next) - out.count ≡ 0 = omega (arith, e, f) in
    λ i. record { number = 0; first = cond (eqb (sym g i) 0) 0 next; new = sym g i; removed = sym h i; drawing = out }

module _ (a : Arrays) (l : Lengths a) (w : T (sound_arrays a)) (v : ℕ) (p : Position) (k row : ℕ) (e : k ≡ index_value 4 (held_by a) (rows_by a) a.kinds v)
    (k0 : k ≡ 0) (er : row ≡ row_of v (take a.count a.ids)) where
  moved_row : row < 256
  moved_row =
      let d = held_by a in
      let x = held_indexes a l (rows_of a w) in
      let f = sound_fits d (drawing_of a w) in
      omega (arith, row_counted d row (held_sizes a l) f (move_row d (rows_by a) x v k row e er k0), f.cells)

  pub obeyed_moved : within p ≡ true → (xs ys : List Float) → xs ≡ set a.px row p.x → ys ≡ set a.py row p.y → (r : Line) → r ≡ line_of 0
      → Obeyed a (move v p) (with_places a xs ys) r
  obeyed_moved b xs ys ex ey r el =
      let d = held_by a in
      let s = drawing_of a w in
      let z = held_sizes a l in
      let x = held_indexes a l (rows_of a w) in
      let f = sound_fits d s in
      let g = move_row d (rows_by a) x v k row e er k0 in
      let h = row_counted d row z f g in
      let m = moved_is p d row z f g in
      let hr : row < 256 = moved_row in
      let kr : get_or a.kinds row 0 ≡ 0 = get_d_any a.kinds row 0 4 (omega (arith, hr, l.kinds)) ∙ sym (get_or-take a.count a.kinds row 4 h)
      ∙ ap (λ (q : List ℕ). get_or q row 4) x.kinds ∙ g in
      let t : held_by (with_places a xs ys) ≡ with_cells d a.next a.count
      (set d.cells row (record { id = (get_or d.cells row no_cell).id; shape = Vertex p })) =
      ap₂ (λ (us vs : List Float). held_by (with_places a us vs)) ex ey ∙ held_moved a l row p hr kr in
      let out = with_cells d a.next a.count (set d.cells row (record { id = (get_or d.cells row no_cell).id; shape = Vertex p })) in
      record {
        answers =
            subst (λ (q : Drawing). Answers d (move v p) (answer_by r q)) (sym t)
            (edit_answers d z s (move v p) (move_new d v p) (move_change d v p)
            (move_passed d v p b (sym (kind_vertex d z s (rows_by a) x v k e) ∙ eq-eqb k 0 k0))
            out (record { cells = length-set d.cells row _ ∙ z.cells; cycles = z.cycles; steps = z.steps; bends = z.bends }) m.1
            (m.0 ∙ move_result d z s (rows_by a) x v p row er h)
            (answer_by r out) (ap (λ (u : Line). answer_by u out) el ∙ outcome_is a.next a.count out refl refl));
        back = λ n. absurd (n (ap (λ (u : Line). u.number) el));
        rows = rows_of a w;
      }
