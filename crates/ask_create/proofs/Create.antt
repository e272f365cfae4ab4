-- A new cell at the end of a sound drawing: kinds 01 to 04. Assumes nothing.
use Prim.Native.Nat.{ℕ}
use mathlib.Core.Path.{◌≡◌, refl, sym, ap, ◌∙◌, subst}
use mathlib.Core.Bool.{true, false, not}
use mathlib.Core.List.{List, [], ◌∷◌}
use native.Mathlib.Omega.{arith}
use lib.Dec.{T, leb}
use lib.ListN.{length}
use Rattle.coordinate.specs.declared.Position.{Position}
use Rattle.coordinate.specs.Bounds.{within}
use Rattle.complex.specs.Lists.{all, is_empty}
use Rattle.complex.specs.Cells.{Figure, vertex, open_edge, closed_edge, Sheet, cell_at, is_vertex}
use Rattle.complex.specs.Sound.{ids_end, cycles_in, steps_in, bends_in, ceilings}
use Rattle.complex.specs.Decode.{create}
use Rattle.complex.specs.Commands.{question4, question5, question6, result}
use Rattle.answer.specs.Sizes.{sized, nothing, more_less, changed_by, new_cells, change_of}
use Rattle.complex.proofs.Asked.{Passed, early_one, early_bends}
use Rattle.store.specs.declared.Drawing.{Drawing}
use Rattle.store.specs.declared.Index.{Index}
use Rattle.store.specs.Index.{Indexes}
use Rattle.store.specs.Sizes.{Sizes}
use Rattle.store.specs.View.{sheet_of, Fits}
use Rattle.store.specs.Edits.{appended}
use Rattle.sound.specs.Soundness.{sound_drawing}
use Rattle.sound.proofs.Meaning.{sound_fits}
use Rattle.rows_new.specs.Appends.{CellRoom}
use Rattle.rows_new.proofs.Appended.{appended_rebuild}
use Rattle.rows_new.proofs.Rooms.{room_first}
use Rattle.answer.specs.declared.Answer.{Answer}
use Rattle.answer.specs.declared.Totals.{Totals}
use Rattle.answer.specs.Late.{sizes_by, late_no}
use Rattle.answer.specs.Answers.{refusal, outcome, Answers}
use Rattle.answer.proofs.Laws.{totals_in}
use Rattle.answer.proofs.Asked.{Asked, asked_of, refuses, ids_hold, sizes_hold_lem, answers}

module _ (d : Drawing) (x : Figure) where
  one_new_lem : new_cells (sheet_of d) (create x) ≡ 1
  unfolding new_cells
  one_new_lem = refl

  one_more : change_of (sheet_of d) (create x) ≡ more_less (sized 1 (cycles_in x) (steps_in x) (bends_in x)) nothing
  unfolding change_of
  one_more = refl

  result_is : result (sheet_of d) (create x) ≡ appended (sheet_of d) x
  unfolding result
  result_is = sym (appended_rebuild (sheet_of d) x)

-- ---- what is known where `cell_asked` has answered r
module _ (d : Drawing) (z : Sizes d) (w : T (sound_drawing d)) (x : Figure) (p : Passed (sheet_of d) (create x)) (ix : Index) (ex : Indexes d ix) (t : Totals)
    (et : t ≡ totals_in d z (sound_fits d w) ix ex) (r : ℕ)
    (er : r ≡ late_no d.next 1 (changed_by (sizes_by t) (more_less (sized 1 (cycles_in x) (steps_in x) (bends_in x)) nothing))) where
  asked : Asked d (create x) r
  asked =
      asked_of d z w (create x) r
      (record {
        index = ix;
        indexes = ex;
        new = 1;
        totals = t;
        more = record { cells = 1; cycles = cycles_in x; steps = steps_in x; bends = bends_in x };
        less = record { cells = 0; cycles = 0; steps = 0; bends = 0 };
        passed = p;
        new_is = one_new_lem d x;
        change_is = one_more d x;
        totals_are = et;
        says = er;
      })

  pub cell_refuses : (r ≡ 0 → ⊥) → (a : Answer) → a ≡ refusal d r → Answers d (create x) a
  cell_refuses = refuses d z w (create x) r asked

  module _ (n : r ≡ 0) where
    pub cell_room : CellRoom d x
    unfolding sheet_of
    cell_room =
        room_first d z (sound_fits d w) x []
        (record {
          ids = subst (λ (s : Sheet). T (leb s.next ids_end)) (result_is d x) (ids_hold d z w (create x) r asked n);
          sizes = subst (λ (s : Sheet). T (ceilings s.cells)) (result_is d x) (sizes_hold_lem d z w (create x) r asked n);
        })

    module _ (out : Drawing) (zo : Sizes out) (go : Fits out) (m : sheet_of out ≡ appended (sheet_of d) x) where
      pub cell_answers : (a : Answer) → a ≡ outcome d.next d.count out → Answers d (create x) a
      cell_answers = answers d z w (create x) r asked n out zo go (m ∙ sym (result_is d x))

-- ---- 01: 4 to 6 have nothing to ask
pub vertex_passed : (d : Drawing) (p : Position) → within p ≡ true → Passed (sheet_of d) (create (vertex p))
unfolding question4 question5 question6
vertex_passed d p e = record { bytes = early_one (create (vertex p)) p refl e; four = refl; five = refl; six = refl }

-- ---- 02 and 03: the bends are read from a script
pub no_by_bends : (next : ℕ) (t : Totals) (r n : ℕ) (bs : List Position) → length bs ≡ n
    → r ≡ late_no next 1 (changed_by (sizes_by t) (more_less (sized 1 0 0 n) nothing))
    → r ≡ late_no next 1 (changed_by (sizes_by t) (more_less (sized 1 0 0 (length bs)) nothing))
no_by_bends next t r n bs e q = q ∙ ap (λ (k : ℕ). late_no next 1 (changed_by (sizes_by t) (more_less (sized 1 0 0 k) nothing))) (sym e)

module _ (d : Drawing) (a b : ℕ) (bs : List Position) where
  pub open_four_start : is_vertex (cell_at (sheet_of d) a) ≡ false → question4 (sheet_of d) (create (open_edge a b bs)) ≡ false
  unfolding question4
  open_four_start e = rw e

  pub open_four_end : is_vertex (cell_at (sheet_of d) a) ≡ true → is_vertex (cell_at (sheet_of d) b) ≡ false
      → question4 (sheet_of d) (create (open_edge a b bs)) ≡ false
  unfolding question4
  open_four_end e f = rw (e, f)

  pub open_passed : all within bs ≡ true → is_vertex (cell_at (sheet_of d) a) ≡ true → is_vertex (cell_at (sheet_of d) b) ≡ true
      → Passed (sheet_of d) (create (open_edge a b bs))
  unfolding question4 question5 question6
  open_passed g e f = record { bytes = early_bends (create (open_edge a b bs)) g; four = rw (e, f); five = refl; six = refl }

some_bends : (bs : List Position) → (length bs ≡ 0 → ⊥) → not (is_empty bs) ≡ true
some_bends [] h = absurd (h refl)
some_bends (b ∷ bs) h = refl

no_bends : (bs : List Position) → length bs ≡ 0 → not (is_empty bs) ≡ false
no_bends [] h = refl
no_bends (b ∷ bs) h = absurd (omega arith)

module _ (d : Drawing) (bs : List Position) where
  pub closed_four : question4 (sheet_of d) (create (closed_edge bs)) ≡ true
  unfolding question4
  closed_four = refl

  pub closed_five : length bs ≡ 0 → question5 (sheet_of d) (create (closed_edge bs)) ≡ false
  unfolding question5
  closed_five e = no_bends bs e

  pub closed_passed : all within bs ≡ true → (length bs ≡ 0 → ⊥) → Passed (sheet_of d) (create (closed_edge bs))
  unfolding question5 question6
  closed_passed g h = record { bytes = early_bends (create (closed_edge bs)) g; four = closed_four; five = some_bends bs h; six = refl }
