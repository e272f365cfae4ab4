-- 0C in lent arrays: questions 3 to 5. Assumes nothing.
use Prim.Native.Nat.{ℕ, ◌+◌, ◌*◌, ◌<◌, ◌≤◌}
use mathlib.Core.Path.{◌≡◌, refl, sym, ap, subst, ◌∙◌}
use mathlib.Core.Bool.{Bool, true, false, ◌&&◌}
use mathlib.Core.List.{List}
use borrow.Author.Tests.{eq-eqb, ne_eqb}
use lib.Dec.{eqb}
use lib.ListN.{length, take}
use Rattle.number.specs.Readers.{all}
use Rattle.number.specs.Numbers.{read_number}
use Rattle.coordinate.specs.Bounds.{within}
use Rattle.bends.specs.Bends.{positions_at}
use Rattle.complex.specs.Cells.{Cycle, Look, cell_at, cycles_of}
use Rattle.complex.specs.Decode.{Command, cut_face_open}
use Rattle.complex.specs.Cut.{cut_corners}
use Rattle.store.specs.Index.{row_of, value_at}
use Rattle.store.specs.View.{sheet_of}
use Rattle.rows_spans.specs.declared.Spans.{Spans}
use Rattle.rows_spans.specs.Runs.{spans_of}
use Rattle.answer.specs.declared.Totals.{Totals}
use Rattle.decode_parts.specs.Lists.{Stand, numbers_read}
use Rattle.rows_corners.specs.Faces.{Spanned, Within, Named}
use Rattle.rows_corners.proofs.Rows.{live, spanned}
use Rattle.rows_corners.proofs.Edits.{face_told, named_in}
use Rattle.rows_split.proofs.Corners.{cycles_count}
use Rattle.ask_cut_along.specs.Corners.{corner_on, moved_fit}
use Rattle.ask_cut_along.proofs.Corners.{corner_told, first_missing, second_missing, both_there}
use Rattle.ask_cut_along.proofs.Passing.{outside, no_face, no_corner}
use Rattle.lent.specs.Arrays.{Arrays, held_by, rows_by}
use Rattle.lent.specs.declared.Line.{Line}
use Rattle.lent.specs.Replies.{line_of, Ready, Obeyed}
use Rattle.lent.proofs.Sums.{ready_sizes, ready_drawing, ready_indexes, ready_cells, ready_no}
use Rattle.lent.proofs.Finds.{ready_finds}
use Rattle.kernel_cycles.specs.Replacing.{RowCounted}
use Rattle.kernel_cycles.proofs.Ready.{ready_counted}
use Rattle.kind_cut_chord.specs.Chords.{Ruled, corners_by}
use Rattle.kind_cut_along.specs.Cuts.{Asks}

-- what was found of the two corners, and of the moved cycles among n, is question 5
corners_are : (look : Look) (ks : List Cycle) (c1 s1 c2 s2 : ℕ) (ms : List ℕ) (n : ℕ) → n ≡ length ks → (x y : Bool) → x ≡ corner_on look ks c1 s1 → y ≡
    corner_on look ks c2 s2
    → (x && (y && moved_fit n c1 c2 ms)) ≡ cut_corners look ks c1 s1 c2 s2 ms
corners_are look ks c1 s1 c2 s2 ms n en false y ex ey = first_missing look ks c1 s1 c2 s2 ms false ex refl
corners_are look ks c1 s1 c2 s2 ms n en true false ex ey = second_missing look ks c1 s1 c2 s2 ms true ex refl false ey refl
corners_are look ks c1 s1 c2 s2 ms n en true true ex ey = both_there look ks c1 s1 c2 s2 ms true ex refl true ey refl n en (moved_fit n c1 c2 ms) refl

-- b is what question 5 says: on a no its line is the answer, and else questions 3 to 6 got a yes
pub record Five (a : Arrays) (t : Totals) (script : List ℕ) (f : ℕ) (s : Spans) (c1 s1 c2 s2 k first moved place : ℕ) (b : Bool) : Type 0 where
  pub refused : b ≡ false → (l : Line) → l ≡ line_of 5
      → Obeyed a (cut_face_open f c1 s1 c2 s2 (positions_at script first k) (numbers_read script place moved)) a l
  pub passes : b ≡ true → Asks a t script f s c1 s1 c2 s2 k first moved place

module _ (a : Arrays) (t : Totals) (y : Ready a t) (script : List ℕ) (f c1 s1 c2 s2 k first moved place : ℕ) where
  abbrev cut : Command
  cut = cut_face_open f c1 s1 c2 s2 (positions_at script first k) (numbers_read script place moved)

  -- 3
  pub bends_no : all within (positions_at script first k) ≡ false → (l : Line) → l ≡ line_of 3 → Obeyed a
      (cut_face_open f c1 s1 c2 s2 (positions_at script first k) (numbers_read script place moved)) a l
  bends_no q l el = ready_no a t y cut 3 l el (outside (sheet_of (held_by a)) f c1 s1 c2 s2 (positions_at script first k) (numbers_read script place moved) q)

  module _ (q : all within (positions_at script first k) ≡ true) (kind : ℕ) (ek : kind ≡ value_at 4 (take a.count a.ids) (take a.count a.kinds) f)
    where
      -- 4
      pub face_no_lem : (kind ≡ 3 → ⊥) → (l : Line) → l ≡ line_of 4 → Obeyed a
          (cut_face_open f c1 s1 c2 s2 (positions_at script first k) (numbers_read script place moved)) a l
      face_no_lem ne l el =
          ready_no a t y cut 4 l el
          (no_face (sheet_of (held_by a)) f c1 s1 c2 s2 (positions_at script first k) (numbers_read script place moved) q
          (face_told (held_by a) (ready_sizes a t y) (ready_drawing a t y) (rows_by a) (ready_indexes a t y) f (eqb kind 3) (ap (λ (n : ℕ). eqb n 3) ek) ∙ ne_eqb
          kind 3 ne))

      module _ (e3 : kind ≡ 3) where
        named : Named (held_by a) (rows_by a) f
        named =
            named_in (held_by a) (ready_sizes a t y) (ready_drawing a t y) (rows_by a) (ready_indexes a t y) f
            (face_told (held_by a) (ready_sizes a t y) (ready_drawing a t y) (rows_by a) (ready_indexes a t y) f (eqb kind 3) (ap (λ (n : ℕ). eqb n 3) ek) ∙
            eq-eqb kind 3 e3)

        module _ (row : ℕ) (er : row ≡ row_of f (take a.count a.ids)) where
          pub counted : RowCounted a.counts a.cycles row t
          counted = ready_counted a t y row (subst (λ (i : ℕ). i < a.count) (sym er) (live (held_by a) (ready_sizes a t y) (rows_by a) f named))

          module _ (s : Spans) (es : s ≡ spans_of a.counts t.cells row a.cycles) where
            span : Spanned (held_by a) f s
            span =
                spanned (held_by a) (ready_sizes a t y) (rows_by a) f named row s er
                (es ∙ ap (λ (n : ℕ). spans_of a.counts n row a.cycles) (ready_cells a t y))

            pub corners_ask : Stand read_number script place moved
                → Ruled a.ids a.kinds a.count × (Within a.cycles a.steps s × Stand read_number script place moved)
            corners_ask w =
                let g = ready_finds a t y in
                (record { few = g.0; ids = g.1.0; values = y.long.kinds; rising = g.1.1 }, (span.within, w))

            -- b is what question 5 says
            module _ (b : Bool) (eb : b ≡ corners_by a.ids a.kinds a.count a.cycles a.steps s c1 s1 c2 s2 (numbers_read script place moved)) where
              told : cut_corners (cell_at (sheet_of (held_by a))) (cycles_of (cell_at (sheet_of (held_by a)) f)) c1 s1 c2 s2 (numbers_read script place moved) ≡ b
              told =
                  sym
                  (eb
                  ∙ corners_are (cell_at (sheet_of (held_by a))) (cycles_of (cell_at (sheet_of (held_by a)) f)) c1 s1 c2 s2 (numbers_read script place moved)
                  s.cycles.count
                  (cycles_count (ready_sizes a t y) (ready_drawing a t y) named span) _ _
                  (corner_told (held_by a) (ready_sizes a t y) (rows_by a) f named s span c1 s1 _ refl)
                  (corner_told (held_by a) (ready_sizes a t y) (rows_by a) f named s span c2 s2 _ refl))

              pub five : first + 16 * k ≤ length script → Stand read_number script place moved → Five a t script f s c1 s1 c2 s2 k first moved place b
              five h w =
                  record {
                    refused =
                        λ nb l el. ready_no a t y cut 5 l el
                        (no_corner (sheet_of (held_by a)) f c1 s1 c2 s2 (positions_at script first k) (numbers_read script place moved) q named.face
                        (told ∙ nb));
                    passes =
                        λ nb. record {
                          ready = y;
                          spans = es ∙ ap (λ (r : ℕ). spans_of a.counts t.cells r a.cycles) er;
                          bounds = q;
                          along = record { sound = ready_drawing a t y; named = named; bytes = h; stand = w; corners = told ∙ nb };
                        };
                  }
