-- The two corners of a cut along an open edge, in lent arrays. Assumes nothing.
use Prim.Native.Nat.{ℕ}
use mathlib.Core.Path.{◌≡◌, refl, ap, ◌∙◌}
use mathlib.Core.List.{List}
use lib.ListN.{take, get_or}
use Rattle.complex.specs.Cells.{Cycle, cell_at, cycles_of}
use Rattle.complex.specs.Lists.{places, holds}
use Rattle.complex.specs.Cut.{no_cycle, corner}
use Rattle.complex.proofs.Bools.{true_of, not_of}
use Rattle.store.specs.Index.{row_of}
use Rattle.store.specs.Sizes.{Sizes}
use Rattle.store.specs.View.{sheet_of}
use Rattle.rows_spans.specs.declared.Spans.{Spans}
use Rattle.rows_spans.specs.Runs.{spans_of}
use Rattle.answer.specs.declared.Totals.{Totals}
use Rattle.answer.proofs.Asked.{next_in_lem}
use Rattle.decode_parts.specs.Lists.{numbers_read}
use Rattle.rows_corners.specs.Faces.{Spanned}
use Rattle.rows_corners.proofs.Rows.{spanned}
use Rattle.rows_corners.proofs.Edits.{rows_in_lem}
use Rattle.rows_split.specs.Along.{Along}
use Rattle.rows_split.specs.Parts.{place_of}
use Rattle.rows_split.proofs.Corners.{cycles_count, cornered, vertex_is}
use Rattle.rows_split.proofs.Cuts.{in_first, in_second, at_first_lem, at_second_lem, moves}
use Rattle.lent.specs.Arrays.{Arrays, held_by, rows_by}
use Rattle.lent.specs.Replies.{Ready}
use Rattle.lent.proofs.Sums.{ready_sizes, ready_cells}
use Rattle.kind_cut_chord.specs.Chords.{vertex_in, Chorded}

module _ (a : Arrays) (t : Totals) (y : Ready a t) (script : List ℕ) (f : ℕ) (s : Spans) (c1 s1 c2 s2 k first moved place : ℕ)
    (es : s ≡ spans_of a.counts t.cells (row_of f (take a.count a.ids)) a.cycles)
    (g : Along (held_by a) (rows_by a) script f c1 s1 c2 s2 k first moved place) where
  abbrev ks : List Cycle
  ks = cycles_of (cell_at (sheet_of (held_by a)) f)

  sizes : Sizes (held_by a)
  sizes = ready_sizes a t y

  pub span : Spanned (held_by a) f s
  span =
      spanned (held_by a) sizes (rows_by a) f g.named (row_of f (take a.count a.ids)) s refl
      (es ∙ ap (λ (n : ℕ). spans_of a.counts n (row_of f (take a.count a.ids)) a.cycles) (ready_cells a t y))

  pub chorded : Chorded a.ids a.starts a.ends a.count a.cycles a.steps s script moved place c1 s1 c2 s2 a.next
  chorded =
      let r = rows_in_lem (held_by a) sizes g.sound (rows_by a) g.named.index in
      let n = cycles_count sizes g.sound g.named span in
      let ms = numbers_read script place moved in
      record {
        starts = record { few = r.few; ids = r.ids; values = r.starts; rising = r.rising };
        ends = record { few = r.few; ids = r.ids; values = r.ends; rising = r.rising };
        from = cornered sizes g.sound g.named span c1 (in_first g) s1 (at_first_lem g) refl;
        to = cornered sizes g.sound g.named span c2 (in_second g) s2 (at_second_lem g) refl;
        stand = g.stand;
        rise = λ e. ap (places 0 ms) n ∙ true_of (places 0 ms _) (moves g e).0;
        stays = λ e. not_of (holds c1 ms) (moves g e).1;
        few = next_in_lem (held_by a) g.sound;
      }

  pub first_vertex : (v : ℕ) → v ≡ vertex_in a.ids a.starts a.ends a.count a.steps (place_of a.cycles s c1) s1
      → v ≡ corner (cell_at (sheet_of (held_by a))) (get_or ks c1 no_cycle) s1
  first_vertex = vertex_is sizes g.sound g.named span c1 (in_first g) s1 (at_first_lem g) refl

  pub second_vertex : (v : ℕ) → v ≡ vertex_in a.ids a.starts a.ends a.count a.steps (place_of a.cycles s c2) s2
      → v ≡ corner (cell_at (sheet_of (held_by a))) (get_or ks c2 no_cycle) s2
  second_vertex = vertex_is sizes g.sound g.named span c2 (in_second g) s2 (at_second_lem g) refl
