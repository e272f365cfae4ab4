-- 09 of a vertex of a sound drawing: the questions, and that copies for its later groups and lone cycles are the answer. Assumes nothing.
use Prim.Native.Nat.{ℕ, ◌+◌, ◌*◌, ◌-◌, ◌≤◌, ◌<◌}
use mathlib.Core.Path.{◌≡◌, ap₂, ◌∙◌}
use lib.Dec.{T}
use lib.ListN.{length, take, replicate}
use Rattle.complex.specs.Lists.{total}
use Rattle.complex.specs.Cells.{cell_at, is_vertex, is_vertex_or_edge}
use Rattle.complex.specs.Decode.{unglue}
use Rattle.complex.specs.Edits.{reshape}
use Rattle.answer.specs.Sizes.{sized, nothing, more_less, changed_by}
use Rattle.complex.specs.Uses.{groups}
use Rattle.complex.specs.Unglue.{parts, ungluing}
use Rattle.store.specs.declared.Drawing.{Drawing}
use Rattle.store.specs.declared.Index.{Index}
use Rattle.store.specs.Index.{Indexes, row_of}
use Rattle.store.specs.Sizes.{Sizes}
use Rattle.store.specs.View.{sheet_of, Fits, cycles_from}
use Rattle.store.specs.Edits.{with_entries}
use Rattle.sound.specs.Soundness.{sound_drawing}
use Rattle.sound.proofs.Meaning.{sound_fits}
use Rattle.rows_new.specs.Appends.{appended_all, figure_at}
use Rattle.rows_new.specs.Requirements.{CopiesRoom}
use Rattle.answer.specs.declared.Answer.{Answer}
use Rattle.answer.specs.declared.Totals.{Totals}
use Rattle.answer.specs.Answers.{refusal, outcome, Answers}
use Rattle.answer.specs.Late.{sizes_by, late_no}
use Rattle.answer.proofs.Laws.{totals_in}
use Rattle.rows_uses.specs.declared.Use.TheVariants.{Lone}
use Rattle.rows_uses.specs.Uses.{uses_in}
use Rattle.ask_unglue.specs.Unglues.{late_copies}
use Rattle.ask_unglue.proofs.Copies.{uses_counted, late_are, few_refused, late_refused, mid_room, mid_copies, out_answers}
use Rattle.ask_unglue.proofs.Found.{vertex_parts, vertex_plain, vertex_bends}

-- what is known of the vertex's groups and lone cycles
module _ (d : Drawing) (z : Sizes d) (w : T (sound_drawing d)) (ix : Index) (x : Indexes d ix) (v : ℕ) (tv : T (is_vertex (cell_at (sheet_of d) v)))
    (t : Totals) (et : t ≡ totals_in d z (sound_fits d w) ix x) (g : ℕ) (eg : g ≡ length (groups (sheet_of d).cells v))
    (a : ℕ) (ea : a ≡ g) (b : ℕ) (eb : b ≡ total (uses_in Lone v) (cycles_from (take t.cycles d.cycles) d.steps)) where
  plain : T (is_vertex_or_edge (cell_at (sheet_of d) v))
  plain = vertex_plain (cell_at (sheet_of d) v) tv

  pub few_lone : b ≤ 2048
  few_lone = (uses_counted d z w ix x t et Lone v b eb).1

  parts_are : a + b ≡ parts (sheet_of d).cells v (cell_at (sheet_of d) v)
  parts_are = ap₂ ◌+◌ (ea ∙ eg) (uses_counted d z w ix x t et Lone v b eb).0 ∙ vertex_parts (sheet_of d).cells v (cell_at (sheet_of d) v) tv

  pub few : a + b < 2 → (r : Answer) → r ≡ refusal d 6 → Answers d (unglue v) r
  few = few_refused d z w v plain (a + b) parts_are

  module _ (k : 2 ≤ a + b) (r : ℕ) (er : r ≡ late_no d.next (a + b - 1) (changed_by (sizes_by t) (more_less (sized (a + b - 1) 0 0 ((a + b - 1) * 0)) nothing)))
    where
      late_is : r ≡ late_copies (sheet_of d) v (a + b - 1)
      late_is = late_are d z w ix x t et v 0 (vertex_bends (cell_at (sheet_of d) v) tv) (a + b - 1) r er

      pub late : (r ≡ 0 → ⊥) → (s : Answer) → s ≡ refusal d r → Answers d (unglue v) s
      late = late_refused d z w v plain (a + b) parts_are k r late_is

      module _ (rz : r ≡ 0) (row : ℕ) (ew : row ≡ row_of v (take d.count ix.ids)) (mid : Drawing) (zm : Sizes mid) (gm : Fits mid)
          (em : sheet_of mid ≡ with_entries (sheet_of d) (reshape (ungluing (sheet_of d) v (cell_at (sheet_of d) v)) (sheet_of d).cells)) where
        pub room : CopiesRoom mid row (a + b - 1)
        room = mid_room d z w v plain (a + b) parts_are k r late_is rz mid zm gm em ix x row ew

        module _ (out : Drawing) (zo : Sizes out) (go : Fits out)
            (eo : sheet_of out ≡ appended_all (replicate (a + b - 1) (figure_at (sheet_of mid) row)) (sheet_of mid)) where
          pub vertex_answers : (s : Answer) → s ≡ outcome d.next d.count out → Answers d (unglue v) s
          vertex_answers =
              out_answers d z w v plain (a + b) parts_are k r late_is rz mid zm gm em out zo go
              (eo ∙ mid_copies d z w v plain (a + b) parts_are k r late_is rz mid zm gm em ix x row ew)
