-- 09 of an edge of a sound drawing: the questions, and that copies for its later uses are the answer. Assumes nothing.
use native.Mathlib.Omega.{arith}
use Prim.Native.Nat.{ℕ, ◌*◌, ◌-◌, ◌≤◌, ◌<◌}
use mathlib.Core.Path.{◌≡◌, sym, ap, ◌∙◌}
use lib.Dec.{T}
use lib.ListN.{length, take, replicate}
use Rattle.complex.specs.Lists.{total}
use Rattle.complex.specs.Cells.{cell_at, bends_of, Figure}
use Rattle.complex.specs.Decode.{unglue}
use Rattle.complex.specs.Edits.{reshape}
use Rattle.answer.specs.Sizes.{sized, nothing, more_less, changed_by}
use Rattle.complex.specs.Uses.{on_uses}
use Rattle.complex.specs.Unglue.{parts, ungluing}
use Rattle.store.specs.declared.Drawing.{Drawing}
use Rattle.store.specs.declared.Index.{Index}
use Rattle.store.specs.Index.{Indexes, row_of}
use Rattle.store.specs.Sizes.{Sizes}
use Rattle.store.specs.View.{sheet_of, Fits, cycles_from}
use Rattle.store.specs.Edits.{with_entries}
use Rattle.store.proofs.Grow.{next_is}
use Rattle.sound.specs.Soundness.{sound_drawing}
use Rattle.sound.specs.Looks.{index_value}
use Rattle.sound.proofs.Meaning.{sound_fits, looks}
use Rattle.rows_new.specs.Appends.{appended_all, figure_at}
use Rattle.rows_new.specs.Requirements.{CopiesRoom}
use Rattle.answer.specs.declared.Answer.{Answer}
use Rattle.answer.specs.declared.Totals.{Totals}
use Rattle.answer.specs.Answers.{refusal, outcome, Answers}
use Rattle.answer.specs.Late.{sizes_by, late_no}
use Rattle.answer.proofs.Laws.{totals_in}
use Rattle.answer.proofs.Asked.{sound_in}
use Rattle.rows_uses.specs.declared.Use.{Use}
use Rattle.rows_uses.specs.Uses.{uses_in}
use Rattle.rows_copied.specs.Copying.{copied}
use Rattle.ask_unglue.specs.Unglues.{has_uses, late_copies}
use Rattle.ask_unglue.proofs.Copies.{EdgeUses, edge_uses, uses_counted, late_are, bends_few, few_refused, late_refused, mid_room, mid_copies}
use Rattle.ask_unglue.proofs.Copies.{out_answers}

-- what is known of the edge's uses
module _ (u : Use) (d : Drawing) (z : Sizes d) (w : T (sound_drawing d)) (ix : Index) (x : Indexes d ix) (e : ℕ) (h : T (has_uses u (cell_at (sheet_of d) e)))
    (t : Totals) (et : t ≡ totals_in d z (sound_fits d w) ix x) (n : ℕ)
    (en : n ≡ total (uses_in u e) (cycles_from (take t.cycles d.cycles) d.steps)) where
  edge : EdgeUses u (sheet_of d) e (cell_at (sheet_of d) e)
  edge = edge_uses u (sheet_of d) e (cell_at (sheet_of d) e) h

  parts_are : n ≡ parts (sheet_of d).cells e (cell_at (sheet_of d) e)
  parts_are = (uses_counted d z w ix x t et u e n en).0 ∙ edge.counted

  pub few_parts : n ≤ 2048
  few_parts = (uses_counted d z w ix x t et u e n en).1

  pub few : n < 2 → (r : Answer) → r ≡ refusal d 6 → Answers d (unglue e) r
  few = few_refused d z w e edge.plain n parts_are

  module _ (k : 2 ≤ n) (b : ℕ) (eb : b ≡ index_value 0 d ix ix.bends e) where
    bends_are : b ≡ length (bends_of (cell_at (sheet_of d) e))
    bends_are = eb ∙ (looks d z ix x w).bends e

    pub bends_small : b ≤ 2048
    bends_small = let q = bends_few (sheet_of d) (sound_in d w) e in omega (arith, q, bends_are)

    module _ (r : ℕ) (er : r ≡ late_no d.next (n - 1) (changed_by (sizes_by t) (more_less (sized (n - 1) 0 0 ((n - 1) * b)) nothing))) where
      late_is : r ≡ late_copies (sheet_of d) e (n - 1)
      late_is = late_are d z w ix x t et e b bends_are (n - 1) r er

      pub late : (r ≡ 0 → ⊥) → (a : Answer) → a ≡ refusal d r → Answers d (unglue e) a
      late = late_refused d z w e edge.plain n parts_are k r late_is

      module _ (rz : r ≡ 0) (row : ℕ) (ew : row ≡ row_of e (take d.count ix.ids)) (mid : Drawing) (zm : Sizes mid) (gm : Fits mid)
          (em : sheet_of mid ≡ with_entries (sheet_of d) (reshape (on_uses (uses_in u e) (copied u e d.next) 0 (sheet_of d).cells) (sheet_of d).cells)) where
        as_unglued : sheet_of mid ≡ with_entries (sheet_of d) (reshape (ungluing (sheet_of d) e (cell_at (sheet_of d) e)) (sheet_of d).cells)
        as_unglued =
            em
            ∙ ap (λ (m : ℕ). with_entries (sheet_of d) (reshape (on_uses (uses_in u e) (copied u e m) 0 (sheet_of d).cells) (sheet_of d).cells)) (sym (next_is d))
            ∙ ap (λ (f : ℕ → Figure → Figure). with_entries (sheet_of d) (reshape f (sheet_of d).cells)) edge.copied

        pub room : CopiesRoom mid row (n - 1)
        room = mid_room d z w e edge.plain n parts_are k r late_is rz mid zm gm as_unglued ix x row ew

        module _ (out : Drawing) (zo : Sizes out) (go : Fits out)
            (eo : sheet_of out ≡ appended_all (replicate (n - 1) (figure_at (sheet_of mid) row)) (sheet_of mid)) where
          pub edge_answers : (a : Answer) → a ≡ outcome d.next d.count out → Answers d (unglue e) a
          edge_answers =
              out_answers d z w e edge.plain n parts_are k r late_is rz mid zm gm as_unglued out zo go
              (eo ∙ mid_copies d z w e edge.plain n parts_are k r late_is rz mid zm gm as_unglued ix x row ew)
