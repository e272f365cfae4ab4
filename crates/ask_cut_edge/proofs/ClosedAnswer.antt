-- 0A of a closed edge: the questions from the index. Assumes nothing.
use Prim.Native.Nat.{ℕ, ◌/◌, ◌%◌, ◌<◌, ◌≤◌}
use mathlib.Core.Path.{◌≡◌, refl, sym, ap, ◌∙◌}
use mathlib.Core.Bool.{Bool, true, false, ◌||◌}
use lib.ListN.{length, get_or, take}
use lib.Dec.{T, ltb}
use borrow.Author.Tests.{lt-ltb, le-ltb}
use Rattle.complex.specs.Lists.{total}
use Rattle.store.specs.Edits.{places_of}
use Rattle.complex.specs.Cells.{cell_at, is_open, is_closed, is_live, bends_of}
use Rattle.complex.specs.Uses.{step_use, uses_by}
use Rattle.complex.specs.Decode.{cut_edge}
use Rattle.complex.specs.Commands.{question4, question5}
use Rattle.answer.specs.Sizes.{sized, more_less, changed_by, new_by_cut, cut_change, new_cells, change_of}
use Rattle.complex.specs.Answer.{no, asked3}
use Rattle.complex.proofs.Asked.{no_5}
use Rattle.store.specs.declared.Drawing.{Drawing}
use Rattle.store.specs.declared.Index.{Index}
use Rattle.store.specs.Index.{Indexes, row_of}
use Rattle.store.specs.Sizes.{Sizes}
use Rattle.store.specs.View.{sheet_of}
use Rattle.sound.specs.Soundness.{sound_drawing}
use Rattle.sound.proofs.Meaning.{sound_fits}
use Rattle.answer.specs.declared.Totals.{Totals}
use Rattle.answer.specs.Late.{sizes_by, late_no}
use Rattle.answer.proofs.Laws.{totals_in}
use Rattle.answer.proofs.Asked.{Asked}
use Rattle.ask_cut_edge.specs.Cuts.{EdgeCuts}
use Rattle.ask_cut_edge.proofs.Closed.{closed_figure, closed_exists}
use Rattle.ask_cut_edge.proofs.Found.{cut_bytes, cut_asked, own_count, found_cuts}

or_true : (b : Bool) → b || true ≡ true
or_true true = refl
or_true false = refl

module _ (d : Drawing) (z : Sizes d) (w : T (sound_drawing d)) (e q : ℕ) (k : is_closed (cell_at (sheet_of d) e) ≡ true) where
  pub closed_live : is_live (cell_at (sheet_of d) e) ≡ true
  closed_live = ap is_live (closed_figure (cell_at (sheet_of d) e) k)

  four : question4 (sheet_of d) (cut_edge e q) ≡ true
  unfolding question4
  four = ap (λ (b : Bool). is_open (cell_at (sheet_of d) e) || b) k ∙ or_true (is_open (cell_at (sheet_of d) e))

  five : question5 (sheet_of d) (cut_edge e q) ≡ ltb (q / 2) (length (bends_of (cell_at (sheet_of d) e)))
  unfolding question5
  five = closed_exists (cell_at (sheet_of d) e) q k

  new_are : new_cells (sheet_of d) (cut_edge e q) ≡ 2
  unfolding new_cells
  new_are = ap new_by_cut (closed_figure (cell_at (sheet_of d) e) k)

  change_is : change_of (sheet_of d) (cut_edge e q) ≡ more_less (sized 1 0 0 0) (sized 0 0 0 (q % 2))
  unfolding change_of
  change_is = ap (cut_change (uses_by (step_use e) (sheet_of d).cells) q) (closed_figure (cell_at (sheet_of d) e) k)

  module _ (ix : Index) (x : Indexes d ix) (row : ℕ) (er : row ≡ row_of e (take d.count ix.ids)) (m : ℕ) (em : m ≡ get_or ix.bends row 0) where
    counted : m ≡ length (bends_of (cell_at (sheet_of d) e))
    counted = em ∙ own_count d z w ix x e row er closed_live

    pub no_place : m ≤ q / 2 → asked3 (sheet_of d) (cut_edge e q) ≡ no 5 (sheet_of d)
    no_place h = no_5 (sheet_of d) (cut_edge e q) (cut_bytes e q) four (five ∙ ap (ltb (q / 2)) (sym counted) ∙ le-ltb (q / 2) m h)

    module _ (h : q / 2 < m) where
      exists : ltb (q / 2) (length (bends_of (cell_at (sheet_of d) e))) ≡ true
      exists = ap (ltb (q / 2)) (sym counted) ∙ lt-ltb (q / 2) m h

      module _ (t : Totals) (et : t ≡ totals_in d z (sound_fits d w) ix x) (r : ℕ)
          (ro : r ≡ late_no d.next 2 (changed_by (sizes_by t) (more_less (sized 1 0 0 0) (sized 0 0 0 (q % 2))))) where
        pub asked : Asked d (cut_edge e q) r
        asked = cut_asked d z w ix x t et e q 2 1 0 r four (five ∙ exists) new_are change_is ro

        pub closed_cuts : r ≡ 0 → (base : ℕ) → base ≡ total (places_of 0) (take row ix.bends) → EdgeCuts d e row base m q
        closed_cuts r0 base eb = found_cuts d z w ix x e row er closed_live q r asked r0 base m eb em (closed_exists (cell_at (sheet_of d) e) q k ∙ exists)
