-- 0A of an open edge: the questions from the index. Assumes nothing.
use Prim.Native.Nat.{ℕ, zero, suc, ◌+◌, ◌/◌, ◌%◌, ◌<◌, ◌≤◌}
use native.Mathlib.Omega.{arith}
use mathlib.Core.Path.{◌≡◌, refl, sym, ap, ◌∙◌}
use mathlib.Core.Bool.{Bool, true, false, ◌||◌, cond}
use mathlib.Core.List.{List, [], ◌∷◌, map}
use lib.ListN.{length, get_or, take, drop, length-map, length-take}
use lib.Dec.{T, eqb, leb}
use borrow.Author.Tests.{le-leb, lt-leb}
use Rattle.complex.specs.Lists.{total}
use Rattle.complex.specs.Cells.{Halfedge, cell_at, is_open, is_closed, is_live, bends_of}
use Rattle.complex.specs.Uses.{edge_use, step_use, uses_by}
use Rattle.complex.specs.Decode.{cut_edge}
use Rattle.complex.specs.Commands.{question4, question5}
use Rattle.answer.specs.Sizes.{sized, sizes_of, more_less, changed_by, new_by_cut, cut_change, new_cells, change_of}
use Rattle.complex.specs.Answer.{no, asked3}
use Rattle.complex.proofs.Asked.{no_5}
use Rattle.store.specs.declared.Drawing.{Drawing}
use Rattle.store.specs.declared.Index.{Index}
use Rattle.store.specs.Index.{Indexes, row_of}
use Rattle.store.specs.Sizes.{Sizes}
use Rattle.store.specs.Edits.{places_of}
use Rattle.store.specs.View.{sheet_of, cycles_from, halfedge_of, width_sum, cycle_total}
use Rattle.store.proofs.Stands.{stands, cycle_total_lem}
use Rattle.sound.specs.Soundness.{sound_drawing}
use Rattle.sound.proofs.Meaning.{sound_fits, looks}
use Rattle.rows_new.proofs.Rooms.{over_cycles}
use Rattle.rows_uses.proofs.Dealing.{uses_held}
use Rattle.answer.specs.declared.Totals.{Totals}
use Rattle.answer.specs.Late.{sizes_by, late_no}
use Rattle.answer.proofs.Laws.{totals_in, totals_are_lem, totals_small}
use Rattle.answer.proofs.Asked.{next_in_lem, Asked}
use Rattle.ask_cut_edge.specs.Cuts.{EdgeCuts, OpenEnds, CutCounted}
use Rattle.ask_cut_edge.proofs.Found.{cut_bytes, cut_asked, own_count, read_row, found_cuts}
use Rattle.ask_cut_edge.proofs.Opened.{open_figure, open_exists}
use Rattle.answer.specs.Sizes as whole

-- ---- an edge has no more uses than there are steps
edge_most : (e : ℕ) (hs : List Halfedge) → total (edge_use e) hs ≤ length hs
edge_most e [] = omega arith
edge_most e (h ∷ hs) = go (eqb e h.edge) (edge_most e hs)
  where
    go : (b : Bool) → total (edge_use e) hs ≤ length hs → cond b 1 0 + total (edge_use e) hs ≤ suc (length hs)
    go true k = omega arith
    go false k = omega arith

pub uses_most : (e : ℕ) (ns st : List ℕ) → total (step_use e) (cycles_from ns st) ≤ width_sum ns
uses_most e [] st = omega arith
uses_most e (zero ∷ ns) st = let k = uses_most e ns (drop 1 st) in omega arith
uses_most e (suc n ∷ ns) st =
    let k = uses_most e ns (drop (suc n) st) in
    let a = edge_most e (map halfedge_of (take (suc n) st)) in
    let b = length-map (take (suc n) st) halfedge_of in
    let c = length-take (suc n) st in
    omega arith

module _ (d : Drawing) (z : Sizes d) (w : T (sound_drawing d)) (ix : Index) (x : Indexes d ix) (t : Totals) (et : t ≡ totals_in d z (sound_fits d w) ix x) where
  sizes_are : sizes_by t ≡ sizes_of (sheet_of d).cells
  sizes_are = ap sizes_by et ∙ totals_are_lem d z (sound_fits d w) ix x

  cycles_are : t.cycles ≡ cycle_total d
  cycles_are = ap (λ (s : whole.SheetSizes). s.cycles) sizes_are ∙ over_cycles (sheet_of d).cells
      ∙ sym (cycle_total_lem d (sheet_of d).cells (stands d z (sound_fits d w)))

  pub counted_in : CutCounted d.cycles d.steps d.next t
  counted_in =
      let f = sound_fits d w in
      record {
        next_in = next_in_lem d w;
        small = rw et (totals_small d z f ix x);
        cycle_room = z.cycles;
        step_room = z.steps;
        cycles_in = rw cycles_are f.cycles;
        steps_in = rw cycles_are f.steps;
      }

  module _ (e q : ℕ) (k : is_open (cell_at (sheet_of d) e) ≡ true) where
    pub uses_are : uses_by (step_use e) (sheet_of d).cells ≡ total (step_use e) (cycles_from (take t.cycles d.cycles) d.steps)
    uses_are = uses_held d z (sound_fits d w) (step_use e) ∙ ap (λ (n : ℕ). total (step_use e) (cycles_from (take n d.cycles) d.steps)) (sym cycles_are)

    pub open_live : is_live (cell_at (sheet_of d) e) ≡ true
    open_live = ap is_live (open_figure (cell_at (sheet_of d) e) k)

    four : question4 (sheet_of d) (cut_edge e q) ≡ true
    unfolding question4
    four = ap (λ (b : Bool). b || is_closed (cell_at (sheet_of d) e)) k

    five : question5 (sheet_of d) (cut_edge e q) ≡ leb (q / 2 + q % 2) (length (bends_of (cell_at (sheet_of d) e)))
    unfolding question5
    five = open_exists (cell_at (sheet_of d) e) q k

    new_are : new_cells (sheet_of d) (cut_edge e q) ≡ 3
    unfolding new_cells
    new_are = ap new_by_cut (open_figure (cell_at (sheet_of d) e) k)

    change_is : change_of (sheet_of d) (cut_edge e q) ≡ more_less (sized 2 0 (total (step_use e) (cycles_from (take t.cycles d.cycles) d.steps)) 0)
        (sized 0 0 0 (q % 2))
    unfolding change_of
    change_is = ap (cut_change (uses_by (step_use e) (sheet_of d).cells) q) (open_figure (cell_at (sheet_of d) e) k)
        ∙ ap (λ (u : ℕ). more_less (sized 2 0 u 0) (sized 0 0 0 (q % 2))) uses_are

    module _ (row : ℕ) (er : row ≡ row_of e (take d.count ix.ids)) (m : ℕ) (em : m ≡ get_or ix.bends row 0) where
      counted : m ≡ length (bends_of (cell_at (sheet_of d) e))
      counted = em ∙ own_count d z w ix x e row er open_live

      pub ends_found : (s f : ℕ) → s ≡ get_or ix.starts row 0 → f ≡ get_or ix.ends row 0 → OpenEnds d e s f
      ends_found s f es ef =
          record {
            is_one = k;
            start = es ∙ read_row d z w ix x e row er open_live ix.starts ∙ (looks d z ix x w).starts e;
            end = ef ∙ read_row d z w ix x e row er open_live ix.ends ∙ (looks d z ix x w).ends e;
          }

      pub no_place : m < q / 2 + q % 2 → asked3 (sheet_of d) (cut_edge e q) ≡ no 5 (sheet_of d)
      no_place h = no_5 (sheet_of d) (cut_edge e q) (cut_bytes e q) four (five ∙ ap (leb (q / 2 + q % 2)) (sym counted) ∙ lt-leb (q / 2 + q % 2) m h)

      module _ (h : q / 2 + q % 2 ≤ m) where
        exists : leb (q / 2 + q % 2) (length (bends_of (cell_at (sheet_of d) e))) ≡ true
        exists = ap (leb (q / 2 + q % 2)) (sym counted) ∙ le-leb (q / 2 + q % 2) m h

        module _ (r : ℕ) (ro : r ≡ late_no d.next 3
            (changed_by (sizes_by t) (more_less (sized 2 0 (total (step_use e) (cycles_from (take t.cycles d.cycles) d.steps)) 0)
            (sized 0 0 0 (q % 2))))) where
          pub asked : Asked d (cut_edge e q) r
          asked = cut_asked d z w ix x t et e q 3 2 _ r four (five ∙ exists) new_are change_is ro

          pub open_cuts : r ≡ 0 → (base : ℕ) → base ≡ total (places_of 0) (take row ix.bends) → EdgeCuts d e row base m q
          open_cuts r0 base eb = found_cuts d z w ix x e row er open_live q r asked r0 base m eb em (open_exists (cell_at (sheet_of d) e) q k ∙ exists)
