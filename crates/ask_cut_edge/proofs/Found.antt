-- The edge that an index finds: its row, its bends, and that its cut can be made. Assumes nothing.
use Prim.Native.Nat.{ℕ, zero, suc, ◌+◌, ◌%◌, ◌<◌, ◌≤◌}
use native.Mathlib.Omega.{arith}
use mathlib.Core.Path.{◌≡◌, refl, sym, ap, ap₂, ◌∙◌}
use mathlib.Core.Bool.{true}
use mathlib.Core.List.{List, [], ◌∷◌, map}
use mathlib.Core.Option.{some}
use lib.ListN.{length, get_or, take}
use lib.Seq.{get_or-take, take-take}
use lib.Dec.{T}
use Rattle.complex.specs.Lists.{total}
use Rattle.complex.specs.Cells.{vertex, cell_at, is_live, bends_of, origin}
use Rattle.complex.specs.Cut.{cut_exists}
use Rattle.complex.specs.Decode.{cut_edge}
use Rattle.complex.specs.Commands.{question4, question5, question6}
use Rattle.complex.proofs.Asked.{early, early_none}
use Rattle.store.specs.declared.Cell.{Cell}
use Rattle.store.specs.declared.Drawing.{Drawing}
use Rattle.store.specs.declared.Index.{Index}
use Rattle.store.specs.Index.{Indexes, Rising, row_of}
use Rattle.store.specs.Sizes.{Sizes}
use Rattle.store.specs.View.{sheet_of, bend_count, bend_sum}
use Rattle.store.specs.Places.{figure_bends}
use Rattle.store.specs.Edits.{places_of}
use Rattle.store.proofs.Lists.{places_sum}
use Rattle.sound.specs.Soundness.{sound_drawing}
use Rattle.sound.proofs.Meaning.{sound_fits, looks, found_row}
use Rattle.rows_spans.proofs.Replaced.{own_bends as figure_bends_lem}
use Rattle.rows_new.specs.Appends.{figure_at}
use Rattle.rows_new.specs.Runs.{run_at}
use Rattle.rows_new.proofs.Copied.{row_bends, row_range}
use Rattle.answer.specs.declared.Totals.{Totals}
use Rattle.answer.specs.Sizes.{sized, more_less, changed_by, new_cells, change_of}
use Rattle.answer.specs.Late.{sizes_by, late_no}
use Rattle.answer.proofs.Laws.{totals_in}
use Rattle.answer.proofs.Asked.{Asked, asked_of, ids_hold, sizes_hold_lem}
use Rattle.rows_gone.proofs.Dropped.{live_below, row_among}
use Rattle.ask_cut_edge.specs.Cuts.{EdgeCuts}

take_map : {A B : Type 0} (f : A → B) (n : ℕ) (l : List A) → take n (map f l) ≡ map f (take n l)
take_map f zero l = refl
take_map f (suc n) [] = refl
take_map {A} {B} f (suc n) (x ∷ l) = ap (λ (r : List B). f x ∷ r) (take_map f n l)

-- what a look-up in the index asks
pub find_asks : (d : Drawing) → Sizes d → T (sound_drawing d) → (ix : Index) → Indexes d ix
    → (d.count ≤ 256) × ((length ix.ids ≡ 256) × Rising (take d.count ix.ids))
find_asks d z w ix x = ((sound_fits d w).cells, (x.sizes.0, (looks d z ix x w).rising))

-- ---- the questions that are alike for every edge and place
pub cut_bytes : (e q : ℕ) → early (cut_edge e q) ≡ 0
cut_bytes e q = early_none (cut_edge e q) refl

cut_six : (d : Drawing) (e q : ℕ) → question6 (sheet_of d) (cut_edge e q) ≡ true
unfolding question6
cut_six d e q = refl

-- r is what 7 and 8 say: k ids are issued, n cells and u steps more are there, and a bend less where the place is one
pub cut_asked : (d : Drawing) (z : Sizes d) (w : T (sound_drawing d)) (ix : Index) (x : Indexes d ix) (t : Totals) → t ≡ totals_in d z (sound_fits d w) ix x
    → (e q k n u r : ℕ) → question4 (sheet_of d) (cut_edge e q) ≡ true → question5 (sheet_of d) (cut_edge e q) ≡ true → new_cells (sheet_of d) (cut_edge e q) ≡ k
    → change_of (sheet_of d) (cut_edge e q) ≡ more_less (sized n 0 u 0) (sized 0 0 0 (q % 2))
    → r ≡ late_no d.next k (changed_by (sizes_by t) (more_less (sized n 0 u 0) (sized 0 0 0 (q % 2)))) → Asked d (cut_edge e q) r
cut_asked d z w ix x t et e q k n u r four five new change says =
    asked_of d z w (cut_edge e q) r
    (record {
      index = ix;
      indexes = x;
      new = k;
      totals = t;
      more = record { cells = n; cycles = 0; steps = u; bends = 0 };
      less = record { cells = 0; cycles = 0; steps = 0; bends = q % 2 };
      passed = record { bytes = cut_bytes e q; four = four; five = five; six = cut_six d e q };
      new_is = new;
      change_is = change;
      totals_are = et;
      says = says;
    })

module _ (d : Drawing) (z : Sizes d) (w : T (sound_drawing d)) (ix : Index) (x : Indexes d ix) (e row : ℕ) (er : row ≡ row_of e (take d.count ix.ids))
    (l : is_live (cell_at (sheet_of d) e) ≡ true) where
  pub row_below : row < 256
  row_below = let a = live_below d z w ix x e row er l in let b = (sound_fits d w).cells in omega arith

  pub own_figure : cell_at (sheet_of d) e ≡ some (figure_at (sheet_of d) row)
  own_figure = found_row d z (sound_fits d w) ix x e row er (live_below d z w ix x e row er l) (record { id = 0; figure = vertex origin })

  own_bends : bends_of (cell_at (sheet_of d) e) ≡ figure_bends (figure_at (sheet_of d) row)
  own_bends = ap bends_of own_figure ∙ figure_bends_lem (figure_at (sheet_of d) row)

  -- the number that an array of the index has in the row of e
  pub read_row : (vs : List ℕ) → get_or vs row 0 ≡ get_or (take d.count vs) (row_of e (take d.count ix.ids)) 0
  read_row vs = sym (get_or-take d.count vs row 0 (live_below d z w ix x e row er l)) ∙ ap (λ (k : ℕ). get_or (take d.count vs) k 0) er

  pub own_count : get_or ix.bends row 0 ≡ length (bends_of (cell_at (sheet_of d) e))
  own_count = read_row ix.bends ∙ (looks d z ix x w).bends e

  -- where its bends begin
  pub own_base : total (places_of 0) (take row ix.bends) ≡ bend_sum (take row d.cells)
  own_base =
      let h = live_below d z w ix x e row er l in
      let n : Cell → ℕ = λ c. bend_count c.shape in
      ap (total (places_of 0))
      (sym (take-take row d.count ix.bends (omega arith)) ∙ ap (take row) x.bends ∙ take_map n row (take d.count d.cells)
      ∙ ap (map n) (take-take row d.count d.cells (omega arith)))
      ∙ places_sum n (take row d.cells)

  own_range : bend_sum (take row d.cells) + length (figure_bends (figure_at (sheet_of d) row)) ≤ 2048
  own_range = row_range d z (sound_fits d w) row (live_below d z w ix x e row er l)

  pub base_asks : (row ≤ length ix.bends) × (total (places_of 0) (take row ix.bends) ≤ 2048)
  base_asks =
      let a = row_below in
      let b = x.sizes.4 in
      let g = own_base in
      let h = own_range in
      (omega arith, omega arith)

  module _ (q r : ℕ) (a : Asked d (cut_edge e q) r) (y : r ≡ 0)
      (base m : ℕ) (eb : base ≡ total (places_of 0) (take row ix.bends)) (em : m ≡ get_or ix.bends row 0)
      (ex : cut_exists (cell_at (sheet_of d) e) q ≡ true) where
    pub found_cuts : EdgeCuts d e row base m q
    found_cuts =
        let n : m ≡ length (figure_bends (figure_at (sheet_of d) row)) = em ∙ own_count ∙ ap length own_bends in
        let b : base ≡ bend_sum (take row d.cells) = eb ∙ own_base in
        let h = own_range in
        record {
          sound = w;
          found = row_among d z w ix x e row er l;
          below = live_below d z w ix x e row er l;
          bends = ap₂ (λ (a c : ℕ). run_at a c d.bends) b n ∙ row_bends d z (sound_fits d w) row (live_below d z w ix x e row er l) ∙ sym own_bends;
          range = omega arith;
          exists = ex;
          ids_suffice = ids_hold d z w (cut_edge e q) r a y;
          sizes_hold = sizes_hold_lem d z w (cut_edge e q) r a y;
        }
