-- What soundness and the index tell: the drawing fits, its sheet is sound, the ids rise, each id's row tells its cell. Assumes nothing.
use Prim.Native.Nat.{ℕ, zero, suc, ◌<◌}
use mathlib.Core.Path.{◌≡◌, refl, ap, ap₂, sym, ◌∙◌}
use mathlib.Core.List.{List, [], ◌∷◌, map}
use mathlib.Core.Bool.{Bool, true, false, ◌&&◌, cond}
use mathlib.Core.Option.{some}
use native.Mathlib.Omega.{arith}
use lib.Dec.{T, eqb, leb, ltb, leb→le, leb-suc-suc}
use lib.ListN.{length, take, get_or}
use borrow.Author.Tests.{lt-ltb}
use Rattle.complex.specs.Lists.{rising}
use Rattle.complex.specs.Cells.{LiveCell, lookup, some_if, cell_at, ids, is_vertex, is_open, is_closed, is_face, is_live}
use Rattle.complex.specs.Sound.{sound, cells_most, cycles_most, steps_most, bends_most, ids_end, ceilings, figures_ok}
use Rattle.complex.proofs.Bools.{both}
use Rattle.store.specs.declared.Drawing.{Drawing}
use Rattle.store.specs.declared.Cell.{Cell}
use Rattle.store.specs.declared.Index.{Index}
use Rattle.store.specs.Sizes.{Sizes}
use Rattle.store.specs.View.{sheet_of, Fits, cycle_total, bend_total, step_total, bend_count, cycle_count}
use Rattle.store.specs.Index.{Rising, Indexes, row_of, kind_of, shape_start, shape_end, value_at}
use Rattle.store.proofs.Stands.{stands, count_is, ids_same}
use Rattle.store.proofs.Rows.{row_lookup}
use Rattle.sound.specs.Soundness.{sums_fit, fits_in, sound_sheet, sound_drawing}
use Rattle.sound.specs.Looks.{index_value, Looks}
use Rattle.sound.proofs.Parts.{is_vertex_lem, is_open_lem, is_closed_lem, is_face_lem, id_row, kind_row, start_row, end_row, bend_row, cycle_row, kind_row_lem, start_row_lem, end_row_lem}
use Rattle.sound.proofs.Parts.{bend_row_lem, cycle_row_lem}

-- ---- the drawing fits, and its sheet is sound
pub fits_is : (d : Drawing) → T (fits_in d) → Fits d
fits_is d t =
    let a = both (leb d.count cells_most) (sums_fit (bend_total d) (cycle_total d) (step_total d)) t in
    let b = both (leb (bend_total d) bends_most) (leb (cycle_total d) cycles_most && leb (step_total d) steps_most) a.1 in
    let k = both (leb (cycle_total d) cycles_most) (leb (step_total d) steps_most) b.1 in
    record {
      cells = leb→le d.count cells_most a.0;
      cycles = leb→le (cycle_total d) cycles_most k.0;
      steps = leb→le (step_total d) steps_most k.1;
      bends = leb→le (bend_total d) bends_most b.0;
    }

pub sound_fits : (d : Drawing) → T (sound_drawing d) → Fits d
sound_fits d t = fits_is d (both (fits_in d) (sound_sheet d) t).0

pub sound_sheet_lem : (d : Drawing) → T (sound_drawing d) → T (sound (sheet_of d))
sound_sheet_lem d t = (both (fits_in d) (sound_sheet d) t).1

-- ---- the ids rise
above : (lo : ℕ) (l : List ℕ) (hi : ℕ) → T (rising lo l hi) → (k : ℕ) → k < length l → lo < get_or l k 0
above lo [] hi t k h = absurd (omega arith)
above lo (n ∷ l) hi t zero h = leb→le (suc lo) n (both (ltb lo n) (rising n l hi) t).0
above lo (n ∷ l) hi t (suc k) h =
    let a = leb→le (suc lo) n (both (ltb lo n) (rising n l hi) t).0 in
    let b = above n l hi (both (ltb lo n) (rising n l hi) t).1 k (omega arith) in
    omega arith

rises : (lo : ℕ) (l : List ℕ) (hi : ℕ) → T (rising lo l hi) → (i j : ℕ) → i < j → j < length l → get_or l i 0 < get_or l j 0
rises lo [] hi t i j h k = absurd (omega arith)
rises lo (n ∷ l) hi t zero zero h k = absurd (omega arith)
rises lo (n ∷ l) hi t zero (suc j) h k = above n l hi (both (ltb lo n) (rising n l hi) t).1 j (omega arith)
rises lo (n ∷ l) hi t (suc i) zero h k = absurd (omega arith)
rises lo (n ∷ l) hi t (suc i) (suc j) h k = rises n l hi (both (ltb lo n) (rising n l hi) t).1 i j (omega arith) (omega arith)

pub rising_is : (l : List ℕ) (hi : ℕ) → T (rising 0 l hi) → Rising l
rising_is l hi t = record { below = rises 0 l hi t }

pub sheet_rising : (d : Drawing) → T (sound (sheet_of d)) → T (rising 0 (ids (sheet_of d).cells) (sheet_of d).next)
unfolding sound
sheet_rising d t =
    let s = sheet_of d in
    (both (rising 0 (ids s.cells) s.next) (leb s.next ids_end && (ceilings s.cells && figures_ok s.cells)) t).0

-- ---- the rows tell the cells
module _ (d : Drawing) (z : Sizes d) (f : Fits d) (ix : Index) (x : Indexes d ix) where
  pub ids_are : take d.count ix.ids ≡ id_row (sheet_of d).cells
  ids_are = x.ids ∙ ap (map (λ (c : Cell). c.id)) (stands d z f).cells

  pub kinds_are : take d.count ix.kinds ≡ kind_row (sheet_of d).cells
  kinds_are = x.kinds ∙ ap (map (λ (c : Cell). kind_of c.shape)) (stands d z f).cells

  pub starts_are : take d.count ix.starts ≡ start_row (sheet_of d).cells
  starts_are = x.starts ∙ ap (map (λ (c : Cell). shape_start c.shape)) (stands d z f).cells

  pub ends_are : take d.count ix.ends ≡ end_row (sheet_of d).cells
  ends_are = x.ends ∙ ap (map (λ (c : Cell). shape_end c.shape)) (stands d z f).cells

  pub bends_are : take d.count ix.bends ≡ bend_row (sheet_of d).cells
  bends_are = x.bends ∙ ap (map (λ (c : Cell). bend_count c.shape)) (stands d z f).cells

  pub cycles_are : take d.count ix.cycles ≡ cycle_row (sheet_of d).cells
  cycles_are = x.cycles ∙ ap (map (λ (c : Cell). cycle_count c.shape)) (stands d z f).cells

  -- of any drawing that fits and whose ids rise
  pub looks_in : Rising (take d.count ix.ids) → Looks d ix
  looks_in r =
      let xs = (sheet_of d).cells in
      record {
        rising = r;
        kinds = λ i. ap₂ (λ (is vs : List ℕ). value_at 4 is vs i) ids_are kinds_are ∙ kind_row_lem xs i;
        starts = λ i. ap₂ (λ (is vs : List ℕ). value_at 0 is vs i) ids_are starts_are ∙ start_row_lem xs i;
        ends = λ i. ap₂ (λ (is vs : List ℕ). value_at 0 is vs i) ids_are ends_are ∙ end_row_lem xs i;
        bends = λ i. ap₂ (λ (is vs : List ℕ). value_at 0 is vs i) ids_are bends_are ∙ bend_row_lem xs i;
        cycles = λ i. ap₂ (λ (is vs : List ℕ). value_at 0 is vs i) ids_are cycles_are ∙ cycle_row_lem xs i;
      }

-- the index of a sound drawing tells each cell of its sheet by id
pub looks : (d : Drawing) → Sizes d → (ix : Index) → Indexes d ix → T (sound_drawing d) → Looks d ix
looks d z ix x t =
    let f = sound_fits d t in
    looks_in d z f ix x
    (rising_is (take d.count ix.ids) (sheet_of d).next
    (rw (x.ids ∙ ids_same d z f) (sheet_rising d (sound_sheet_lem d t))))

-- ---- the row of an id
row_live : (xs : List LiveCell) (i : ℕ) → ltb (row_of i (id_row xs)) (length xs) ≡ is_live (lookup xs i)
row_live [] i = refl
row_live (x ∷ xs) i = go (eqb x.id i) (row_live xs i)
  where
    go : (b : Bool) → ltb (row_of i (id_row xs)) (length xs) ≡ is_live (lookup xs i)
        → ltb (cond b 0 (suc (row_of i (id_row xs)))) (suc (length xs)) ≡ is_live (some_if b x.figure (lookup xs i))
    go true k = lt-ltb 0 (suc (length xs)) (omega arith)
    go false k = leb-suc-suc (suc (row_of i (id_row xs))) (length xs) ∙ k

module _ (d : Drawing) (z : Sizes d) (f : Fits d) (ix : Index) (x : Indexes d ix) where
  -- an id has a row if its cell is live
  pub live_row : (i : ℕ) → ltb (row_of i (take d.count ix.ids)) d.count ≡ is_live (cell_at (sheet_of d) i)
  live_row i =
      ap₂ (λ (l : List ℕ) (n : ℕ). ltb (row_of i l) n) (ids_are d z f ix x) (count_is d (sheet_of d).cells (stands d z f) z f.cells)
      ∙ row_live (sheet_of d).cells i

  -- and the cell is the one in that row
  pub found_row : (i r : ℕ) → r ≡ row_of i (take d.count ix.ids) → r < d.count → (y : LiveCell)
      → cell_at (sheet_of d) i ≡ some (get_or (sheet_of d).cells r y).figure
  found_row i r e h y =
      let n = count_is d (sheet_of d).cells (stands d z f) z f.cells in
      let g : r ≡ row_of i (ids (sheet_of d).cells) = e ∙ ap (row_of i) (x.ids ∙ ids_same d z f) in
      row_lookup (sheet_of d).cells i y (omega arith) ∙ ap (λ (k : ℕ). some (get_or (sheet_of d).cells k y).figure) (sym g)

-- ---- the kind in the row of an id
module _ {d : Drawing} {ix : Index} (k : Looks d ix) (i : ℕ) where
  pub vertex_at : eqb (index_value 4 d ix ix.kinds i) 0 ≡ is_vertex (cell_at (sheet_of d) i)
  vertex_at = ap (λ (n : ℕ). eqb n 0) (k.kinds i) ∙ is_vertex_lem (cell_at (sheet_of d) i)

  pub open_at : eqb (index_value 4 d ix ix.kinds i) 1 ≡ is_open (cell_at (sheet_of d) i)
  open_at = ap (λ (n : ℕ). eqb n 1) (k.kinds i) ∙ is_open_lem (cell_at (sheet_of d) i)

  pub closed_at : eqb (index_value 4 d ix ix.kinds i) 2 ≡ is_closed (cell_at (sheet_of d) i)
  closed_at = ap (λ (n : ℕ). eqb n 2) (k.kinds i) ∙ is_closed_lem (cell_at (sheet_of d) i)

  pub face_at : eqb (index_value 4 d ix ix.kinds i) 3 ≡ is_face (cell_at (sheet_of d) i)
  face_at = ap (λ (n : ℕ). eqb n 3) (k.kinds i) ∙ is_face_lem (cell_at (sheet_of d) i)
