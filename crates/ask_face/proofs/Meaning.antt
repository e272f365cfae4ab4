-- The walks ask 4 and 6 of the cycles of a new face as the definitions do. Assumes nothing.
use Prim.Native.Nat.{ℕ, suc, ◌+◌, ◌-◌, ◌≤◌, ◌<◌, min}
use native.Mathlib.Omega.{arith}
use mathlib.Core.Path.{◌≡◌, refl, sym, ap, ap₂, ◌∙◌}
use mathlib.Core.Bool.{Bool, true, false, ◌&&◌, ◌||◌, cond}
use mathlib.Core.Logic.{⊎_elim}
use mathlib.Core.List.{List, [], ◌∷◌, map}
use lib.Dec.{T, eqb, leb}
use lib.ListN.{length, length-map}
use lib.Seq.{take_all}
use borrow.Author.Tests.{leb-true, leb-false, lt-leb}
use Rattle.complex.specs.Lists.{all, total}
use Rattle.complex.specs.Cells.{Halfedge, Cycle, lone, path, face, LiveCell, lookup, cell_at, is_edge}
use Rattle.complex.specs.Sound.{ids_end, cells_most, cycles_most, bends_most, step_count, cycle_ok}
use Rattle.complex.specs.Decode.{create, read_cycle}
use Rattle.complex.specs.Commands.{question4, question5, question6, cycle_names}
use Rattle.answer.specs.Sizes.{sized, nothing, more_less, changed_by}
use Rattle.complex.specs.Answer.{no, asked3}
use Rattle.complex.proofs.Bools.{truth, true_of, both, either}
use Rattle.complex.proofs.Asked.{early, early_none, Passed, no_4, no_6}
use Rattle.store.specs.declared.Drawing.{Drawing}
use Rattle.store.specs.declared.Index.{Index}
use Rattle.store.specs.Index.{Indexes}
use Rattle.store.specs.Sheet.{real, all_real}
use Rattle.store.specs.Sizes.{Sizes}
use Rattle.store.specs.View.{sheet_of, halfedge_of, cycle_of}
use Rattle.store.specs.Places.{word, num_of, cycle_words}
use Rattle.store.proofs.Encode.{halves}
use Rattle.sound.specs.Rows.{Rows, rows_of, cycle_good}
use Rattle.sound.specs.Soundness.{sound_drawing}
use Rattle.sound.proofs.Parts.{is_vertex_lem, is_open_lem, is_closed_lem, kind_row_lem}
use Rattle.sound.proofs.Rings.{cell_rows, cycles_right_lem}
use Rattle.sound.proofs.Meaning.{sound_fits, looks, ids_are, kinds_are, starts_are, ends_are}
use Rattle.decode_parts.specs.Lists.{cycles_read, Stand}
use Rattle.script.proofs.Cycles.{reals_read}
use Rattle.answer.specs.declared.Totals.{Totals}
use Rattle.answer.specs.Late.{sizes_by, late_no}
use Rattle.ask_face_named.specs.Walks.{Rowed, edge_in, passes_in}
use Rattle.ask_face.specs.Faces.{face_no}

and_none : (b : Bool) → (b && true) ≡ b
and_none true = refl
and_none false = refl

all_alike : {A : Type 0} (p q : A → Bool) → ((x : A) → p x ≡ q x) → (xs : List A) → all p xs ≡ all q xs
all_alike p q h [] = refl
all_alike p q h (x ∷ xs) = ap₂ ◌&&◌ (h x) (all_alike p q h xs)

-- ---- of the cells' own rows
module _ (xs : List LiveCell) where
  edge_is : (e : ℕ) → edge_in (cell_rows xs).ids (cell_rows xs).kinds e ≡ is_edge (lookup xs e)
  edge_is e = ap₂ ◌||◌ (ap (λ (n : ℕ). eqb n 1) (kind_row_lem xs e) ∙ is_open_lem (lookup xs e)) (ap (λ (n : ℕ). eqb n 2) (kind_row_lem xs e) ∙ is_closed_lem (lookup xs e))

  names_are : (k : Cycle) → passes_in (cell_rows xs) true k ≡ cycle_names (lookup xs) k
  names_are (lone v) = ap (λ (n : ℕ). eqb n 0) (kind_row_lem xs v) ∙ is_vertex_lem (lookup xs v)
  names_are (path hs) =
      all_alike (λ (h : Halfedge). edge_in (cell_rows xs).ids (cell_rows xs).kinds h.edge) (λ (h : Halfedge). is_edge (lookup xs h.edge))
      (λ h. edge_is h.edge) hs

  cycle_back : (k : Cycle) → real k ≡ true → cycle_of (num_of k) (cycle_words k) ≡ k
  cycle_back (lone v) e = refl
  cycle_back (path []) e = absurd (truth_of e)
    where
      truth_of : false ≡ true → ⊥
      truth_of e = truth e
  cycle_back (path (h ∷ hs)) e =
      let l = length-map (h ∷ hs) word in
      ap path (ap (map halfedge_of) (take_all (suc (length hs)) (map word (h ∷ hs)) (omega arith)) ∙ halves (h ∷ hs))

  joins_are : (k : Cycle) → real k ≡ true → passes_in (cell_rows xs) false k ≡ cycle_ok (lookup xs) k
  joins_are k e =
      sym (and_none (cycle_good (cell_rows xs) (num_of k) (cycle_words k)))
      ∙ cycles_right_lem xs (num_of k ∷ []) (cycle_words k)
      ∙ and_none (cycle_ok (lookup xs) (cycle_of (num_of k) (cycle_words k)))
      ∙ ap (cycle_ok (lookup xs)) (cycle_back k e)

  all_join : (ks : List Cycle) → all_real ks ≡ true → all (passes_in (cell_rows xs) false) ks ≡ all (cycle_ok (lookup xs)) ks
  all_join [] e = refl
  all_join (k ∷ ks) e =
      let r = both (real k) (all_real ks) (truth e) in
      ap₂ ◌&&◌ (joins_are k (true_of (real k) r.0)) (all_join ks (true_of (all_real ks) r.1))

-- ---- the number of the first no
abbrev no_of : Bool → Bool → ℕ
no_of a b = cond a (cond b 0 6) 4

module _ (t : Rows) (ks : List Cycle) where
  pub no_four : all (passes_in t true) ks ≡ false → no_of false false ≡ face_no t ks
  no_four e = sym (ap (λ (u : Bool). no_of u (all (passes_in t false) ks)) e)

  pub no_six : all (passes_in t true) ks ≡ true → all (passes_in t false) ks ≡ false → no_of true false ≡ face_no t ks
  no_six e f = sym (ap₂ no_of e f)

  pub no_zero : all (passes_in t true) ks ≡ true → all (passes_in t false) ks ≡ true → no_of true true ≡ face_no t ks
  no_zero e f = sym (ap₂ no_of e f)

-- ---- of a drawing's index
module _ (d : Drawing) (z : Sizes d) (w : T (sound_drawing d)) (ix : Index) (x : Indexes d ix) where
  abbrev rows : Rows
  rows = rows_of d.count ix.ids ix.kinds ix.starts ix.ends

  rows_are : rows ≡ cell_rows (sheet_of d).cells
  rows_are =
      let f = sound_fits d w in
      λ i. record { ids = ids_are d z f ix x i; kinds = kinds_are d z f ix x i; starts = starts_are d z f ix x i; ends = ends_are d z f ix x i }

  pub rowed : Rowed d.count ix.ids ix.kinds ix.starts ix.ends
  rowed =
      record {
        few = (sound_fits d w).cells;
        ids = x.sizes.0;
        kinds = x.sizes.1;
        starts = x.sizes.2;
        ends = x.sizes.3;
        rising = (looks d z ix x w).rising;
      }

  module _ (s : List ℕ) (first k : ℕ) (stand : Stand read_cycle s first k) where
    abbrev ks : List Cycle
    ks = cycles_read s first k

    four : all (passes_in rows true) ks ≡ question4 (sheet_of d) (create (face ks))
    unfolding question4
    four =
        ap (λ (t : Rows). all (passes_in t true) ks) rows_are
        ∙ all_alike (passes_in (cell_rows (sheet_of d).cells) true) (cycle_names (cell_at (sheet_of d))) (names_are (sheet_of d).cells) ks

    six : all (passes_in rows false) ks ≡ question6 (sheet_of d) (create (face ks))
    unfolding question6
    six = ap (λ (t : Rows). all (passes_in t false) ks) rows_are ∙ all_join (sheet_of d).cells ks (reals_read k _ _ ks stand.reach.read)

    bytes : early (create (face ks)) ≡ 0
    bytes = early_none (create (face ks)) refl

    five : question5 (sheet_of d) (create (face ks)) ≡ true
    unfolding question5
    five = refl

    module _ (r : ℕ) (e : r ≡ face_no rows ks) where
      by : (a b : Bool) → all (passes_in rows true) ks ≡ a → all (passes_in rows false) ks ≡ b → r ≡ cond a (cond b 0 6) 4
      by a b p q = e ∙ ap₂ (λ (u v : Bool). cond u (cond v 0 6) 4) p q

      pub face_refuses : (r ≡ 0 → ⊥) → asked3 (sheet_of d) (create (face ks)) ≡ no r (sheet_of d)
      face_refuses nz = go (all (passes_in rows true) ks) (all (passes_in rows false) ks) refl refl
        where
          go : (a b : Bool) → all (passes_in rows true) ks ≡ a → all (passes_in rows false) ks ≡ b → asked3 (sheet_of d) (create (face ks)) ≡ no r (sheet_of d)
          go false b p q = no_4 (sheet_of d) (create (face ks)) bytes (sym four ∙ p) ∙ ap (λ (n : ℕ). no n (sheet_of d)) (sym (by false b p q))
          go true false p q =
              no_6 (sheet_of d) (create (face ks)) bytes (sym four ∙ p) five (sym six ∙ q) ∙ ap (λ (n : ℕ). no n (sheet_of d)) (sym (by true false p q))
          go true true p q = absurd (nz (by true true p q))

      pub face_passed : r ≡ 0 → Passed (sheet_of d) (create (face ks))
      face_passed n = go (all (passes_in rows true) ks) (all (passes_in rows false) ks) refl refl
        where
          go : (a b : Bool) → all (passes_in rows true) ks ≡ a → all (passes_in rows false) ks ≡ b → Passed (sheet_of d) (create (face ks))
          go false b p q = absurd (let u = by false b p q in omega arith)
          go true false p q = absurd (let u = by true false p q in omega arith)
          go true true p q = record { bytes = bytes; four = sym four ∙ p; five = five; six = sym six ∙ q }

-- ---- 8 asks the same of a count of steps that stops above the ceiling
capped : (a m t : ℕ) → m ≡ min 2049 t → leb (a + m - 0) 2048 ≡ leb (a + t - 0) 2048
capped a m t e = ⊎_elim (λ p. few (leb-true t 2048 p)) (λ p. many (leb-false t 2048 p)) (either (leb t 2048))
  where
    few : t ≤ 2048 → leb (a + m - 0) 2048 ≡ leb (a + t - 0) 2048
    few h = let q : m ≡ t = omega arith in ap (λ (n : ℕ). leb (a + n - 0) 2048) q

    many : 2048 < t → leb (a + m - 0) 2048 ≡ leb (a + t - 0) 2048
    many h = lt-leb (a + m - 0) 2048 (omega arith) ∙ sym (lt-leb (a + t - 0) 2048 (omega arith))

pub no_by_steps : (next : ℕ) (t : Totals) (r k m : ℕ) (ks : List Cycle) → k ≡ length ks → m ≡ min 2049 (total step_count ks)
    → r ≡ late_no next 1 (changed_by (sizes_by t) (more_less (sized 1 k m 0) nothing))
    → r ≡ late_no next 1 (changed_by (sizes_by t) (more_less (sized 1 (length ks) (total step_count ks) 0) nothing))
no_by_steps next t r k m ks ek em q =
    q
    ∙ ap₂ (λ (c : ℕ) (b : Bool). cond (leb (next + 1) ids_end)
    (cond (leb (t.cells + 1 - 0) cells_most && (leb (t.cycles + c - 0) cycles_most && (b && leb (t.bends + 0 - 0) bends_most))) 0 8) 7)
    ek (capped t.steps m (total step_count ks) em)
