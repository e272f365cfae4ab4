-- 0C: from its questions to its answer. Assumes nothing.
use Prim.Native.Nat.{ℕ, ◌+◌}
use mathlib.Core.Path.{◌≡◌, refl, ap, ap₂, sym, subst, ◌∙◌}
use mathlib.Core.Bool.{Bool, true, false}
use mathlib.Core.List.{List, ◌∷◌}
use lib.Dec.{eqb}
use lib.ListN.{length, get_or}
use borrow.Author.Tests.{eq-eqb, eqb-true}
use Rattle.number.specs.Readers.{all}
use Rattle.coordinate.specs.declared.Position.{Position}
use Rattle.coordinate.specs.Bounds.{within}
use Rattle.bends.specs.Bends.{positions_at}
use Rattle.bends.proofs.Laws.{positions_length}
use Rattle.complex.specs.Cells.{Cycle, face, Sheet, cell_at, is_face, cycles_of}
use Rattle.complex.specs.Edits.{rebuild, every_id, replaced}
use Rattle.complex.specs.Decode.{Command, cut_face_open}
use Rattle.complex.specs.Commands.{question4, question5, question6, result}
use Rattle.complex.specs.Cut.{no_cycle, cut_corners, face_cut_along}
use Rattle.answer.specs.Sizes.{sized, more_less, changed_by, alone_in, along_change, new_cells, change_of}
use Rattle.complex.specs.Answer.{no, asked3}
use Rattle.complex.proofs.Asked.{early_bends, out_bends, Passed, no_3, no_4, no_5}
use Rattle.store.specs.declared.Drawing.{Drawing}
use Rattle.store.specs.declared.Index.{Index}
use Rattle.store.specs.Sizes.{Sizes}
use Rattle.store.specs.View.{sheet_of}
use Rattle.sound.proofs.Meaning.{sound_fits}
use Rattle.answer.specs.declared.Totals.{Totals}
use Rattle.answer.specs.Late.{sizes_by, late_no}
use Rattle.answer.proofs.Laws.{totals_in}
use Rattle.decode_parts.specs.Lists.{numbers_read}
use Rattle.answer.proofs.Asked.{Asked, room, asked_of}
use Rattle.rows_spans.specs.declared.Spans.{Spans}
use Rattle.rows_corners.specs.Faces.{Spanned}
use Rattle.rows_split.specs.Along.{chord, old_side, new_faces, Along, Cutting}
use Rattle.rows_split.proofs.Cuts.{in_first, in_second}
use Rattle.ask_cut_along.specs.Corners.{lone_count, cut_no}
use Rattle.ask_cut_along.proofs.Corners.{lone_told, no_of_one, no_of_two}

-- ---- the questions
module _ (s : Sheet) (f c1 s1 c2 s2 : ℕ) (bs : List Position) (ms : List ℕ) where
  abbrev cut : Command
  cut = cut_face_open f c1 s1 c2 s2 bs ms

  abbrev ks : List Cycle
  ks = cycles_of (cell_at s f)

  four : question4 s cut ≡ is_face (cell_at s f)
  unfolding question4
  four = refl

  five : question5 s cut ≡ cut_corners (cell_at s) ks c1 s1 c2 s2 ms
  unfolding question5
  five = refl

  six : question6 s cut ≡ true
  unfolding question6
  six = refl

  pub outside : all within bs ≡ false → asked3 s cut ≡ no 3 s
  outside a = no_3 s cut (out_bends cut a)

  pub no_face : all within bs ≡ true → is_face (cell_at s f) ≡ false → asked3 s cut ≡ no 4 s
  no_face a b = no_4 s cut (early_bends cut a) (four ∙ b)

  pub no_corner : all within bs ≡ true → is_face (cell_at s f) ≡ true → cut_corners (cell_at s) ks c1 s1 c2 s2 ms ≡ false → asked3 s cut ≡ no 5 s
  no_corner a b c = no_5 s cut (early_bends cut a) (four ∙ b) (five ∙ c)

  passed : all within bs ≡ true → is_face (cell_at s f) ≡ true → cut_corners (cell_at s) ks c1 s1 c2 s2 ms ≡ true → Passed s cut
  passed a b c = record { bytes = early_bends cut a; four = four ∙ b; five = five ∙ c; six = six }

  pub cut_is : (t : Sheet) → t ≡ face_cut_along s f c1 s1 c2 s2 bs ms → t ≡ result s cut
  unfolding result
  cut_is t e = e

  -- ---- one cycle
  module _ (e : eqb c1 c2 ≡ true) where
    one_new_lem : new_cells s cut ≡ 2
    unfolding new_cells
    one_new_lem = rw e

    one_change : (b n : ℕ) → length bs ≡ b → n ≡ alone_in (get_or ks c1 no_cycle) → change_of s cut ≡ more_less (sized 2 1 2 b) (sized 0 0 n 0)
    unfolding change_of
    one_change b n eb en =
        ap (λ (q : Bool). along_change q (get_or ks c1 no_cycle) (get_or ks c2 no_cycle) (length bs)) e
        ∙ ap₂ (λ (x y : ℕ). more_less (sized 2 1 2 x) (sized 0 0 y 0)) eb (sym en)

  -- ---- two cycles
  module _ (e : eqb c1 c2 ≡ false) where
    two_new : new_cells s cut ≡ 1
    unfolding new_cells
    two_new = rw e

    two_change : (b n m : ℕ) → length bs ≡ b → n ≡ alone_in (get_or ks c1 no_cycle) → m ≡ alone_in (get_or ks c2 no_cycle)
        → change_of s cut ≡ more_less (sized 1 0 2 b) (sized 0 1 (n + m) 0)
    unfolding change_of
    two_change b n m eb en em =
        ap (λ (q : Bool). along_change q (get_or ks c1 no_cycle) (get_or ks c2 no_cycle) (length bs)) e
        ∙ ap₂ (λ (x y : ℕ). more_less (sized 1 0 2 x) (sized 0 1 y 0)) eb (ap₂ ◌+◌ (sym en) (sym em))

-- the result, by whether the corners are of one cycle
module _ (s : Sheet) (f c1 s1 s2 : ℕ) (bs : List Position) (ms : List ℕ) where
  abbrev Rebuilt : ℕ → Type 0
  Rebuilt c2 = result s (cut_face_open f c1 s1 c2 s2 bs ms) ≡ rebuild every_id (replaced f (face (old_side s.next c1 s1 c2 s2 ms (cycles_of (cell_at s f)))))
      (chord (cell_at s) (cycles_of (cell_at s f)) c1 s1 c2 s2 bs ∷ new_faces s.next c1 s1 c2 s2 ms (cycles_of (cell_at s f))) s

  one_result : Rebuilt c1
  unfolding result face_cut_along
  one_result = rw (eq-eqb c1 c1 refl)

  two_result : (c2 : ℕ) → eqb c1 c2 ≡ false → Rebuilt c2
  unfolding result face_cut_along
  two_result c2 e = rw e

  cut_result : (c2 : ℕ) → Rebuilt c2
  cut_result c2 = go (eqb c1 c2) refl
    where
      go : (q : Bool) → eqb c1 c2 ≡ q → Rebuilt c2
      go true e = subst Rebuilt (eqb-true c1 c2 e) one_result
      go false e = two_result c2 e

-- ---- questions 3 to 6 got a yes; what is asked next, and the room that a yes leaves
module _ (d : Drawing) (z : Sizes d) (ix : Index) (script : List ℕ) (f c1 s1 c2 s2 bends first moved place : ℕ)
    (a : Along d ix script f c1 s1 c2 s2 bends first moved place)
    (q : all within (positions_at script first bends) ≡ true) (t : Totals) (et : t ≡ totals_in d z (sound_fits d a.sound) ix a.named.index) (r : ℕ) where
  abbrev bs : List Position
  bs = positions_at script first bends

  abbrev ms : List ℕ
  ms = numbers_read script place moved

  abbrev asks : Type 0
  asks = Asked d (cut_face_open f c1 s1 c2 s2 bs ms) r

  pass : Passed (sheet_of d) (cut_face_open f c1 s1 c2 s2 bs ms)
  pass = passed (sheet_of d) f c1 s1 c2 s2 bs ms q a.named.face a.corners

  many : length bs ≡ bends
  many = positions_length script first bends

  one_asked : eqb c1 c2 ≡ true → (n : ℕ) → n ≡ alone_in (get_or (cycles_of (cell_at (sheet_of d) f)) c1 no_cycle)
      → r ≡ late_no d.next 2 (changed_by (sizes_by t) (more_less (sized 2 1 2 bends) (sized 0 0 n 0))) → asks
  one_asked e n en er =
      asked_of d z a.sound (cut_face_open f c1 s1 c2 s2 bs ms) r
      (record {
        index = ix;
        indexes = a.named.index;
        new = 2;
        totals = t;
        more = record { cells = 2; cycles = 1; steps = 2; bends = bends };
        less = record { cells = 0; cycles = 0; steps = n; bends = 0 };
        passed = pass;
        new_is = one_new_lem (sheet_of d) f c1 s1 c2 s2 bs ms e;
        change_is = one_change (sheet_of d) f c1 s1 c2 s2 bs ms e bends n many en;
        totals_are = et;
        says = er;
      })

  two_asked : eqb c1 c2 ≡ false → (n m : ℕ) → n ≡ alone_in (get_or (cycles_of (cell_at (sheet_of d) f)) c1 no_cycle)
      → m ≡ alone_in (get_or (cycles_of (cell_at (sheet_of d) f)) c2 no_cycle)
      → r ≡ late_no d.next 1 (changed_by (sizes_by t) (more_less (sized 1 0 2 bends) (sized 0 1 (n + m) 0))) → asks
  two_asked e n m en em er =
      asked_of d z a.sound (cut_face_open f c1 s1 c2 s2 bs ms) r
      (record {
        index = ix;
        indexes = a.named.index;
        new = 1;
        totals = t;
        more = record { cells = 1; cycles = 0; steps = 2; bends = bends };
        less = record { cells = 0; cycles = 1; steps = n + m; bends = 0 };
        passed = pass;
        new_is = two_new (sheet_of d) f c1 s1 c2 s2 bs ms e;
        change_is = two_change (sheet_of d) f c1 s1 c2 s2 bs ms e bends n m many en em;
        totals_are = et;
        says = er;
      })

  pub cut_asked : (s : Spans) → Spanned d f s → r ≡ cut_no d.next t d.cycles s c1 c2 bends → asks
  cut_asked s w er =
      let told = lone_told d z ix f a.named s w in
      go (told c1 (in_first a) (lone_count d.cycles s c1) refl) (told c2 (in_second a) (lone_count d.cycles s c2) refl) (eqb c1 c2) refl
    where
      go : lone_count d.cycles s c1 ≡ alone_in (get_or (cycles_of (cell_at (sheet_of d) f)) c1 no_cycle)
          → lone_count d.cycles s c2 ≡ alone_in (get_or (cycles_of (cell_at (sheet_of d) f)) c2 no_cycle) → (x : Bool) → eqb c1 c2 ≡ x → asks
      go e1 e2 true e = one_asked e _ e1 (er ∙ no_of_one d.next t d.cycles s c1 c2 bends e)
      go e1 e2 false e = two_asked e _ _ e1 e2 (er ∙ no_of_two d.next t d.cycles s c1 c2 bends e)

-- the room that a yes leaves
pub cutting : (d : Drawing) (z : Sizes d) (ix : Index) (script : List ℕ) (f c1 s1 c2 s2 bends first moved place : ℕ)
    (a : Along d ix script f c1 s1 c2 s2 bends first moved place) (r : ℕ)
    → Asked d (cut_face_open f c1 s1 c2 s2 (positions_at script first bends) (numbers_read script place moved)) r → r ≡ 0
    → Cutting d ix script f c1 s1 c2 s2 bends first moved place
cutting d z ix script f c1 s1 c2 s2 bends first moved place a r k y =
    record { asked = a; room = room d z a.sound _ r k y every_id _ _ (cut_result (sheet_of d) f c1 s1 s2 _ _ c2) }
