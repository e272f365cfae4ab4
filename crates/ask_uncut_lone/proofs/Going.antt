-- A vertex of a drawing that goes with its lone cycle: what is found, what is asked, and the room. Assumes nothing.
use Prim.Native.Nat.{ℕ, ◌+◌, ◌-◌, ◌<◌, ◌≤◌}
use mathlib.Core.Path.{◌≡◌, refl, ap, ap₂, sym, subst, ◌∙◌}
use mathlib.Core.Bool.{Bool, true, ◌&&◌, cond}
use mathlib.Core.List.{List, []}
use mathlib.Core.Option.{some}
use native.Mathlib.Omega.{arith}
use lib.Dec.{T}
use lib.ListN.{length, take, get_or}
use lib.Seq.{get_or-take}
use borrow.Author.Tests.{le-leb}
use Rattle.coordinate.specs.declared.Position.{Position}
use Rattle.complex.specs.Lists.{total, one, without}
use Rattle.complex.specs.Cells.{Cycle, vertex, face, Sheet, cell_at, ids, is_face, is_live}
use Rattle.complex.specs.Cells as cells
use Rattle.complex.specs.Edits.{rebuild, neither, replaced}
use Rattle.complex.specs.Sound.{ids_end, cells_most, cycles_most, steps_most, bends_most}
use Rattle.answer.specs.Sizes.{sized, sizes_fit, more_less, changed_by}
use Rattle.complex.specs.Decode.{uncut}
use Rattle.complex.specs.Uses.{lone_use, uses_by, all_cycles}
use Rattle.complex.specs.Uncut.{lonely, uncut_case, uncut_result}
use Rattle.complex.proofs.Bools.{truth}
use Rattle.complex.proofs.Uncut.{Holds, is_lonely, uncut_holds}
use Rattle.store.specs.declared.Drawing.{Drawing}
use Rattle.store.specs.declared.Index.{Index}
use Rattle.store.specs.Index.{Indexes}
use Rattle.store.specs.Sizes.{Sizes}
use Rattle.store.specs.View.{sheet_of, cycles_from, width_sum}
use Rattle.store.specs.Edits.{places_of}
use Rattle.store.proofs.Lists.{width_places}
use Rattle.store.proofs.Stands.{stands, count_is, ids_same}
use Rattle.sound.specs.Soundness.{sound_drawing}
use Rattle.sound.proofs.Meaning.{sound_fits, cycles_are}
use Rattle.rows_spans.specs.declared.Spans.{Spans}
use Rattle.rows_new.specs.Appends.{remade}
use Rattle.answer.specs.Late.{Summed}
use Rattle.answer.proofs.Laws.{summed, totals_in}
use Rattle.rows_corners.specs.Faces.{Named, Spanned, cycles_at, Roomy}
use Rattle.rows_corners.proofs.Lists.{at_length}
use Rattle.rows_corners.proofs.Rows.{roomy}
use Rattle.rows_corners.proofs.Edits.{named_in}
use Rattle.answer.proofs.Asked.{sound_in, next_in_lem, Asked, room, asked_of}
use Rattle.rows_gone.proofs.Dropped.{remade_rebuild}
use Rattle.law_uncut.proofs.Passing.{uncut_passed, uncut_result_lem}
use Rattle.answer.proofs.SizesUncut.{uncut_new, uncut_change_lem}
use Rattle.law_uncut.proofs.Held.{cycles_held, cycle_places}
use Rattle.ask_uncut_lone.specs.declared.Held.{Held}
use Rattle.ask_uncut_lone.specs.Lone.{lone_place, holding}
use Rattle.ask_uncut_lone.proofs.Sheets.{Found, found, face_of, lonely_refaced, lonely_face, lonely_stays}

-- a vertex and one lone cycle
lone_parts : (s : Sheet) (v : ℕ) → Holds s v lonely → (p : Position) × (cell_at s v ≡ some (vertex p)) × (uses_by (lone_use v) s.cells ≡ 1)
lone_parts s v (is_lonely p at e n) = (p, at, n)

module _ (d : Drawing) (z : Sizes d) (w : T (sound_drawing d)) (v : ℕ) (e : uncut_case (sheet_of d) v ≡ lonely) where
  parts : (p : Position) × (cell_at (sheet_of d) v ≡ some (vertex p)) × (uses_by (lone_use v) (sheet_of d).cells ≡ 1)
  parts =
      lone_parts (sheet_of d) v
      (subst (Holds (sheet_of d) v) e (uncut_holds (sheet_of d) (sound_in d w) v (truth (uncut_passed (sheet_of d) v lonely e refl).six)))

  pub live : is_live (cell_at (sheet_of d) v) ≡ true
  live = ap is_live parts.1

  module _ (ix : Index) (x : Indexes d ix) where
    -- ---- what the search asks
    module _ (m : ℕ) (em : m ≡ total (places_of 0) (take d.count ix.cycles)) where
      pub seeking : (length d.cycles ≡ 512) × ((length d.steps ≡ 2048) × ((m ≤ 512) × (width_sum (take m d.cycles) ≤ 2048)))
      seeking =
          let k = summed d z (sound_fits d w) ix x in
          let s = k.cycle_sum in
          let q = k.step_sum in
          let a = ap (λ (n : ℕ). width_sum (take n d.cycles)) em in
          let b = width_places (take (total (places_of 0) (take d.count ix.cycles)) d.cycles) in
          (z.cycles, (z.steps, (omega arith, omega arith)))

      all_is : cycles_from (take m d.cycles) d.steps ≡ all_cycles (sheet_of d).cells
      all_is =
          ap (λ (n : ℕ). cycles_from (take n d.cycles) d.steps) (em ∙ cycle_places d ix x)
          ∙ cycles_held d z (sound_fits d w)

      -- ---- what it finds
      pub here : (j : ℕ) → j ≡ lone_place v (cycles_from (take m d.cycles) d.steps) → (h : Held) → h ≡ holding (take d.count ix.cycles) j
          → Found v 0 (sheet_of d).cells h
      here j ej h eh =
          subst (Found v 0 (sheet_of d).cells) (sym (eh ∙ ap₂ holding (cycles_are d z (sound_fits d w) ix x) (ej ∙ ap (lone_place v) all_is)))
          (found v 0 (sheet_of d).cells (sheet_of d).next (sound_in d w).rises parts.2)

    module _ (h : Held) (o : Found v 0 (sheet_of d).cells h) where
      pub row_below : h.row < d.count
      row_below = let r = o.row_in in let n = count_is d (sheet_of d).cells (stands d z (sound_fits d w)) z (sound_fits d w).cells in omega arith

      pub id_is : get_or ix.ids h.row 0 ≡ face_of (sheet_of d) v h o
      id_is = sym (get_or-take d.count ix.ids h.row 0 row_below) ∙ ap (λ (l : List ℕ). get_or l h.row 0) (x.ids ∙ ids_same d z (sound_fits d w))

      module _ (f : ℕ) (ef : f ≡ get_or ix.ids h.row 0) where
        f_is : face_of (sheet_of d) v h o ≡ f
        f_is = sym (ef ∙ id_is)

        pub a_face : is_face (cell_at (sheet_of d) f) ≡ true
        a_face = ap (λ (i : ℕ). is_face (cell_at (sheet_of d) i)) (sym f_is) ∙ lonely_face (sheet_of d) v h o

        pub it_stays : neither v v f ≡ true
        it_stays = ap (neither v v) (sym f_is) ∙ lonely_stays (sheet_of d) v h o parts.0 parts.1

        pub named : Named d ix f
        named = named_in d z w ix x f a_face

        cycles_of_lem : cells.cycles_of (cell_at (sheet_of d) f) ≡ o.cycles
        cycles_of_lem = ap (λ (i : ℕ). cells.cycles_of (cell_at (sheet_of d) i)) (sym f_is) ∙ ap cells.cycles_of o.figure

        module _ (t : Spans) (s : Spanned d f t) where
          pub place_below : h.place < t.cycles.count
          place_below =
              let a = at_length d.cycles d.steps t s.within in
              let b = ap length (s.list ∙ cycles_of_lem) in
              let p = o.place_in_lem in
              omega arith

          -- ---- the result
          pub refaced : (ks : List Cycle) → ks ≡ without (one h.place) 0 (cycles_at d.cycles d.steps t)
              → uncut_result (sheet_of d) v lonely ≡ rebuild (neither v v) (replaced f (face ks)) [] (sheet_of d)
          refaced ks q =
              lonely_refaced (sheet_of d) v h o
              ∙ ap₂ (λ (i : ℕ) (l : List Cycle). rebuild (neither v v) (replaced i (face l)) [] (sheet_of d)) f_is
              (sym (q ∙ ap (without (one h.place) 0) (s.list ∙ cycles_of_lem)))

    -- ---- questions 7 and 8 get a yes
    pub asked : Asked d (uncut v) 0
    asked =
        asked_of d z w (uncut v) 0
        (record {
          index = ix;
          indexes = x;
          new = 0;
          totals = totals_in d z (sound_fits d w) ix x;
          more = record { cells = 0; cycles = 0; steps = 0; bends = 0 };
          less = record { cells = 1; cycles = 1; steps = 1; bends = 0 };
          passed = uncut_passed (sheet_of d) v lonely e refl;
          new_is = uncut_new (sheet_of d) v lonely e;
          change_is = uncut_change_lem (sheet_of d) v lonely e;
          totals_are = refl;
          says =
              sym (ap₂ (λ (a b : Bool). cond a (cond b 0 8) 7) (le-leb (d.next + 0) ids_end (let n = next_in_lem d w in omega arith))
              (fewer d.count _ _ _ (sound_fits d w).cells sums.cycle_sum sums.step_sum sums.bend_sum));
        })
      where
        sums : Summed ix.bends ix.cycles d.count d.cycles
        sums = summed d z (sound_fits d w) ix x

        fewer : (a b k c : ℕ) → a ≤ cells_most → b ≤ cycles_most → k ≤ steps_most → c ≤ bends_most
            → sizes_fit (changed_by (sized a b k c) (more_less (sized 0 0 0 0) (sized 1 1 1 0))) ≡ true
        fewer a b k c ha hb hk hc =
            ap₂ ◌&&◌ (le-leb (a + 0 - 1) cells_most (omega arith))
            (ap₂ ◌&&◌ (le-leb (b + 0 - 1) cycles_most (omega arith))
            (ap₂ ◌&&◌ (le-leb (k + 0 - 1) steps_most (omega arith)) (le-leb (c + 0 - 0) bends_most (omega arith))))

    pub roomed : (f : ℕ) (ks : List Cycle) → uncut_result (sheet_of d) v lonely ≡ rebuild (neither v v) (replaced f (face ks)) [] (sheet_of d)
        → Roomy (rebuild (neither v v) (replaced f (face ks)) [] (sheet_of d))
    roomed f ks q =
        let g = replaced f (face ks) in
        subst Roomy (remade_rebuild (neither v v) g (sheet_of d))
        (roomy (remade (neither v v) g (sheet_of d)) [] (room d z w (uncut v) 0 asked refl (neither v v) g [] (uncut_result_lem (sheet_of d) v lonely e ∙ q)))
