-- Commands that issue no id and take no more places: 05 and 06. Assumes nothing.
use Prim.Native.Nat.{ℕ, suc, ◌+◌, ◌-◌, ◌<◌, ◌≤◌}
use native.Mathlib.Omega.{arith}
use mathlib.Core.Path.{◌≡◌, refl, sym, ap, ap₂, ◌∙◌, subst}
use mathlib.Core.Bool.{Bool, true, false, not, cond, ◌||◌}
use mathlib.Core.List.{List, [], ◌∷◌, ◌++◌, map}
use mathlib.Core.Option.{Option, some}
use lib.Dec.{T, eqb, ltb, ltb→lt, eqb→eq}
use lib.ListN.{length, take, get_or, set, length-map}
use lib.Seq.{take-set-lt}
use borrow.Author.Tests.{eq-eqb, ne_eqb}
use Rattle.coordinate.specs.declared.Position.{Position}
use Rattle.coordinate.specs.Bounds.{within}
use Rattle.complex.specs.Lists.{rising, cons_if, filter}
use Rattle.complex.specs.Cells.{Figure, vertex, LiveCell, ids, lookup, some_if, cell_at, is_vertex, is_live}
use Rattle.complex.specs.Boundary.{bounds, bounds_at, rests}
use Rattle.complex.specs.Sound.{ceilings}
use Rattle.complex.specs.Decode.{Command, move, delete}
use Rattle.complex.specs.Commands.{question4, question5, question6, result}
use Rattle.complex.specs.Edits.{keep_ids, reshape, every_id, as_it_is, replaced}
use Rattle.complex.specs.Delete.{moved, goes, deleted}
use Rattle.answer.specs.Sizes.{SheetSizes as Places, sized, sizes_of, Change, no_change, changed_by, new_cells, change_of, sizes_after, sizes_fit}
use Rattle.complex.proofs.Bools.{truth, true_of, both, false_not, equal}
use Rattle.complex.proofs.Keep.{Sound, sound_parts}
use Rattle.complex.proofs.Asked.{early_none, early_one, Passed}
use Rattle.complex.proofs.Lookup.{lookup_upto, kept_all, reshaped_none}
use Rattle.complex.proofs.Delete.{bounds_rests, rests_exact, rests_bounds}
use Rattle.store.specs.declared.Drawing.{Drawing}
use Rattle.store.specs.declared.Index.{Index}
use Rattle.store.specs.Index.{Indexes, row_of}
use Rattle.store.specs.Sizes.{Sizes}
use Rattle.store.specs.View.{sheet_of, Fits}
use Rattle.store.specs.Edits.{with_entries, kept}
use Rattle.store.proofs.Stands.{stands, count_is, ids_same}
use Rattle.sound.specs.Soundness.{sound_drawing}
use Rattle.sound.specs.Looks.{index_value}
use Rattle.sound.proofs.Meaning.{sound_fits, sound_sheet_lem, live_row}
use Rattle.rows_steps.specs.Ends.{kinds_of}
use Rattle.rows_steps.proofs.Placed.{row_replaced}
use Rattle.rows_star.specs.Marks.{star_marks}
use Rattle.rows_star.proofs.Meaning.{marks_meant}
use Rattle.answer.specs.declared.Answer.{Answer}
use Rattle.answer.specs.Answers.{outcome, Answers}
use Rattle.answer.proofs.Asked.{sound_in, asked_still, answers}
use Rattle.rows_spans.proofs.Replaced.{row_has}

unchanged : (z : Places) → changed_by z no_change ≡ z
unchanged z =
    let p : z.cells + 0 - 0 ≡ z.cells = omega arith in
    let q : z.cycles + 0 - 0 ≡ z.cycles = omega arith in
    let r : z.steps + 0 - 0 ≡ z.steps = omega arith in
    let t : z.bends + 0 - 0 ≡ z.bends = omega arith in
    λ i. sized (p i) (q i) (r i) (t i)

-- ---- a command that issues no id and changes no size never gets a no to 7 or 8
module _ (d : Drawing) (z : Sizes d) (w : T (sound_drawing d)) (c : Command) (n : new_cells (sheet_of d) c ≡ 0) (k : change_of (sheet_of d) c ≡ no_change)
    (p : Passed (sheet_of d) c) where
  places_suffice : sizes_fit (sizes_after (sheet_of d) c) ≡ true
  unfolding sizes_after
  places_suffice = ap (λ (m : Change). sizes_fit (changed_by (sizes_of (sheet_of d).cells) m)) k ∙ ap sizes_fit (unchanged (sizes_of (sheet_of d).cells))
      ∙ true_of (ceilings (sheet_of d).cells) (sound_in d w).fits

  module _ (out : Drawing) (zo : Sizes out) (go : Fits out) (m : sheet_of out ≡ result (sheet_of d) c) where
    pub edit_answers : (r : Answer) → r ≡ outcome d.next d.count out → Answers d c r
    edit_answers = answers d z w c 0 (asked_still d w c p n places_suffice) refl out zo go m

-- ---- lists
nothing_more : (q : List LiveCell) → q ++ [] ≡ q
nothing_more [] = refl
nothing_more (y ∷ q) = ap (λ (r : List LiveCell). y ∷ r) (nothing_more q)

none_more : (a : ℕ) → a ≡ a + 0
none_more a = omega arith

bools : (a b : Bool) → (T a → T b) → (T b → T a) → a ≡ b
bools true true f g = refl
bools true false f g = absurd (f tt)
bools false true f g = absurd (g tt)
bools false false f g = refl

-- ---- 05
module _ (d : Drawing) (v : ℕ) (p : Position) where
  pub move_passed : within p ≡ true → is_vertex (cell_at (sheet_of d) v) ≡ true → Passed (sheet_of d) (move v p)
  unfolding question4 question5 question6
  move_passed e f = record { bytes = early_one (move v p) p refl e; four = f; five = refl; six = refl }

  pub move_four : is_vertex (cell_at (sheet_of d) v) ≡ false → question4 (sheet_of d) (move v p) ≡ false
  unfolding question4
  move_four e = e

  pub move_new : new_cells (sheet_of d) (move v p) ≡ 0
  unfolding new_cells
  move_new = refl

  pub move_change : change_of (sheet_of d) (move v p) ≡ no_change
  unfolding change_of
  move_change = refl

pub move_row : (d : Drawing) (ix : Index) → Indexes d ix → (v k row : ℕ) → k ≡ index_value 4 d ix ix.kinds v → row ≡ row_of v (take d.count ix.ids)
    → k ≡ 0 → get_or (kinds_of d) row 4 ≡ 0
move_row d ix x v k row e r h =
    ap (λ (n : ℕ). get_or (kinds_of d) n 4) r ∙ ap (λ (l : List ℕ). get_or l (row_of v (take d.count ix.ids)) 4) (sym x.kinds) ∙ sym e ∙ h

module _ (d : Drawing) (z : Sizes d) (w : T (sound_drawing d)) (ix : Index) (x : Indexes d ix) (v : ℕ) (p : Position) where
  -- the cell in the row of v at another place
  pub move_result : (row : ℕ) → row ≡ row_of v (take d.count ix.ids) → row < d.count
      → with_entries (sheet_of d) (set (sheet_of d).cells row (record { id = get_or (ids (sheet_of d).cells) row 0; figure = vertex p }))
      ≡ result (sheet_of d) (move v p)
  unfolding result moved
  move_result row e h =
      let s = sheet_of d in
      let cs = (sheet_of d).cells in
      let f = sound_fits d w in
      let n = count_is d cs (stands d z f) z f.cells in
      let g : row ≡ row_of v (ids cs) = e ∙ ap (row_of v) (x.ids ∙ ids_same d z f) in
      let l = length-map cs (λ (c : LiveCell). c.id) in
      let r = row_replaced (vertex p) 0 cs s.next row (sound_parts s (sound_sheet_lem d w)).rises (omega arith) in
      let i : get_or (ids cs) row 0 ≡ v = ap (λ (k : ℕ). get_or (ids cs) k 0) g ∙ row_has v (ids cs) (omega arith) in
      ap₂ (λ (a : ℕ) (q : List LiveCell). record { next = a; cells = q }) (none_more s.next)
      (r ∙ ap (λ (k : ℕ). reshape (replaced k (vertex p)) cs) i
      ∙ sym (nothing_more (reshape (replaced v (vertex p)) (keep_ids every_id cs)) ∙ ap (reshape (replaced v (vertex p))) (kept_all cs)))

-- ---- 06
-- the cells of a list with rising ids that p and q choose alike
same_chosen : (p q : LiveCell → Bool) (lo : ℕ) (cs : List LiveCell) (hi : ℕ) → T (rising lo (ids cs) hi)
    → ((c : LiveCell) → lookup cs c.id ≡ some c.figure → p c ≡ q c) → filter p cs ≡ filter q cs
same_chosen p q lo [] hi t h = refl
same_chosen p q lo (c ∷ cs) hi t h =
    let b = both (ltb lo c.id) (rising c.id (ids cs) hi) t in
    ap₂ (λ (u : Bool) (r : List LiveCell). cons_if u c r) (h c (ap (λ (u : Bool). some_if u c.figure (lookup cs c.id)) (eq-eqb c.id c.id refl)))
    (same_chosen p q c.id cs hi b.1 (λ y e. h y (later y e b.1 (eqb c.id y.id) refl)))
  where
    later : (y : LiveCell) → lookup cs y.id ≡ some y.figure → T (rising c.id (ids cs) hi) → (u : Bool) → eqb c.id y.id ≡ u
        → some_if (eqb c.id y.id) c.figure (lookup cs y.id) ≡ some y.figure
    later y e t true q =
        let g = eqb→eq c.id y.id (truth q) in
        absurd (subst (λ (o : Option Figure). T (is_live o)) (sym e ∙ lookup_upto c.id cs hi y.id t (omega arith)) tt)
    later y e t false q = ap (λ (u : Bool). some_if u c.figure (lookup cs y.id)) q ∙ e

module _ (i : ℕ) (q : LiveCell → Bool) where
  abbrev or_self : LiveCell → Bool
  or_self c = eqb i c.id || q c

  none_marked : (lo : ℕ) (cs : List LiveCell) (hi : ℕ) → T (rising lo (ids cs) hi) → i ≤ lo → map q cs ≡ map or_self cs
  none_marked lo [] hi t h = refl
  none_marked lo (c ∷ cs) hi t h =
      let b = both (ltb lo c.id) (rising c.id (ids cs) hi) t in
      let l = ltb→lt lo c.id b.0 in
      ap₂ (λ (u : Bool) (r : List Bool). (u || q c) ∷ r) (sym (ne_eqb i c.id (omega arith))) (none_marked c.id cs hi b.1 (omega arith))

  -- the mark in the row of i
  marked : (lo : ℕ) (cs : List LiveCell) (hi : ℕ) → T (rising lo (ids cs) hi) → row_of i (ids cs) < length cs
      → set (map q cs) (row_of i (ids cs)) true ≡ map or_self cs
  marked lo [] hi t h = absurd (omega arith)
  marked lo (c ∷ cs) hi t h = let b = both (ltb lo c.id) (rising c.id (ids cs) hi) t in go b.1 (eqb c.id i) refl h (marked c.id cs hi b.1)
    where
      go : T (rising c.id (ids cs) hi) → (u : Bool) → eqb c.id i ≡ u → cond u 0 (suc (row_of i (ids cs))) < suc (length cs)
          → (row_of i (ids cs) < length cs → set (map q cs) (row_of i (ids cs)) true ≡ map or_self cs)
          → set (q c ∷ map q cs) (cond u 0 (suc (row_of i (ids cs)))) true ≡ (eqb i c.id || q c) ∷ map or_self cs
      go r true e k ih =
          let g = eqb→eq c.id i (truth e) in
          ap₂ (λ (u : Bool) (l : List Bool). (u || q c) ∷ l) (sym (eq-eqb i c.id (sym g))) (none_marked c.id cs hi r (omega arith))
      go r false e k ih = ap₂ (λ (u : Bool) (l : List Bool). (u || q c) ∷ l) (sym (ne_eqb i c.id (λ f. false_not e (equal (sym f))))) (ih (omega arith))

kept_chosen : (h : LiveCell → Bool) (cs : List LiveCell) → kept (map h cs) cs ≡ filter (λ (c : LiveCell). not (h c)) cs
kept_chosen h [] = refl
kept_chosen h (c ∷ cs) = go (h c) (kept_chosen h cs)
  where
    go : (b : Bool) → kept (map h cs) cs ≡ filter (λ (c : LiveCell). not (h c)) cs
        → cond b (kept (map h cs) cs) (c ∷ kept (map h cs) cs) ≡ cons_if (not b) c (filter (λ (c : LiveCell). not (h c)) cs)
    go true e = e
    go false e = ap (λ (l : List LiveCell). c ∷ l) e

module _ (d : Drawing) (i : ℕ) where
  pub delete_passed : is_live (cell_at (sheet_of d) i) ≡ true → Passed (sheet_of d) (delete i)
  unfolding question4 question5 question6
  delete_passed e = record { bytes = early_none (delete i) refl; four = e; five = refl; six = refl }

  pub delete_four : is_live (cell_at (sheet_of d) i) ≡ false → question4 (sheet_of d) (delete i) ≡ false
  unfolding question4
  delete_four e = e

  pub delete_new : new_cells (sheet_of d) (delete i) ≡ 0
  unfolding new_cells
  delete_new = refl

  pub delete_change : change_of (sheet_of d) (delete i) ≡ no_change
  unfolding change_of
  delete_change = refl

module _ (d : Drawing) (z : Sizes d) (w : T (sound_drawing d)) (ix : Index) (x : Indexes d ix) (i : ℕ) where
  sheet_sound : Sound (sheet_of d)
  sheet_sound = sound_parts (sheet_of d) (sound_sheet_lem d w)

  pub delete_live : (row : ℕ) → row ≡ row_of i (take d.count ix.ids) → ltb row d.count ≡ is_live (cell_at (sheet_of d) i)
  delete_live row e = ap (λ (r : ℕ). ltb r d.count) e ∙ live_row d z (sound_fits d w) ix x i

  -- of a sound drawing a cell rests on i if its boundary holds i
  goes_bounds : (c : LiveCell) → cell_at (sheet_of d) c.id ≡ some c.figure
      → not (eqb i c.id || bounds (cell_at (sheet_of d)) i c.figure) ≡ not (goes (sheet_of d) i c.id)
  goes_bounds c e =
      let s = sheet_of d in
      ap (λ (b : Bool). not (eqb i c.id || b))
      (ap (λ (o : Option Figure). bounds_at (cell_at s) i o) (sym e)
      ∙ bools (bounds_at (cell_at s) i (cell_at s c.id)) (rests (cell_at s) (length s.cells) i c.id) (bounds_rests s i c.id)
      (λ t. rests_bounds s sheet_sound i c.id ((rests_exact s sheet_sound i c.id).0 t)))

  -- the rows without that of i and those of its star
  pub delete_result : (row : ℕ) → row ≡ row_of i (take d.count ix.ids) → row < d.count → (dead : List Bool)
      → take d.count dead ≡ star_marks (take d.count ix.ids) (take d.count ix.kinds) (take d.count ix.starts) (take d.count ix.ends)
      (take d.count ix.cycles) d.cycles d.steps i
      → with_entries (sheet_of d) (kept (take d.count (set dead row true)) (sheet_of d).cells) ≡ result (sheet_of d) (delete i)
  unfolding result deleted
  delete_result row e h dead m =
      let s = sheet_of d in
      let cs = (sheet_of d).cells in
      let f = sound_fits d w in
      let q : LiveCell → Bool = λ c. bounds (cell_at s) i c.figure in
      let n = count_is d cs (stands d z f) z f.cells in
      let g : row ≡ row_of i (ids cs) = e ∙ ap (row_of i) (x.ids ∙ ids_same d z f) in
      let flags : take d.count (set dead row true) ≡ map (or_self i q) cs =
      take-set-lt d.count dead row true h ∙ ap₂ (λ (l : List Bool) (r : ℕ). set l r true) (m ∙ marks_meant d z f ix x i) g
      ∙ marked i q 0 cs s.next sheet_sound.rises (omega arith) in
      ap₂ (λ (a : ℕ) (l : List LiveCell). record { next = a; cells = l }) (none_more s.next)
      (ap (λ (l : List Bool). kept l cs) flags
      ∙ kept_chosen (or_self i q) cs
      ∙ same_chosen (λ (c : LiveCell). not (or_self i q c)) (λ (c : LiveCell). not (goes s i c.id)) 0 cs s.next sheet_sound.rises goes_bounds
      ∙ sym (nothing_more (reshape as_it_is (keep_ids (λ (j : ℕ). not (goes s i j)) cs)) ∙ reshaped_none (keep_ids (λ (j : ℕ). not (goes s i j)) cs)))
