-- 0D: a face cut along a closed edge. Assumes nothing.
use Prim.Native.Nat.{ℕ, zero, suc, ◌+◌, ◌*◌, ◌<◌, ◌≤◌}
use mathlib.Core.Path.{◌≡◌, refl, ap, ap₂, sym, subst, ◌∙◌}
use mathlib.Core.Bool.{Bool, true, false, not, cond, ◌&&◌}
use mathlib.Core.List.{List, [], ◌∷◌, ◌++◌, map}
use native.Mathlib.Omega.{arith}
use borrow.Author.Tests.{ne_eqb}
use lib.Dec.{T, eqb}
use lib.ListN.{length, take}
use Rattle.number.specs.Readers.{all}
use Rattle.number.specs.Numbers.{read_number}
use Rattle.coordinate.specs.declared.Position.{Position}
use Rattle.coordinate.specs.Bounds.{within}
use Rattle.bends.specs.Bends.{positions_at}
use Rattle.complex.specs.Lists.{is_empty, one, places}
use Rattle.complex.specs.Cells.{Halfedge, Cycle, path, Figure, closed_edge, face, Sheet, cell_at, is_face}
use Rattle.complex.specs.Cells as cells
use Rattle.complex.specs.Edits.{rebuild, every_id, replaced}
use Rattle.complex.specs.Decode.{cut_face_closed}
use Rattle.complex.specs.Commands.{question4, question5, question6, result}
use Rattle.complex.specs.Cut.{no_cycle, face_cut_round}
use Rattle.answer.specs.Sizes.{sized, nothing, more_less, new_cells, change_of}
use Rattle.complex.specs.Answer.{no, asked3}
use Rattle.complex.proofs.Asked.{Passed, no_4, no_5, early, early_bends}
use Rattle.complex.specs.Sound.{ids_end, cycles_most, steps_most}
use Rattle.store.specs.declared.Drawing.{Drawing}
use Rattle.store.specs.declared.Index.{Index}
use Rattle.store.specs.Index.{Indexes, value_at}
use Rattle.store.specs.Sizes.{Sizes}
use Rattle.store.specs.View.{sheet_of, Fits, halfedge_of}
use Rattle.store.specs.Edits.{kept, appended}
use Rattle.store.proofs.Grow.{next_is}
use Rattle.sound.specs.Soundness.{sound_drawing}
use Rattle.sound.proofs.Meaning.{looks, face_at}
use Rattle.rows_spans.specs.declared.Used.{Used}
use Rattle.rows_spans.specs.declared.Spans.{Spans}
use Rattle.rows_spans.specs.Building.{Built, built}
use Rattle.rows_new.specs.Appends.{CellRoom}
use Rattle.rows_new.specs.Requirements.{BytesRoom}
use Rattle.decode_parts.specs.Lists.{Stand, numbers_read}
use Rattle.script.specs.Walks.{Marks}
use Rattle.rows_corners.specs.Faces.{Within, Spanned, cycles_at, recycled, Roomy}
use Rattle.law_cut_face.specs.Rounds.{stayed, left, RoundCut, round_no}
use Rattle.answer.proofs.Asked.{next_in_lem}
use Rattle.rows_corners.proofs.Lists.{at_length, along_read, against_read}
use Rattle.rows_corners.proofs.Moved.{without_kept, chosen_kept}
use Rattle.rows_corners.proofs.Edits.{room_listed, sheet_listed, first_room, second_room, both_done}

-- ---- bends in a script
bends_none : (s : List ℕ) (at n : ℕ) → is_empty (positions_at s at n) ≡ eqb n 0
bends_none s at zero = refl
bends_none s at (suc n) = sym (ne_eqb (suc n) 0 (λ e. omega arith))

-- ---- the lists, by flags
module _ (cycles steps : List ℕ) (t : Spans) (w : Within cycles steps t) (ms : List ℕ) (flags : List Bool) (m : Marks ms flags)
    (r : places 0 ms t.cycles.count ≡ true) (e : ℕ) where
  abbrev listed : List Cycle
  listed = cycles_at cycles steps t

  count_is : length listed ≡ t.cycles.count
  count_is = at_length cycles steps t w

  few : length listed ≤ 512
  few = let c = count_is in omega (arith, w.in_cycles)

  pub stayed_kept : kept (take t.cycles.count flags) listed ++ one (path (one (halfedge_of (2 * e)))) ≡ stayed ms listed e
  stayed_kept =
      ap₂ (λ (l : List Cycle) (hs : List Halfedge). l ++ one (path hs))
      (ap (λ (n : ℕ). kept (take n flags) listed) (sym count_is) ∙ sym (without_kept ms flags m listed few)) (along_read e)

  pub left_kept : (stays : List Bool) → stays ≡ map not flags
      → path (one (halfedge_of (2 * e + 1))) ∷ kept (take t.cycles.count stays) listed ≡ left ms listed e
  left_kept stays g =
      ap₂ (λ (hs : List Halfedge) (l : List Cycle). path hs ∷ l) (against_read e)
      (ap₂ (λ (n : ℕ) (l : List Bool). kept (take n l) listed) (sym count_is) g
      ∙ sym (chosen_kept ms flags m listed few no_cycle (ap (places 0 ms) count_is ∙ r)))

-- ---- the cut
module _ (d : Drawing) (z : Sizes d) (ix : Index) (script : List ℕ) (f bends first moved place : ℕ) (r : RoundCut d ix script f bends first moved place) where
  abbrev ms : List ℕ
  ms = numbers_read script place moved

  abbrev ks : List Cycle
  ks = cells.cycles_of (cell_at (sheet_of d) f)

  abbrev pub old_list : List Cycle
  old_list = stayed ms ks (sheet_of d).next

  abbrev pub new_list : List Cycle
  new_list = left ms ks (sheet_of d).next

  abbrev edge : Figure
  edge = closed_edge (positions_at script first bends)

  abbrev both_cells : List Figure
  both_cells = edge ∷ face new_list ∷ []

  module _ (t : Spans) (s : Spanned d f t) where
    own_length : t.cycles.count ≡ length ks
    own_length = sym (at_length d.cycles d.steps t s.within) ∙ ap length s.list

    pub round_asks : Within d.cycles d.steps t
        × ((t.cycles.count < cycles_most) × ((t.steps.count < steps_most)
        × (Stand read_number script place moved × ((places 0 ms t.cycles.count ≡ true) × (d.next ≤ ids_end)))))
    round_asks =
        let a = s.few_cycles in
        let b = s.few_steps in
        let c = r.cycle_room in
        let e = r.step_room in
        (s.within, (omega arith, (omega arith, (r.stand, (ap (places 0 ms) own_length ∙ r.rise, next_in_lem d r.sound)))))

    pub old_list_lem : (counts : List ℕ) (u : Used) (steps : List ℕ) → Built (stayed ms (cycles_at d.cycles d.steps t) d.next) counts u steps
        → built counts u steps ≡ old_list
    old_list_lem counts u steps b = b.list ∙ ap₂ (stayed ms) s.list (sym (next_is d))

    pub new_list_lem : (counts : List ℕ) (u : Used) (steps : List ℕ) → Built (left ms (cycles_at d.cycles d.steps t) d.next) counts u steps
        → built counts u steps ≡ new_list
    new_list_lem counts u steps b = b.list ∙ ap₂ (left ms) s.list (sym (next_is d))

  -- the old face's cycles
  module _ (counts : List ℕ) (u : Used) (steps : List ℕ) (e : built counts u steps ≡ old_list) where
    pub round_room : Roomy (recycled (sheet_of d) f (built counts u steps))
    round_room = room_listed d z ix f r.named old_list both_cells r.room counts u steps e

    module _ (a : Drawing) (ea : sheet_of a ≡ recycled (sheet_of d) f (built counts u steps)) where
      ea_old : sheet_of a ≡ recycled (sheet_of d) f old_list
      ea_old = sheet_listed d z ix f r.named old_list both_cells r.room counts u steps e (sheet_of a) ea

      pub edge_room : Sizes a → Fits a → BytesRoom a script first bends edge
      edge_room za fa = record { room = first_room d z ix f r.named old_list both_cells r.room edge (face new_list) refl a ea_old za fa; range = r.bytes }

      -- the new face's
      module _ (b : Drawing) (eb : sheet_of b ≡ appended (sheet_of a) edge) (ls : List Cycle) (el : ls ≡ new_list) where
        pub face_room : Sizes b → Fits b → CellRoom b (face ls)
        face_room zb fb = subst (λ (l : List Cycle). CellRoom b (face l)) (sym el)
            (second_room d z ix f r.named old_list both_cells r.room edge (face new_list) refl a ea_old b eb zb fb)

        pub round_done : (s : Sheet) → s ≡ appended (sheet_of b) (face ls) → s ≡ face_cut_round (sheet_of d) f (positions_at script first bends) ms
        unfolding face_cut_round
        round_done s g = both_done d z ix f r.named old_list both_cells r.room edge (face new_list) refl a ea_old b eb s
            (g ∙ ap (λ (l : List Cycle). appended (sheet_of b) (face l)) el)

-- ---- the questions
module _ (s : Sheet) (f : ℕ) (bs : List Position) (ms : List ℕ) where
  round_four : question4 s (cut_face_closed f bs ms) ≡ is_face (cell_at s f)
  unfolding question4
  round_four = refl

  round_five : question5 s (cut_face_closed f bs ms) ≡ (not (is_empty bs) && places 0 ms (length (cells.cycles_of (cell_at s f))))
  unfolding question5
  round_five = refl

  round_six : question6 s (cut_face_closed f bs ms) ≡ true
  unfolding question6
  round_six = refl

  pub round_new : new_cells s (cut_face_closed f bs ms) ≡ 2
  unfolding new_cells
  round_new = refl

  pub round_more : (n : ℕ) → length bs ≡ n → change_of s (cut_face_closed f bs ms) ≡ more_less (sized 2 2 2 n) nothing
  unfolding change_of
  round_more n e = ap (λ (k : ℕ). more_less (sized 2 2 2 k) nothing) e

  pub round_result : result s (cut_face_closed f bs ms)
      ≡ rebuild every_id (replaced f (face (stayed ms (cells.cycles_of (cell_at s f)) s.next)))
      (closed_edge bs ∷ face (left ms (cells.cycles_of (cell_at s f)) s.next) ∷ []) s
  unfolding result
  round_result = refl

  pub round_cut : result s (cut_face_closed f bs ms) ≡ face_cut_round s f bs ms
  unfolding result
  round_cut = refl

-- the number of the first no to 4 and 5
module _ (ix : Index) (n f bends : ℕ) (ms : List ℕ) where
  abbrev kind_in : ℕ
  kind_in = value_at 4 (take n ix.ids) (take n ix.kinds) f

  abbrev count_in : ℕ
  count_in = value_at 0 (take n ix.ids) (take n ix.cycles) f

  pub no_face : eqb kind_in 3 ≡ false → 4 ≡ round_no ix n f bends ms
  no_face e = rw e

  pub no_bend : eqb kind_in 3 ≡ true → eqb bends 0 ≡ true → 5 ≡ round_no ix n f bends ms
  no_bend e g = rw (e, g)

  pub no_rise : eqb kind_in 3 ≡ true → eqb bends 0 ≡ false → places 0 ms count_in ≡ false → 5 ≡ round_no ix n f bends ms
  no_rise e g h = rw (e, g, h)

  pub no_none : eqb kind_in 3 ≡ true → eqb bends 0 ≡ false → places 0 ms count_in ≡ true → 0 ≡ round_no ix n f bends ms
  no_none e g h = rw (e, g, h)

module _ (d : Drawing) (z : Sizes d) (w : T (sound_drawing d)) (ix : Index) (x : Indexes d ix) (script : List ℕ) (f bends first : ℕ) (ms : List ℕ) (r : ℕ)
    (er : r ≡ round_no ix d.count f bends ms)
    (q : all within (positions_at script first bends) ≡ true) where
  abbrev bs : List Position
  bs = positions_at script first bends

  abbrev n : ℕ
  n = length (cells.cycles_of (cell_at (sheet_of d) f))

  no_is : r ≡ cond (is_face (cell_at (sheet_of d) f)) (cond (eqb bends 0) 5 (cond (places 0 ms n) 0 5)) 4
  no_is =
      er
      ∙ ap₂ (λ (b : Bool) (k : ℕ). cond b (cond (eqb bends 0) 5 (cond (places 0 ms k) 0 5)) 4) (face_at (looks d z ix x w) f) ((looks d z ix x w).cycles f)

  bytes : early (cut_face_closed f bs ms) ≡ 0
  bytes = early_bends (cut_face_closed f bs ms) q

  five : (a b : Bool) → eqb bends 0 ≡ a → places 0 ms n ≡ b → question5 (sheet_of d) (cut_face_closed f bs ms) ≡ (not a && b)
  five a b ea eb = round_five (sheet_of d) f bs ms ∙ ap₂ (λ (u v : Bool). not u && v) (bends_none script first bends ∙ ea) eb

  pub round_refuses : (r ≡ 0 → ⊥) → asked3 (sheet_of d) (cut_face_closed f bs ms) ≡ no r (sheet_of d)
  round_refuses nz = go (is_face (cell_at (sheet_of d) f)) (eqb bends 0) (places 0 ms n) refl refl refl no_is
    where
      four : (a : Bool) → is_face (cell_at (sheet_of d) f) ≡ a → question4 (sheet_of d) (cut_face_closed f bs ms) ≡ a
      four a e = round_four (sheet_of d) f bs ms ∙ e

      go : (a b p : Bool) → is_face (cell_at (sheet_of d) f) ≡ a → eqb bends 0 ≡ b → places 0 ms n ≡ p → r ≡ cond a (cond b 5 (cond p 0 5)) 4
          → asked3 (sheet_of d) (cut_face_closed f bs ms) ≡ no r (sheet_of d)
      go false b p ea eb ep e = no_4 (sheet_of d) (cut_face_closed f bs ms) bytes (four false ea) ∙ ap (λ (k : ℕ). no k (sheet_of d)) (sym e)
      go true true p ea eb ep e = no_5 (sheet_of d) (cut_face_closed f bs ms) bytes (four true ea) (five true p eb ep) ∙ ap (λ (k : ℕ). no k (sheet_of d)) (sym e)
      go true false false ea eb ep e = no_5 (sheet_of d) (cut_face_closed f bs ms) bytes (four true ea) (five false false eb ep)
          ∙ ap (λ (k : ℕ). no k (sheet_of d)) (sym e)
      go true false true ea eb ep e = absurd (nz e)

  pub round_passes : r ≡ 0 → (is_face (cell_at (sheet_of d) f) ≡ true) × ((places 0 ms n ≡ true) × Passed (sheet_of d) (cut_face_closed f bs ms))
  round_passes y = go (is_face (cell_at (sheet_of d) f)) (eqb bends 0) (places 0 ms n) refl refl refl no_is
    where
      go : (a b p : Bool) → is_face (cell_at (sheet_of d) f) ≡ a → eqb bends 0 ≡ b → places 0 ms n ≡ p → r ≡ cond a (cond b 5 (cond p 0 5)) 4
          → (is_face (cell_at (sheet_of d) f) ≡ true) × ((places 0 ms n ≡ true) × Passed (sheet_of d) (cut_face_closed f bs ms))
      go false b p ea eb ep e = absurd (omega arith)
      go true true p ea eb ep e = absurd (omega arith)
      go true false false ea eb ep e = absurd (omega arith)
      go true false true ea eb ep e =
          (ea, (ep, record { bytes = bytes; four = round_four (sheet_of d) f bs ms ∙ ea; five = five false true eb ep; six = round_six (sheet_of d) f bs ms }))
