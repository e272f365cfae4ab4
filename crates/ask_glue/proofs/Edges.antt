-- 08: the questions from the index, and what is made. Assumes nothing.
use Prim.Native.Nat.{ℕ, ◌<◌}
use native.Mathlib.Omega.{arith}
use mathlib.Core.Path.{◌≡◌, refl, sym, ap, ◌∙◌}
use mathlib.Core.Bool.{Bool, true, false, not, ◌&&◌, ◌||◌, cond}
use mathlib.Core.Option.{Option, none, some}
use lib.Dec.{T, eqb, leb}
use Rattle.complex.specs.Cells.{Figure, vertex, open_edge, closed_edge, face, cell_at, is_open, is_closed, is_edge, is_live, start_of, end_of}
use Rattle.complex.specs.Edits.{others, rewired, same_vertex, in_place_of}
use Rattle.complex.specs.Glue.{glued_edges}
use Rattle.complex.specs.Decode.{glue_edges}
use Rattle.complex.specs.Commands.{question4, question5, question6, result}
use Rattle.answer.specs.Sizes.{new_cells, sizes_after, sizes_fit}
use Rattle.complex.specs.Answer.{no, asked3}
use Rattle.complex.proofs.Bools.{true_of, both_true}
use Rattle.complex.proofs.Asked.{Passed, no_4, no_5, no_6, early, early_none}
use Rattle.answer.proofs.Sizes.{glue_edges_fits}
use Rattle.answer.proofs.SizesAfter.{sizes_after_lem}
use Rattle.store.specs.declared.Drawing.{Drawing}
use Rattle.store.specs.declared.Index.{Index}
use Rattle.store.specs.Index.{Indexes}
use Rattle.store.specs.Sizes.{Sizes}
use Rattle.store.specs.View.{sheet_of}
use Rattle.sound.specs.Soundness.{sound_drawing}
use Rattle.sound.specs.Looks.{index_value, kind_number}
use Rattle.sound.proofs.Meaning.{looks}
use Rattle.sound.proofs.Parts.{is_open_lem, is_closed_lem}
use Rattle.answer.proofs.Asked.{sound_in, asked_six, asked_still}
use Rattle.rows_gone.proofs.Dropped.{remade_rebuild, live_id}
use Rattle.rows_new.specs.Appends.{remade}
use Rattle.ask_glue.specs.Questions.{ends_meet, edges_no}
use Rattle.ask_glue.proofs.Glued.{Glues}

edge_live : (o : Option Figure) → is_edge o ≡ true → is_live o ≡ true
edge_live none e = e
edge_live (some (vertex p)) e = refl
edge_live (some (open_edge a b bs)) e = refl
edge_live (some (closed_edge bs)) e = refl
edge_live (some (face ks)) e = refl

-- the first no to 4, 5 and 6
abbrev first_no : Bool → Bool → Bool → ℕ
first_no q4 q5 q6 = cond q4 (cond q5 (cond q6 0 6) 5) 4

-- by the kinds that the index has
by_kinds : (oa ob : Option Figure) (same : Bool) (flag : ℕ) (m : Bool)
    → edges_no (kind_number oa) (kind_number ob) same flag m
    ≡ first_no (is_edge oa && is_edge ob) (leb flag 1) (not same && ((is_closed oa && is_closed ob) || (is_open oa && (is_open ob && m))))
by_kinds oa ob same flag m =
    let by : Bool → Bool → Bool → Bool → ℕ = λ p1 p2 q1 q2. first_no ((p1 || p2) && (q1 || q2)) (leb flag 1) (not same && ((p2 && q2) || (p1 && (q1 && m)))) in
    λ i. by (is_open_lem oa i) (is_closed_lem oa i) (is_open_lem ob i) (is_closed_lem ob i)

module _ (d : Drawing) (z : Sizes d) (w : T (sound_drawing d)) (a b flag : ℕ) where
  module _ (ix : Index) (x : Indexes d ix) (ka kb : ℕ) (meet : Bool) (r : ℕ) (ea : ka ≡ index_value 4 d ix ix.kinds a)
      (eb : kb ≡ index_value 4 d ix ix.kinds b)
      (em : meet ≡ ends_meet flag (index_value 0 d ix ix.starts a) (index_value 0 d ix ix.ends a) (index_value 0 d ix ix.starts b)
      (index_value 0 d ix ix.ends b))
      (er : r ≡ edges_no ka kb (eqb a b) flag meet) where
    no_is : r ≡ first_no (question4 (sheet_of d) (glue_edges a b flag)) (question5 (sheet_of d) (glue_edges a b flag)) (question6 (sheet_of d) (glue_edges a b flag))
    unfolding question4 question5 question6
    no_is =
        let k = looks d z ix x w in
        let oa = cell_at (sheet_of d) a in
        let ob = cell_at (sheet_of d) b in
        let pa : ka ≡ kind_number oa = ea ∙ k.kinds a in
        let pb : kb ≡ kind_number ob = eb ∙ k.kinds b in
        let sa = k.starts a in
        let fa = k.ends a in
        let sb = k.starts b in
        let fb = k.ends b in
        let pm : meet ≡ ends_meet flag (start_of oa) (end_of oa) (start_of ob) (end_of ob) = em ∙ (λ i. ends_meet flag (sa i) (fa i) (sb i) (fb i)) in
        er ∙ (λ i. edges_no (pa i) (pb i) (eqb a b) flag (pm i)) ∙ by_kinds oa ob (eqb a b) flag (ends_meet flag (start_of oa) (end_of oa) (start_of ob) (end_of ob))

    bytes : early (glue_edges a b flag) ≡ 0
    bytes = early_none (glue_edges a b flag) refl

    by : (p q t : Bool) → question4 (sheet_of d) (glue_edges a b flag) ≡ p → question5 (sheet_of d) (glue_edges a b flag) ≡ q
        → question6 (sheet_of d) (glue_edges a b flag) ≡ t → r ≡ first_no p q t
    by p q t ep eq et = no_is ∙ λ i. first_no (ep i) (eq i) (et i)

    pub glue_no : (r ≡ 0 → ⊥) → asked3 (sheet_of d) (glue_edges a b flag) ≡ no r (sheet_of d)
    glue_no nz = go (question4 (sheet_of d) (glue_edges a b flag)) (question5 (sheet_of d) (glue_edges a b flag))
        (question6 (sheet_of d) (glue_edges a b flag)) refl refl refl
      where
        said : (n : ℕ) → r ≡ n → asked3 (sheet_of d) (glue_edges a b flag) ≡ no n (sheet_of d) → asked3 (sheet_of d) (glue_edges a b flag) ≡ no r (sheet_of d)
        said n e h = h ∙ ap (λ (m : ℕ). no m (sheet_of d)) (sym e)

        go : (p q t : Bool) → question4 (sheet_of d) (glue_edges a b flag) ≡ p → question5 (sheet_of d) (glue_edges a b flag) ≡ q
            → question6 (sheet_of d) (glue_edges a b flag) ≡ t → asked3 (sheet_of d) (glue_edges a b flag) ≡ no r (sheet_of d)
        go false q t ep eq et = said 4 (by false q t ep eq et) (no_4 (sheet_of d) (glue_edges a b flag) bytes ep)
        go true false t ep eq et = said 5 (by true false t ep eq et) (no_5 (sheet_of d) (glue_edges a b flag) bytes ep eq)
        go true true false ep eq et = said 6 (by true true false ep eq et) (no_6 (sheet_of d) (glue_edges a b flag) bytes ep eq et)
        go true true true ep eq et = absurd (nz (by true true true ep eq et))

    glue_passed : r ≡ 0 → Passed (sheet_of d) (glue_edges a b flag)
    glue_passed e = go (question4 (sheet_of d) (glue_edges a b flag)) (question5 (sheet_of d) (glue_edges a b flag))
        (question6 (sheet_of d) (glue_edges a b flag)) refl refl refl
      where
        go : (p q t : Bool) → question4 (sheet_of d) (glue_edges a b flag) ≡ p → question5 (sheet_of d) (glue_edges a b flag) ≡ q
            → question6 (sheet_of d) (glue_edges a b flag) ≡ t → Passed (sheet_of d) (glue_edges a b flag)
        go false q t ep eq et = absurd (let h = by false q t ep eq et in omega arith)
        go true false t ep eq et = absurd (let h = by true false t ep eq et in omega arith)
        go true true false ep eq et = absurd (let h = by true true false ep eq et in omega arith)
        go true true true ep eq et = record { bytes = bytes; four = ep; five = eq; six = et }

    both_live : Passed (sheet_of d) (glue_edges a b flag) → (is_live (cell_at (sheet_of d) a) ≡ true) × (is_live (cell_at (sheet_of d) b) ≡ true)
    unfolding question4
    both_live p =
        let t = both_true (is_edge (cell_at (sheet_of d) a)) (is_edge (cell_at (sheet_of d) b)) p.four in
        (edge_live (cell_at (sheet_of d) a) t.0, edge_live (cell_at (sheet_of d) b) t.1)

    none_new : new_cells (sheet_of d) (glue_edges a b flag) ≡ 0
    unfolding new_cells
    none_new = refl

    sizes_fit_lem : Passed (sheet_of d) (glue_edges a b flag) → sizes_fit (sizes_after (sheet_of d) (glue_edges a b flag)) ≡ true
    sizes_fit_lem p =
        let q = asked_six (sheet_of d) (glue_edges a b flag) p in
        sym (sizes_after_lem (sheet_of d) (sound_in d w) (glue_edges a b flag) q) ∙ true_of _ (glue_edges_fits (sheet_of d) (sound_in d w) a b flag q)

    glued_is : remade (others b) (rewired same_vertex (in_place_of b a (eqb flag 1))) (sheet_of d) ≡ result (sheet_of d) (glue_edges a b flag)
    unfolding result glued_edges
    glued_is = remade_rebuild (others b) (rewired same_vertex (in_place_of b a (eqb flag 1))) (sheet_of d)

    pub glues_edges : r ≡ 0 → Glues d (glue_edges a b flag) b (rewired same_vertex (in_place_of b a (eqb flag 1))) × (is_live (cell_at (sheet_of d) a) ≡ true)
    glues_edges e =
        let p = glue_passed e in
        let l = both_live p in
        (record { asked = asked_still d w (glue_edges a b flag) p none_new (sizes_fit_lem p); live = l.1; is = glued_is }, l.0)

  -- a live id's steps are numbers
  pub step_small : (i : ℕ) → is_live (cell_at (sheet_of d) i) ≡ true → i < 2147483648
  step_small i l = let h = live_id (sheet_of d) (sound_in d w) i l in omega arith
