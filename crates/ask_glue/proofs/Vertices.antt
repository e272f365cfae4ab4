-- 07: the questions from the index, and the answer of the drawing that is made. Assumes nothing.
use Prim.Native.Nat.{ℕ}
use native.Mathlib.Omega.{arith}
use mathlib.Core.Path.{◌≡◌, refl, sym, ap, ap₂, ◌∙◌}
use mathlib.Core.Bool.{Bool, true, false, not, ◌&&◌, cond}
use mathlib.Core.Option.{Option, none, some}
use lib.Dec.{T, eqb}
use Rattle.complex.specs.Lists.{one}
use Rattle.complex.specs.Cells.{Figure, vertex, open_edge, closed_edge, face, cell_at, is_vertex, is_live}
use Rattle.complex.specs.Edits.{others, rewired}
use Rattle.complex.specs.Glue.{renamed, glued_vertices}
use Rattle.complex.specs.Decode.{glue_vertices}
use Rattle.complex.specs.Commands.{question4, question5, question6, result}
use Rattle.answer.specs.Sizes.{new_cells, sizes_after, sizes_fit}
use Rattle.complex.specs.Answer.{no, asked3}
use Rattle.complex.proofs.Bools.{true_of}
use Rattle.complex.proofs.Asked.{Passed, no_4, no_6, early, early_none}
use Rattle.answer.proofs.Sizes.{glue_fits}
use Rattle.answer.proofs.SizesAfter.{sizes_after_lem}
use Rattle.store.specs.declared.Drawing.{Drawing}
use Rattle.store.specs.declared.Index.{Index}
use Rattle.store.specs.Index.{Indexes}
use Rattle.store.specs.Sizes.{Sizes}
use Rattle.store.specs.View.{sheet_of}
use Rattle.sound.specs.Soundness.{sound_drawing}
use Rattle.sound.specs.Looks.{index_value}
use Rattle.sound.proofs.Meaning.{looks, vertex_at}
use Rattle.answer.proofs.Asked.{sound_in, asked_six, asked_still}
use Rattle.rows_new.specs.Appends.{remade}
use Rattle.rows_gone.proofs.Dropped.{remade_rebuild}
use Rattle.ask_glue.proofs.Glued.{Glues}
use Rattle.ask_glue.specs.Questions.{vertices_no}

pub vertex_live : (o : Option Figure) → is_vertex o ≡ true → is_live o ≡ true
vertex_live none e = e
vertex_live (some (vertex p)) e = refl
vertex_live (some (open_edge a b bs)) e = refl
vertex_live (some (closed_edge bs)) e = refl
vertex_live (some (face ks)) e = refl

module _ (d : Drawing) (z : Sizes d) (w : T (sound_drawing d)) where
  module _ (a b : ℕ) (ix : Index) (x : Indexes d ix) (r : ℕ)
      (er : r ≡ vertices_no (index_value 4 d ix ix.kinds a) (index_value 4 d ix ix.kinds b) (eqb a b)) where
    abbrev no_by : Bool → Bool → Bool → ℕ
    no_by p q e = cond p (cond q (cond e 6 0) 4) 4

    no_is : r ≡ no_by (is_vertex (cell_at (sheet_of d) a)) (is_vertex (cell_at (sheet_of d) b)) (eqb a b)
    no_is =
        let k = looks d z ix x w in
        er ∙ ap₂ (λ (p q : Bool). no_by p q (eqb a b)) (vertex_at k a) (vertex_at k b)

    four : (p q : Bool) → is_vertex (cell_at (sheet_of d) a) ≡ p → is_vertex (cell_at (sheet_of d) b) ≡ q → question4 (sheet_of d) (glue_vertices a b) ≡ p && q
    unfolding question4
    four p q ep eq = ap₂ ◌&&◌ ep eq

    six : (e : Bool) → eqb a b ≡ e → question6 (sheet_of d) (glue_vertices a b) ≡ not e
    unfolding question6
    six e h = ap not h

    bytes : early (glue_vertices a b) ≡ 0
    bytes = early_none (glue_vertices a b) refl

    five : question5 (sheet_of d) (glue_vertices a b) ≡ true
    unfolding question5
    five = refl

    by : (p q e : Bool) → is_vertex (cell_at (sheet_of d) a) ≡ p → is_vertex (cell_at (sheet_of d) b) ≡ q → eqb a b ≡ e → r ≡ no_by p q e
    by p q e ep eq ee = no_is ∙ rw (ep, eq, ee)

    pub glue_no : (r ≡ 0 → ⊥) → asked3 (sheet_of d) (glue_vertices a b) ≡ no r (sheet_of d)
    glue_no nz = go (is_vertex (cell_at (sheet_of d) a)) (is_vertex (cell_at (sheet_of d) b)) (eqb a b) refl refl refl
      where
        said : (n : ℕ) → r ≡ n → asked3 (sheet_of d) (glue_vertices a b) ≡ no n (sheet_of d) → asked3 (sheet_of d) (glue_vertices a b) ≡ no r (sheet_of d)
        said n e h = h ∙ ap (λ (m : ℕ). no m (sheet_of d)) (sym e)

        go : (p q e : Bool) → is_vertex (cell_at (sheet_of d) a) ≡ p → is_vertex (cell_at (sheet_of d) b) ≡ q → eqb a b ≡ e
            → asked3 (sheet_of d) (glue_vertices a b) ≡ no r (sheet_of d)
        go false q e ep eq ee = said 4 (by false q e ep eq ee) (no_4 (sheet_of d) (glue_vertices a b) bytes (four false q ep eq))
        go true false e ep eq ee = said 4 (by true false e ep eq ee) (no_4 (sheet_of d) (glue_vertices a b) bytes (four true false ep eq))
        go true true true ep eq ee = said 6 (by true true true ep eq ee) (no_6 (sheet_of d) (glue_vertices a b) bytes (four true true ep eq) five (six true ee))
        go true true false ep eq ee = absurd (nz (by true true false ep eq ee))

    glue_passed : r ≡ 0 → Passed (sheet_of d) (glue_vertices a b) × (is_vertex (cell_at (sheet_of d) b) ≡ true)
    glue_passed z0 = go (is_vertex (cell_at (sheet_of d) a)) (is_vertex (cell_at (sheet_of d) b)) (eqb a b) refl refl refl
      where
        go : (p q e : Bool) → is_vertex (cell_at (sheet_of d) a) ≡ p → is_vertex (cell_at (sheet_of d) b) ≡ q → eqb a b ≡ e
            → Passed (sheet_of d) (glue_vertices a b) × (is_vertex (cell_at (sheet_of d) b) ≡ true)
        go false q e ep eq ee = absurd (let h = by false q e ep eq ee in omega arith)
        go true false e ep eq ee = absurd (let h = by true false e ep eq ee in omega arith)
        go true true true ep eq ee = absurd (let h = by true true true ep eq ee in omega arith)
        go true true false ep eq ee = (record { bytes = bytes; four = four true true ep eq; five = five; six = six false ee }, eq)

  module _ (a b : ℕ) (p : Passed (sheet_of d) (glue_vertices a b)) where
    none_new : new_cells (sheet_of d) (glue_vertices a b) ≡ 0
    unfolding new_cells
    none_new = refl

    sizes_fit_lem : sizes_fit (sizes_after (sheet_of d) (glue_vertices a b)) ≡ true
    sizes_fit_lem = sym (sizes_after_lem (sheet_of d) (sound_in d w) (glue_vertices a b) (asked_six (sheet_of d) (glue_vertices a b) p))
        ∙ true_of _ (glue_fits (sheet_of d) (sound_in d w) a b (asked_six (sheet_of d) (glue_vertices a b) p))

    glued_is : remade (others b) (rewired (renamed a b) one) (sheet_of d) ≡ result (sheet_of d) (glue_vertices a b)
    unfolding result glued_vertices
    glued_is = remade_rebuild (others b) (rewired (renamed a b) one) (sheet_of d)

  pub glues_vertices : (a b : ℕ) (ix : Index) → Indexes d ix → (r : ℕ)
      → r ≡ vertices_no (index_value 4 d ix ix.kinds a) (index_value 4 d ix ix.kinds b) (eqb a b) → r ≡ 0
      → Glues d (glue_vertices a b) b (rewired (renamed a b) one)
  glues_vertices a b ix x r er e =
      let p = glue_passed a b ix x r er e in
      record {
        asked = asked_still d w (glue_vertices a b) p.0 (none_new a b p.0) (sizes_fit_lem a b p.0);
        live = vertex_live (cell_at (sheet_of d) b) p.1;
        is = glued_is a b p.0;
      }
