-- 0E: soundness and shift, by its cases. Assumes nothing.
use Prim.Native.Nat.{ℕ, zero, suc, ◌≤◌, ◌<◌}
use native.Mathlib.Omega.{arith}
use mathlib.Core.Path.{◌≡◌, refl, sym, ap, ◌∙◌, subst}
use mathlib.Core.Logic.{◌⊎◌, inl, inr}
use mathlib.Core.Bool.{Bool, true, false, not, ◌&&◌, ◌||◌, cond, beq, true≢false}
use mathlib.Core.List.{List, [], ◌∷◌}
use mathlib.Core.Option.{Option, none, some}
use lib.Dec.{T, eqb, leb}
use borrow.Author.Tests.{eq-eqb, ne_eqb, eqb-true, eqb-false}
use Rattle.coordinate.specs.declared.Position.{Position}
use Rattle.complex.specs.Cells.{Halfedge, Cycle, Figure, vertex, open_edge, closed_edge, face, LiveCell, Sheet, is_edge, cell_at, is_vertex_or_edge}
use Rattle.complex.specs.Sound.{ids_end, ceilings}
use Rattle.complex.specs.Decode.{Command, uncut}
use Rattle.complex.specs.Uses.{ends_at, passages_at, lone_use, uses_by, Use, uses_of}
use Rattle.complex.specs.Uncut.{Uncut, refused, lonely, loop, joint, two_faces, one_cycle, rings, ends_of_one_edge, doubles_back, stays_on_edge, opposite}
use Rattle.complex.specs.Uncut.{uncut_vertex, uncut_open, uncut_closed, uncut_figure, uncut_case, uncut_result, uncut_at, allowed}
use Rattle.complex.specs.Commands.{question4, question6, result}
use Rattle.complex.proofs.Gains.{Even}
use Rattle.complex.proofs.Bools.{truth, true_of, both, false_not}
use Rattle.complex.proofs.Keep.{Sound}
use Rattle.complex.proofs.Passes.{Passes}
use Rattle.complex.proofs.Euler.{Balanced}
use Rattle.complex.proofs.UncutFaces.{Placed, listed, real_u, real_w, placed_use, merged_sound, merged_over, rings_sound, rings_over}
use Rattle.complex.proofs.UncutCycle.{Only, one_cycle_sound, one_cycle_over}
use Rattle.complex.proofs.UncutVertex.{ends_of_one, lonely_sound, lonely_over, loop_sound, loop_over, joint_sound, joint_over}

-- ---- what holds in each case that is not refused
pub data Holds (s : Sheet) (i : ℕ) : Uncut → Type 0 where
  is_lonely : (p : Position) → cell_at s i ≡ some (vertex p) → ends_at s.cells i ≡ [] → uses_by (lone_use i) s.cells ≡ 1 → Holds s i lonely
  is_loop : (p : Position) → cell_at s i ≡ some (vertex p) → (x y : Halfedge) → ends_at s.cells i ≡ x ∷ y ∷ [] → uses_by (lone_use i) s.cells ≡ 0
      → T (ends_of_one_edge x y) → doubles_back (passages_at s.cells i) ≡ false → Holds s i (loop x.edge)
  is_joint : (p : Position) → cell_at s i ≡ some (vertex p) → (x y : Halfedge) → ends_at s.cells i ≡ x ∷ y ∷ [] → uses_by (lone_use i) s.cells ≡ 0
      → eqb x.edge y.edge ≡ false → stays_on_edge (passages_at s.cells i) ≡ false → Holds s i (joint x y)
  is_two : (a b : ℕ) (bs : List Position) → cell_at s i ≡ some (open_edge a b bs) → (u w : Use) → uses_of s.cells i ≡ u ∷ w ∷ [] → T (opposite u w)
      → (u.face ≡ w.face → ⊥) → Holds s i (two_faces u w)
  is_one_lem : (a b : ℕ) (bs : List Position) → cell_at s i ≡ some (open_edge a b bs) → (u w : Use) → Placed (cell_at s) i u → Placed (cell_at s) i w → Only s i u w
      → T (opposite u w) → u.face ≡ w.face → u.cycle ≡ w.cycle → Holds s i (one_cycle u w)
  is_rings : (bs : List Position) → cell_at s i ≡ some (closed_edge bs) → (u w : Use) → uses_of s.cells i ≡ u ∷ w ∷ [] → T (opposite u w)
      → (u.face ≡ w.face → ⊥) → Holds s i (rings u w)

opposite_sym : (u w : Use) → T (opposite u w) → T (opposite w u)
opposite_sym u w t = go u.halfedge.backward w.halfedge.backward t
  where
    go : (x y : Bool) → T (not (beq x y)) → T (not (beq y x))
    go true true t = t
    go true false t = t
    go false true t = t
    go false false t = t

module _ (s : Sheet) (S : Sound s) (i : ℕ) where
  holds_vertex : (p : Position) → cell_at s i ≡ some (vertex p) → (ends : List Halfedge) → ends_at s.cells i ≡ ends
      → T (allowed (uncut_vertex (passages_at s.cells i) (uses_by (lone_use i) s.cells) ends))
      → Holds s i (uncut_vertex (passages_at s.cells i) (uses_by (lone_use i) s.cells) ends)
  holds_vertex p at [] q t = go (eqb (uses_by (lone_use i) s.cells) 1) refl t
    where
      go : (b : Bool) → eqb (uses_by (lone_use i) s.cells) 1 ≡ b → T (allowed (cond b lonely refused)) → Holds s i (cond b lonely refused)
      go true z t = is_lonely p at q (eqb-true (uses_by (lone_use i) s.cells) 1 z)
      go false z t = absurd t
  holds_vertex p at (x ∷ []) q t = absurd t
  holds_vertex p at (x ∷ y ∷ []) q t =
      go (eqb (uses_by (lone_use i) s.cells) 0) (ends_of_one_edge x y) (doubles_back (passages_at s.cells i))
      (stays_on_edge (passages_at s.cells i)) refl refl refl refl t
    where
      distinct : ends_of_one_edge x y ≡ false → eqb x.edge y.edge ≡ false
      distinct z = ne_eqb x.edge y.edge (λ e. false_not z (ends_of_one 0 s.cells s.next i x y S.rises q e))

      go : (a b c d : Bool) → eqb (uses_by (lone_use i) s.cells) 0 ≡ a → ends_of_one_edge x y ≡ b → doubles_back (passages_at s.cells i) ≡ c
          → stays_on_edge (passages_at s.cells i) ≡ d
          → T (allowed (cond (not a) refused (cond b (cond c refused (loop x.edge)) (cond d refused (joint x y)))))
          → Holds s i (cond (not a) refused (cond b (cond c refused (loop x.edge)) (cond d refused (joint x y))))
      go false b c d z₀ z₁ z₂ z₃ t = absurd t
      go true true true d z₀ z₁ z₂ z₃ t = absurd t
      go true true false d z₀ z₁ z₂ z₃ t = is_loop p at x y q (eqb-true (uses_by (lone_use i) s.cells) 0 z₀) (truth z₁) z₂
      go true false c true z₀ z₁ z₂ z₃ t = absurd t
      go true false c false z₀ z₁ z₂ z₃ t = is_joint p at x y q (eqb-true (uses_by (lone_use i) s.cells) 0 z₀) (distinct z₁) z₃
  holds_vertex p at (x ∷ y ∷ z ∷ zs) q t = absurd t

  holds_open : (a b : ℕ) (bs : List Position) → cell_at s i ≡ some (open_edge a b bs) → (us : List Use) → uses_of s.cells i ≡ us → T (allowed (uncut_open us))
      → Holds s i (uncut_open us)
  holds_open a b bs at [] q t = absurd t
  holds_open a b bs at (u ∷ []) q t = absurd t
  holds_open a b bs at (u ∷ w ∷ []) q t = go (opposite u w) (eqb u.face w.face) (eqb u.cycle w.cycle) u.halfedge.backward refl refl refl t
    where
      E : T (is_edge (cell_at s i))
      E = rw at tt

      ru : Placed (cell_at s) i u
      ru = placed_use (cell_at s) i u (real_u s S i E u w q)

      rw' : Placed (cell_at s) i w
      rw' = placed_use (cell_at s) i w (real_w s S i E u w q)

      swap : {A B : Type 0} → A ⊎ B → B ⊎ A
      swap (inl x) = inr x
      swap (inr x) = inl x

      go : (c d e f : Bool) → opposite u w ≡ c → eqb u.face w.face ≡ d → eqb u.cycle w.cycle ≡ e
          → T (allowed (cond (not c) refused (cond (not d) (two_faces u w) (cond (not e) refused (cond f (one_cycle u w) (one_cycle w u))))))
          → Holds s i (cond (not c) refused (cond (not d) (two_faces u w) (cond (not e) refused (cond f (one_cycle u w) (one_cycle w u)))))
      go false d e f z₀ z₁ z₂ t = absurd t
      go true false e f z₀ z₁ z₂ t = is_two a b bs at u w q (truth z₀) (eqb-false u.face w.face z₁)
      go true true false f z₀ z₁ z₂ t = absurd t
      go true true true true z₀ z₁ z₂ t = is_one_lem a b bs at u w ru rw' (listed s S i E u w q) (truth z₀) (eqb-true u.face w.face z₁)
          (eqb-true u.cycle w.cycle z₂)
      go true true true false z₀ z₁ z₂ t =
          is_one_lem a b bs at w u rw' ru (λ f ks k c l j m z. swap (listed s S i E u w q f ks k c l j m z)) (opposite_sym u w (truth z₀))
          (sym (eqb-true u.face w.face z₁)) (sym (eqb-true u.cycle w.cycle z₂))
  holds_open a b bs at (u ∷ w ∷ x ∷ xs) q t = absurd t

  holds_closed : (bs : List Position) → cell_at s i ≡ some (closed_edge bs) → (us : List Use) → uses_of s.cells i ≡ us → T (allowed (uncut_closed us))
      → Holds s i (uncut_closed us)
  holds_closed bs at [] q t = absurd t
  holds_closed bs at (u ∷ []) q t = absurd t
  holds_closed bs at (u ∷ w ∷ []) q t = go (opposite u w) (eqb u.face w.face) refl refl t
    where
      go : (c d : Bool) → opposite u w ≡ c → eqb u.face w.face ≡ d → T (allowed (cond (c && not d) (rings u w) refused))
          → Holds s i (cond (c && not d) (rings u w) refused)
      go false d z₀ z₁ t = absurd t
      go true true z₀ z₁ t = absurd t
      go true false z₀ z₁ t = is_rings bs at u w q (truth z₀) (eqb-false u.face w.face z₁)
  holds_closed bs at (u ∷ w ∷ x ∷ xs) q t = absurd t

  holds_figure : (o : Option Figure) → cell_at s i ≡ o → T (allowed (uncut_figure s.cells i o)) → Holds s i (uncut_figure s.cells i o)
  holds_figure none q t = absurd t
  holds_figure (some (vertex p)) q t = holds_vertex p q (ends_at s.cells i) refl t
  holds_figure (some (open_edge a b bs)) q t = holds_open a b bs q (uses_of s.cells i) refl t
  holds_figure (some (closed_edge bs)) q t = holds_closed bs q (uses_of s.cells i) refl t
  holds_figure (some (face ks)) q t = absurd t

  pub uncut_holds : T (question6 s (uncut i)) → Holds s i (uncut_case s i)
  unfolding question6
  uncut_holds t = holds_figure (cell_at s i) refl t

  -- an edge
  edged : (t : Figure) → cell_at s i ≡ some t → T (is_edge (some t)) → T (is_edge (cell_at s i))
  edged t q k = rw q k

  good_sound : (c : Uncut) → Holds s i c → T (leb (uncut_result s i c).next ids_end) → T (ceilings (uncut_result s i c).cells) → Sound (uncut_result s i c)
  good_sound c (is_lonely p at e n) = lonely_sound s S i p at e
  good_sound c (is_loop p at x y e n k z) = loop_sound s S i p at x y e n k z
  good_sound c (is_joint p at x y e n k z) = joint_sound s S i p at x y e n k z
  good_sound c (is_two a b bs at u w q k n) = merged_sound s S i u w q (edged (open_edge a b bs) at tt) k n (rw at tt)
  good_sound c (is_one_lem a b bs at u w ru rw' L k ef ec) = one_cycle_sound s S i (edged (open_edge a b bs) at tt) (rw at tt) u w ru rw' L k ef ec
  good_sound c (is_rings bs at u w q k n) = rings_sound s S i u w q (edged (closed_edge bs) at tt) k n

  good_over : (c : Uncut) → Holds s i c → Even s (uncut_result s i c)
  good_over c (is_lonely p at e n) = lonely_over s S i p at e n
  good_over c (is_loop p at x y e n k z) = loop_over s S i p at x y e n k z
  good_over c (is_joint p at x y e n k z) = joint_over s S i p at x y e n k z
  good_over c (is_two a b bs at u w q k n) = merged_over s S i u w q (edged (open_edge a b bs) at tt) k n a b bs at
  good_over c (is_one_lem a b bs at u w ru rw' L k ef ec) = one_cycle_over s S i (edged (open_edge a b bs) at tt) (rw at tt) u w ru rw' L k ef ec a b bs at
  good_over c (is_rings bs at u w q k n) = rings_over s S i u w q (edged (closed_edge bs) at tt) k n bs at

  pub uncut_sound : Passes s (uncut i) → Sound (result s (uncut i))
  unfolding result uncut_at
  uncut_sound p = good_sound (uncut_case s i) (uncut_holds p.six) p.seven p.eight

  pub uncut_balanced : Passes s (uncut i) → Balanced s (uncut i)
  unfolding result uncut_at
  uncut_balanced p = let h = good_over (uncut_case s i) (uncut_holds p.six) in omega arith
