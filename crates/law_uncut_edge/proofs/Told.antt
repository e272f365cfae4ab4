-- What the case of 0E tells of an edge and its two uses. Assumes nothing.
use Prim.Native.Nat.{ℕ, ◌≤◌, ◌<◌}
use mathlib.Core.Path.{◌≡◌, refl, ap, ap₂, sym, subst, ◌∙◌}
use mathlib.Core.Bool.{Bool, true, not, ◌&&◌, false≢true}
use mathlib.Core.List.{[], ◌∷◌}
use mathlib.Core.Option.{Option, none, some}
use native.Mathlib.Omega.{arith}
use borrow.Author.Tests.{ne_eqb}
use lib.Dec.{T}
use lib.ListN.{length, get_or}
use Rattle.complex.specs.Cells.{Figure, vertex, open_edge, closed_edge, face, Sheet, cell_at, cycles_of, steps_of, is_edge, is_face, is_live}
use Rattle.complex.specs.Edits.{neither}
use Rattle.complex.specs.Uses.{Use as Used, uses_of}
use Rattle.complex.specs.Cut.{no_cycle}
use Rattle.complex.specs.Uncut.{Uncut, refused, lonely, loop, joint, two_faces, one_cycle, rings, uncut_case, allowed}
use Rattle.complex.proofs.Bools.{truth}
use Rattle.complex.proofs.Keep.{Sound}
use Rattle.complex.proofs.UncutFaces.{Placed, real_u, real_w, placed_use}
use Rattle.complex.proofs.Uncut.{Holds, is_lonely, is_loop, is_joint, is_two, is_one_lem, is_rings, uncut_holds}
use Rattle.law_uncut.proofs.Passing.{uncut_passed}
use Rattle.ask_uncut_uses.specs.declared.Between.{Between}
use Rattle.ask_uncut_uses.specs.declared.Between.TheVariants.{TwoFaces, OneCycle, Rings}
use Rattle.ask_uncut_uses.specs.Uses.{case_of}
use Rattle.law_uncut_edge.specs.Needs.{gone_with}

-- ---- the cells
edge_live : (o : Option Figure) → T (is_edge o) → is_live o ≡ true
edge_live none t = absurd t
edge_live (some x) t = refl

edge_no_face : (o : Option Figure) → T (is_edge o) → is_face o ≡ true → ⊥
edge_no_face none t e = t
edge_no_face (some (vertex p)) t e = t
edge_no_face (some (open_edge a b bs)) t e = false≢true e
edge_no_face (some (closed_edge bs)) t e = false≢true e
edge_no_face (some (face ks)) t e = t

module _ (s : Sheet) (e : ℕ) (t : T (is_edge (cell_at s e))) where
  pub edge_in_lem : is_live (cell_at s e) ≡ true
  edge_in_lem = edge_live (cell_at s e) t

  module _ (u : Used) (p : Placed (cell_at s) e u) where
    pub face_of_lem : is_face (cell_at s u.face) ≡ true
    face_of_lem = ap is_face p.0

    pub face_in : is_live (cell_at s u.face) ≡ true
    face_in = ap is_live p.0

    pub cycle_of : u.cycle < length (cycles_of (cell_at s u.face))
    cycle_of = p.1

    pub some_of : 1 ≤ length (steps_of (get_or (cycles_of (cell_at s u.face)) u.cycle no_cycle))
    some_of = let l = p.2 in omega arith

    pub other_cell : e ≡ u.face → ⊥
    other_cell q = edge_no_face (cell_at s e) t (ap (λ (i : ℕ). is_face (cell_at s i)) q ∙ face_of_lem)

    -- the face stays where the edge goes with another cell
    pub stays_with : (g : ℕ) → (g ≡ u.face → ⊥) → neither e g u.face ≡ true
    stays_with g n = ap₂ (λ (x y : Bool). not x && not y) (ne_eqb e u.face other_cell) (ne_eqb g u.face n)

-- ---- two uses of the edge e
abbrev pub Alike : Between → Used → Used → Type 0
Alike TwoFaces u w = Unit {0}
Alike OneCycle u w = (u.face ≡ w.face) × (u.cycle ≡ w.cycle)
Alike Rings u w = Unit {0}

-- the cell that goes with e is not the face of the first
pub record Pair (s : Sheet) (e : ℕ) (k : Between) (u w : Used) : Type 0 where
  pub edge : T (is_edge (cell_at s e))
  pub first : Placed (cell_at s) e u
  pub second : Placed (cell_at s) e w
  pub alike : Alike k u w
  pub apart : gone_with k e w.face ≡ u.face → ⊥
  pub goes : is_live (cell_at s (gone_with k e w.face)) ≡ true

abbrev Told : Sheet → ℕ → Uncut → Type 0
Told s e refused = Unit {0}
Told s e lonely = Unit {0}
Told s e (loop x) = Unit {0}
Told s e (joint x y) = Unit {0}
Told s e (two_faces u w) = Pair s e TwoFaces u w
Told s e (one_cycle u w) = Pair s e OneCycle u w
Told s e (rings u w) = Pair s e Rings u w

apart_pair : (s : Sheet) → Sound s → (e : ℕ) → T (is_edge (cell_at s e)) → (u w : Used) → uses_of s.cells e ≡ u ∷ w ∷ [] → (u.face ≡ w.face → ⊥)
    → Pair s e TwoFaces u w
apart_pair s S e E u w q n =
    let f = placed_use (cell_at s) e w (real_w s S e E u w q) in
    record {
      edge = E;
      first = placed_use (cell_at s) e u (real_u s S e E u w q);
      second = f;
      alike = tt;
      apart = λ y. n (sym y);
      goes = face_in s e E w f;
    }

holds_told : (s : Sheet) → Sound s → (e : ℕ) (k : Uncut) → Holds s e k → Told s e k
holds_told s S e k (is_lonely p at x n) = tt
holds_told s S e k (is_loop p at x y q n t z) = tt
holds_told s S e k (is_joint p at x y q n t z) = tt
holds_told s S e k (is_two a b bs at u w q t n) = apart_pair s S e (rw at tt) u w q n
holds_told s S e k (is_one_lem a b bs at u w ru rw' L t ef ec) =
    let E : T (is_edge (cell_at s e)) = rw at tt in
    record { edge = E; first = ru; second = rw'; alike = (ef, ec); apart = other_cell s e E u ru; goes = edge_in_lem s e E }
holds_told s S e k (is_rings bs at u w q t n) =
    let p = apart_pair s S e (rw at tt) u w q n in
    record { edge = p.edge; first = p.first; second = p.second; alike = tt; apart = p.apart; goes = p.goes }

told : (s : Sheet) → Sound s → (e : ℕ) (k : Uncut) → uncut_case s e ≡ k → allowed k ≡ true → Told s e k
told s S e k q a = subst (Told s e) q (holds_told s S e (uncut_case s e) (uncut_holds s S e (truth (uncut_passed s e k q a).six)))

pub told_pair : (s : Sheet) → Sound s → (e : ℕ) (k : Between) (u w : Used) → uncut_case s e ≡ case_of k u w → Pair s e k u w
told_pair s S e TwoFaces u w q = told s S e (two_faces u w) q refl
told_pair s S e OneCycle u w q = told s S e (one_cycle u w) q refl
told_pair s S e Rings u w q = told s S e (rings u w) q refl
