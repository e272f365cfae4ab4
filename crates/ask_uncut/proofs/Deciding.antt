-- Which case of 0E holds at an edge: the numbers tell what the sheet's definitions ask. Assumes nothing.
use Prim.Native.Nat.{ℕ}
use mathlib.Core.Path.{◌≡◌, refl, ap, ap₂, sym}
use mathlib.Core.Bool.{Bool, true, false, not, ◌&&◌, cond, beq}
use mathlib.Core.List.{List, [], ◌∷◌}
use lib.Dec.{eqb}
use Rattle.number.specs.Said.{done, no}
use Rattle.complex.specs.Uses.{Use as Used}
use Rattle.complex.specs.Uncut.{refused, two_faces, one_cycle, rings, uncut_open, uncut_closed}
use Rattle.complex.proofs.Every.{Every}
use Rattle.law_uncut.specs.Said.{uncut_said}
use Rattle.ask_uncut_uses.specs.Uses.{use_of, use_at, uses_two}
use Rattle.ask_uncut.specs.Cases.{open_case, closed_case}

-- ---- the uses are all of the edge i
abbrev pub Own : ℕ → Used → Type 0
Own i u = u.halfedge.edge ≡ i

use_back : (i : ℕ) (u : Used) → Own i u → use_at i (use_of u) ≡ u
use_back i u q =
    ap (λ (n : ℕ). record { face = u.face; cycle = u.cycle; step = u.step; halfedge = record { edge = n; backward = u.halfedge.backward } }) (sym q)

open_same : (i : ℕ) (u w : Used) (a b c d : Bool) → use_at i (use_of u) ≡ u → use_at i (use_of w) ≡ w
    → let u' = use_at i (use_of u) in
    let w' = use_at i (use_of w) in
    cond (not a) (no 6) (cond (not b) (done (two_faces u' w')) (cond (not c) (no 6) (cond d (done (one_cycle u' w')) (done (one_cycle w' u')))))
    ≡ uncut_said (cond (not a) refused (cond (not b) (two_faces u w) (cond (not c) refused (cond d (one_cycle u w) (one_cycle w u)))))
open_same i u w false b c d p q = refl
open_same i u w true false c d p q = ap₂ (λ (x y : Used). done (two_faces x y)) p q
open_same i u w true true false d p q = refl
open_same i u w true true true true p q = ap₂ (λ (x y : Used). done (one_cycle x y)) p q
open_same i u w true true true false p q = ap₂ (λ (x y : Used). done (one_cycle x y)) q p

pub open_case_lem : (i : ℕ) (l : List Used) → Every (Own i) l → open_case (uses_two l) i ≡ uncut_said (uncut_open l)
open_case_lem i [] h = refl
open_case_lem i (u ∷ []) h = refl
open_case_lem i (u ∷ w ∷ []) h =
    open_same i u w (not (beq u.halfedge.backward w.halfedge.backward)) (eqb u.face w.face) (eqb u.cycle w.cycle)
    u.halfedge.backward (use_back i u h.0) (use_back i w h.1.0)
open_case_lem i (u ∷ w ∷ x ∷ l) h = refl

closed_same_as : (i : ℕ) (u w : Used) (b : Bool) → use_at i (use_of u) ≡ u → use_at i (use_of w) ≡ w
    → cond b (done (rings (use_at i (use_of u)) (use_at i (use_of w)))) (no 6) ≡ uncut_said (cond b (rings u w) refused)
closed_same_as i u w true p q = ap₂ (λ (x y : Used). done (rings x y)) p q
closed_same_as i u w false p q = refl

pub closed_case_lem : (i : ℕ) (l : List Used) → Every (Own i) l → closed_case (uses_two l) i ≡ uncut_said (uncut_closed l)
closed_case_lem i [] h = refl
closed_case_lem i (u ∷ []) h = refl
closed_case_lem i (u ∷ w ∷ []) h =
    closed_same_as i u w (not (beq u.halfedge.backward w.halfedge.backward) && not (eqb u.face w.face)) (use_back i u h.0)
    (use_back i w h.1.0)
closed_case_lem i (u ∷ w ∷ x ∷ l) h = refl
