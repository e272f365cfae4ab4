-- Which case of 0E holds at a vertex: the numbers tell what the sheet's definitions ask. Assumes nothing.
use Prim.Native.Nat.{ℕ}
use mathlib.Core.Path.{◌≡◌, refl, ap₂, sym}
use mathlib.Core.Bool.{Bool, true, false, not, cond}
use mathlib.Core.List.{List, [], ◌∷◌}
use native.Mathlib.Omega.{arith}
use lib.Dec.{eqb}
use borrow.Author.Tests.{ne_eqb}
use Rattle.number.specs.Said.{Said, done, no}
use Rattle.complex.specs.Lists.{any}
use Rattle.complex.specs.Cells.{Halfedge}
use Rattle.complex.specs.Uses.{Passage}
use Rattle.complex.specs.Uncut.{refused, lonely, loop, joint, ends_of_one_edge, uncut_vertex, Uncut}
use Rattle.law_uncut.specs.Said.{uncut_said}
use Rattle.ask_uncut_turns.specs.Turns.{turns_back}
use Rattle.ask_uncut_ends.specs.declared.Ends.{Ends}
use Rattle.ask_uncut_ends.specs.Ends.{two_ends}
use Rattle.ask_uncut_ends.specs.Cases.{pair_case, ends_case}

-- ---- any number of ends
module _ (whole edge : Bool) (lones : ℕ) (x : Ends) where
  abbrev choice : Bool → Bool → Bool → Bool → Said Uncut
  choice a b c d = cond a (cond b (done lonely) (no 6)) (cond (not c) (no 6) (cond (not d) (no 6) (pair_case whole edge x)))

  ends_many : (x.count ≡ 0 → ⊥) → (x.count ≡ 2 → ⊥) → no 6 ≡ ends_case whole edge lones x
  ends_many e g = sym (ap₂ (λ (a c : Bool). choice a (eqb lones 1) c (eqb lones 0)) (ne_eqb x.count 0 e) (ne_eqb x.count 2 g))

-- ---- the case is that of the definitions
case_lonely : (b : Bool) → cond b (done lonely) (no 6) ≡ uncut_said (cond b lonely refused)
case_lonely true = refl
case_lonely false = refl

case_pair : (x y : Halfedge) (a b c d : Bool)
    → cond (not a) (no 6) (cond b (cond c (no 6) (done (loop x.edge))) (cond d (no 6) (done (joint x y))))
    ≡ uncut_said (cond (not a) refused (cond b (cond c refused (loop x.edge)) (cond d refused (joint x y))))
case_pair x y true true true d = refl
case_pair x y true true false d = refl
case_pair x y true false c true = refl
case_pair x y true false c false = refl
case_pair x y false b c d = refl

pub vertex_case : (ts : List Passage) (lones : ℕ) (l : List Halfedge)
    → ends_case (any (turns_back true) ts) (any (turns_back false) ts) lones (two_ends l) ≡ uncut_said (uncut_vertex ts lones l)
vertex_case ts lones [] = case_lonely (eqb lones 1)
vertex_case ts lones (x ∷ []) = refl
vertex_case ts lones (x ∷ y ∷ []) =
    case_pair x y (eqb lones 0) (ends_of_one_edge x y) (any (turns_back true) ts) (any (turns_back false) ts)
vertex_case ts lones (x ∷ y ∷ z ∷ l) =
    sym (ends_many (any (turns_back true) ts) (any (turns_back false) ts) lones (two_ends (x ∷ y ∷ z ∷ l)) (λ e. omega arith) (λ e. omega arith))
