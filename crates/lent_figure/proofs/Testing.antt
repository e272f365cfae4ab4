-- The tests of one row, one number after another. Assumes nothing.
use Prim.Native.Nat.{ℕ, zero, suc, ◌-◌, ◌<◌, ◌≤◌}
use mathlib.Core.Path.{◌≡◌, refl, ap, sym, ◌∙◌}
use mathlib.Core.Bool.{Bool, true, false, ◌&&◌, cond}
use mathlib.Core.List.{List}
use native.Mathlib.Omega.{arith}
use lib.Dec.{eqb, ltb}
use lib.ListN.{take, get_or}
use lib.Seq.{get_or-take}
use borrow.Author.Tests.{eq-eqb, ne_eqb, lt-ltb, le-ltb}
use Rattle.coordinate.specs.declared.Position.{Position}
use Rattle.coordinate.specs.Bounds.{within}
use Rattle.complex.specs.Visits.{id_before, id_right}
use Rattle.sound.specs.Rows.{rows_of, row_good}
use Rattle.sound.proofs.Testing.{and_true, and_false}
use Rattle.sound.proofs.Parts.{and_unit}
use Rattle.sound.proofs.Looking.{row_other}
use Rattle.lent.specs.Arrays.{row_normal}
use Rattle.lent_figure.specs.Figure.{figure_right}

-- ---- the id
before_some : (is : List ℕ) (i : ℕ) → (i ≡ 0 → ⊥) → get_or is (i - 1) 0 ≡ id_before is i
before_some is zero h = absurd (h refl)
before_some is (suc i) h = let e : suc i - 1 ≡ i = omega arith in ap (λ (j : ℕ). get_or is j 0) e

module _ (next : ℕ) (is : List ℕ) (i : ℕ) where
  pub id_late : next ≤ get_or is i 0 → false ≡ id_right next is i
  id_late h = sym (and_false _ (le-ltb (get_or is i 0) next h))

  module _ (h : get_or is i 0 < next) where
    pub id_first : i ≡ 0 → ltb 0 (get_or is i 0) ≡ id_right next is i
    id_first e = sym (and_true _ (lt-ltb (get_or is i 0) next h) ∙ ap (λ (j : ℕ). ltb (id_before is j) (get_or is i 0)) e)

    pub id_after : (i ≡ 0 → ⊥) → ltb (get_or is (i - 1) 0) (get_or is i 0) ≡ id_right next is i
    id_after e = ap (λ (x : ℕ). ltb x (get_or is i 0)) (before_some is i e) ∙ sym (and_true _ (lt-ltb (get_or is i 0) next h))

-- ---- the normal form
module _ (k s e b c : ℕ) where
  pub normal_open : k ≡ 1 → eqb c 0 ≡ row_normal k s e b c
  normal_open h = rw (eq-eqb k 1 h)

  module _ (n1 : k ≡ 1 → ⊥) where
    pub normal_start : (s ≡ 0 → ⊥) → false ≡ row_normal k s e b c
    normal_start h = rw (ne_eqb k 1 n1, ne_eqb s 0 h)

    module _ (zs : s ≡ 0) where
      pub normal_end : (e ≡ 0 → ⊥) → false ≡ row_normal k s e b c
      normal_end h = rw (ne_eqb k 1 n1, eq-eqb s 0 zs, ne_eqb e 0 h)

      module _ (ze : e ≡ 0) where
        pub normal_closed : k ≡ 2 → eqb c 0 ≡ row_normal k s e b c
        normal_closed h = rw (ne_eqb k 1 n1, eq-eqb s 0 zs, eq-eqb e 0 ze, eq-eqb k 2 h)

        module _ (n2 : k ≡ 2 → ⊥) where
          pub normal_bends : (b ≡ 0 → ⊥) → false ≡ row_normal k s e b c
          normal_bends h = rw (ne_eqb k 1 n1, eq-eqb s 0 zs, eq-eqb e 0 ze, ne_eqb k 2 n2, ne_eqb b 0 h)

          module _ (zb : b ≡ 0) where
            pub normal_face : k ≡ 3 → true ≡ row_normal k s e b c
            normal_face h = rw (ne_eqb k 1 n1, eq-eqb s 0 zs, eq-eqb e 0 ze, ne_eqb k 2 n2, eq-eqb b 0 zb, eq-eqb k 3 h)

            module _ (n3 : k ≡ 3 → ⊥) where
              pub normal_vertex : k ≡ 0 → eqb c 0 ≡ row_normal k s e b c
              normal_vertex h = rw (ne_eqb k 1 n1, eq-eqb s 0 zs, eq-eqb e 0 ze, ne_eqb k 2 n2, eq-eqb b 0 zb, ne_eqb k 3 n3, eq-eqb k 0 h)

              pub normal_none : (k ≡ 0 → ⊥) → false ≡ row_normal k s e b c
              normal_none h = rw (ne_eqb k 1 n1, eq-eqb s 0 zs, eq-eqb e 0 ze, ne_eqb k 2 n2, eq-eqb b 0 zb, ne_eqb k 3 n3, ne_eqb k 0 h)

-- ---- the figure
module _ (n : ℕ) (is ks ss es bs : List ℕ) (i : ℕ) (p : Position) (h : i < n) where
  kind_is : (b : Bool) → eqb (get_or ks i 0) 0 ≡ b → eqb (get_or (take n ks) i 0) 0 ≡ b
  kind_is b e = ap (λ (k : ℕ). eqb k 0) (get_or-take n ks i 0 h) ∙ e

  pub figure_other : (get_or ks i 0 ≡ 0 → ⊥) → (r : Bool) → r ≡ row_good (rows_of n is ks ss es) (take n bs) i
      → r ≡ figure_right (rows_of n is ks ss es) (take n bs) i p
  figure_other f r e =
      e
      ∙ sym (ap (λ (b : Bool). row_good (rows_of n is ks ss es) (take n bs) i && cond b (within p) true) (kind_is false (ne_eqb (get_or ks i 0) 0 f))
      ∙ and_unit (row_good (rows_of n is ks ss es) (take n bs) i))

  pub figure_vertex : get_or ks i 0 ≡ 0 → (r : Bool) → r ≡ within p → r ≡ figure_right (rows_of n is ks ss es) (take n bs) i p
  figure_vertex z r e =
      e
      ∙ sym (and_true _ (sym (row_other n is ks ss es bs i h (λ q. omega (arith, q, z)) (λ q. omega (arith, q, z))))
      ∙ ap (λ (b : Bool). cond b (within p) true) (kind_is true (eq-eqb (get_or ks i 0) 0 z)))
