-- A list that is written from its front on. Assumes nothing.
use Prim.Native.Nat.{ℕ, ◌+◌, ◌<◌, ◌≤◌}
use mathlib.Core.Path.{◌≡◌, refl, sym, ap, ap₂, ◌∙◌}
use mathlib.Core.List.{List, [], ◌∷◌, ◌++◌}
use native.Mathlib.Omega.{arith}
use native.Mathlib.Numerals.{add-one}
use lib.Ieee.{Float}
use lib.ListN.{length, get_or, set, take, length-set}
use lib.Seq.{take-suc, take_all}
use Rattle.coordinate.specs.declared.Position.{Position}
use Rattle.rows_marks.proofs.Marking.{front_more}
use Rattle.lent.specs.Arrays.{positions_in}
use Rattle.lent.proofs.Held.{positions_length, positions_set}

-- the first i places of out are those of l
module _ {A : Type 0} where
  pub front_turn : (l out : List A) (i : ℕ) (v z : A) → i < length l → i < length out → v ≡ get_or l i z → take i out ≡ take i l
      → take (i + 1) (set out i v) ≡ take (i + 1) l
  front_turn l out i v z h k e m =
      front_more out i v (take i l) (take (i + 1) l) k m
      (ap (λ (n : ℕ). take n l) (add-one i) ∙ take-suc l i z h ∙ ap (λ (x : A). take i l ++ (x ∷ [])) (sym e))

  pub front_all : (l out : List A) (n : ℕ) → length l ≡ n → length out ≡ n → take n out ≡ take n l → out ≡ l
  front_all l out n h k e = sym (take_all n out (omega (arith, k))) ∙ e ∙ take_all n l (omega (arith, h))

-- the first i positions of two arrays of n are those of l
pub record Bends (l : List Position) (n i : ℕ) (xs ys : List Float) : Type 0 where
  pub first : length xs ≡ n
  pub second : length ys ≡ n
  pub front : take i (positions_in xs ys) ≡ take i l

module _ (l : List Position) (n : ℕ) (h : length l ≡ n) (i : ℕ) (xs ys : List Float) (b : Bends l n i xs ys) where
  pub bends_turn : (p z : Position) (us vs : List Float) → i < n → p ≡ get_or l i z → us ≡ set xs i p.x → vs ≡ set ys i p.y → Bends l n (i + 1) us vs
  bends_turn p z us vs k e eu ev =
      record {
        first = ap length eu ∙ length-set xs i p.x ∙ b.first;
        second = ap length ev ∙ length-set ys i p.y ∙ b.second;
        front =
            ap (take (i + 1)) (ap₂ positions_in eu ev ∙ positions_set xs ys i p)
            ∙ front_turn l (positions_in xs ys) i p z (omega (arith, h))
            (omega (arith, positions_length xs ys (b.first ∙ sym b.second), b.first)) e b.front;
      }

  pub bends_all : i ≡ n → positions_in xs ys ≡ l
  bends_all e =
      front_all l (positions_in xs ys) i (h ∙ sym e) (positions_length xs ys (b.first ∙ sym b.second) ∙ b.first ∙ sym e) b.front
