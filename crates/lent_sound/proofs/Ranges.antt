-- A test of each number of a range, and tests of lists as tests of their places. Assumes nothing.
use Prim.Native.Nat.{ℕ, zero, suc, ◌+◌, ◌<◌, ◌≤◌}
use mathlib.Core.Path.{◌≡◌, refl, ap, ap₂, sym, ◌∙◌}
use mathlib.Core.Bool.{Bool, true, false, ◌&&◌}
use mathlib.Core.List.{List, [], ◌∷◌}
use native.Mathlib.Omega.{arith}
use native.Mathlib.Decide.{dec_lt}
use native.Mathlib.Numerals.{add-one}
use lib.Dec.{leb}
use lib.ListN.{length, take, get_or}
use borrow.Author.Tests.{leb-true}
use Rattle.complex.specs.Lists.{all}
use Rattle.complex.proofs.Bools.{both_true}
use Rattle.sound.specs.Rows.{all_from}
use Rattle.lent_row.specs.Row.{places_upto}
use Rattle.lent_row.proofs.Rows.{places_more}

pub same_truth : (a b : Bool) → (a ≡ true → b ≡ true) → (b ≡ true → a ≡ true) → a ≡ b
same_truth true b f g = sym (f refl)
same_truth false true f g = g refl
same_truth false false f g = refl

-- ---- a range of numbers
pub range_at : (p : ℕ → Bool) (k m j : ℕ) → all_from p k m ≡ true → k ≤ j → j < k + m → p j ≡ true
range_at p k zero j e h g = absurd (omega arith)
range_at p k (suc m) j e h g = go (dec_lt k j) (range_at p (suc k) m j (both_true (p k) (all_from p (suc k) m) e).1)
  where
    go : Dec (k < j) → (suc k ≤ j → j < suc k + m → p j ≡ true) → p j ≡ true
    go (yes u) f = f (omega arith) (omega arith)
    go (no u) f = let q : j ≡ k = omega (arith, u) in ap p q ∙ (both_true (p k) (all_from p (suc k) m) e).0

pub range_of : (p : ℕ → Bool) (k m : ℕ) → ((j : ℕ) → k ≤ j → j < k + m → p j ≡ true) → all_from p k m ≡ true
range_of p k zero f = refl
range_of p k (suc m) f = ap₂ ◌&&◌ (f k (omega arith) (omega arith)) (range_of p (suc k) m (λ j h g. f j (omega arith) (omega arith)))

-- ---- the first m elements of a list
module _ {A : Type 0} (p : A → Bool) (z : A) where
  pub first_at_lem : (l : List A) (m j : ℕ) → m ≤ length l → j < m → all p (take m l) ≡ true → p (get_or l j z) ≡ true
  first_at_lem l zero j h g e = absurd (omega arith)
  first_at_lem [] (suc m) j h g e = absurd (omega arith)
  first_at_lem (x ∷ l) (suc m) zero h g e = (both_true (p x) (all p (take m l)) e).0
  first_at_lem (x ∷ l) (suc m) (suc j) h g e = first_at_lem l m j (omega arith) (omega arith) (both_true (p x) (all p (take m l)) e).1

  pub first_of : (l : List A) (m : ℕ) → m ≤ length l → ((j : ℕ) → j < m → p (get_or l j z) ≡ true) → all p (take m l) ≡ true
  first_of l zero h f = refl
  first_of [] (suc m) h f = absurd (omega arith)
  first_of (x ∷ l) (suc m) h f = ap₂ ◌&&◌ (f 0 (omega arith)) (first_of l m (omega arith) (λ j g. f (suc j) (omega arith)))

-- ---- rows, each with its places after those of the rows before it
-- where each row's places are right, all are
pub places_of : (p : ℕ → Bool) (l : List ℕ) (n : ℕ) → n ≤ length l → ((i : ℕ) → i < n → all_from p (places_upto l i) (get_or l i 0) ≡ true)
    → (j : ℕ) → j < places_upto l n → p j ≡ true
places_of p l zero h f j g = absurd (omega arith)
places_of p l (suc n) h f j g = go (dec_lt j (places_upto l n)) (places_of p l n (omega arith) (λ i k. f i (omega arith)) j)
  where
    go : Dec (j < places_upto l n) → (j < places_upto l n → p j ≡ true) → p j ≡ true
    go (yes u) ih = ih u
    go (no u) ih =
        let m = places_more l n (omega (arith, h)) in
        let s : places_upto l (suc n) ≡ places_upto l (n + 1) = ap (places_upto l) (sym (add-one n)) in
        range_at p (places_upto l n) (get_or l n 0) j (f n (omega arith)) (omega (arith, u)) (omega (arith, g, m, s))

-- a sum that keeps a ceiling at each row keeps it
pub capped : (f : ℕ → ℕ) (most n : ℕ) → f 0 ≤ most → ((i : ℕ) → i < n → leb (f (i + 1)) most ≡ true) → f n ≤ most
capped f most zero h g = h
capped f most (suc n) h g =
    let a = leb-true (f (n + 1)) most (g n (omega arith)) in
    let e : f (suc n) ≡ f (n + 1) = ap f (sym (add-one n)) in
    omega (arith, a, e)
