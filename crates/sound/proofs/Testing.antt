-- Loops that test elements one after another. Assumes nothing.
use Prim.Native.Nat.{ℕ, zero, suc, ◌+◌, ◌-◌, ◌<◌, ◌≤◌}
use mathlib.Core.Path.{◌≡◌, refl, ap, ap₂, sym, ◌∙◌}
use mathlib.Core.List.{List, [], ◌∷◌, map}
use mathlib.Core.Bool.{Bool, true, false, ◌&&◌}
use native.Mathlib.Omega.{arith}
use native.Mathlib.Numerals.{add-one}
use lib.ListN.{length, take, drop, get_or}
use lib.Seq.{drop-cons, drop-length, get_or-take, length-take-le}
use Rattle.complex.specs.Lists.{all}
use Rattle.sound.specs.Rows.{all_from}

pub and_true : {a : Bool} (b : Bool) → a ≡ true → a && b ≡ b
and_true b e = ap (λ (x : Bool). x && b) e

pub and_false : {a : Bool} (b : Bool) → a ≡ false → a && b ≡ false
and_false b e = ap (λ (x : Bool). x && b) e

module _ {A : Type 0} where
  -- the elements of the first n that are left after i
  pub left_cons : (l : List A) (n i : ℕ) (z : A) → n ≤ length l → i < n → drop i (take n l) ≡ get_or l i z ∷ drop (i + 1) (take n l)
  left_cons l n i z h k =
      drop-cons (take n l) i z (let e = length-take-le n l h in omega arith)
      ∙ ap₂ (λ (x : A) (m : ℕ). x ∷ drop m (take n l)) (get_or-take n l i z k) (sym (add-one i))

  pub left_none : (l : List A) (n i : ℕ) → n ≤ length l → i ≡ n → drop i (take n l) ≡ []
  left_none l n i h e = ap (λ (m : ℕ). drop m (take n l)) (e ∙ sym (length-take-le n l h)) ∙ drop-length (take n l)

  module _ (p : A → Bool) (l : List A) (n : ℕ) where
    -- the first i are tested and true: the rest decides
    pub record Testing (i : ℕ) : Type 0 where
      pub rest : all p (take n l) ≡ all p (drop i (take n l))

    pub testing_start : Testing 0
    testing_start = record { rest = refl }

    module _ (i : ℕ) (z : A) (h : n ≤ length l) (k : i < n) (t : Testing i) where
      seen : (b : Bool) → p (get_or l i z) ≡ b → all p (take n l) ≡ b && all p (drop (i + 1) (take n l))
      seen b e = t.rest ∙ ap (all p) (left_cons l n i z h k) ∙ ap (λ (x : Bool). x && all p (drop (i + 1) (take n l))) e

      pub testing_turn : p (get_or l i z) ≡ true → Testing (i + 1)
      testing_turn e = record { rest = seen true e }

      pub testing_fail : p (get_or l i z) ≡ false → all p (take n l) ≡ false
      testing_fail e = seen false e

    pub testing_end : (i : ℕ) → n ≤ length l → i ≡ n → Testing i → all p (take n l) ≡ true
    testing_end i h e t = t.rest ∙ ap (all p) (left_none l n i h e)

-- ---- rows by number
module _ (p : ℕ → Bool) (n : ℕ) where
  pub record Counting (i : ℕ) : Type 0 where
    pub rest : all_from p 0 n ≡ all_from p i (n - i)

  pub counting_start : Counting 0
  counting_start = let e : n ≡ n - 0 = omega arith in record { rest = ap (all_from p 0) e }

  module _ (i : ℕ) (k : i < n) (t : Counting i) where
    counted : all_from p 0 n ≡ p i && all_from p (i + 1) (n - (i + 1))
    counted =
        let e : n - i ≡ suc (n - (i + 1)) = omega arith in
        t.rest ∙ ap (all_from p i) e ∙ ap (λ (j : ℕ). p i && all_from p j (n - (i + 1))) (sym (add-one i))

    pub counting_turn : p i ≡ true → Counting (i + 1)
    counting_turn e = record { rest = counted ∙ and_true _ e }

    pub counting_fail : p i ≡ false → false ≡ all_from p 0 n
    counting_fail e = sym (counted ∙ and_false _ e)

  pub counting_end : (i : ℕ) → i ≡ n → Counting i → true ≡ all_from p 0 n
  counting_end i e t = let z : n - i ≡ 0 = omega arith in sym (t.rest ∙ ap (all_from p i) z)

pub range_same : (p q : ℕ → Bool) (k m : ℕ) → ((i : ℕ) → k ≤ i → i < k + m → p i ≡ q i) → all_from p k m ≡ all_from q k m
range_same p q k zero h = refl
range_same p q k (suc m) h = ap₂ ◌&&◌ (h k (omega arith) (omega arith)) (range_same p q (suc k) m (λ i u v. h i (omega arith) (omega arith)))

pub shifted : (p : ℕ → Bool) (i m : ℕ) → all_from p (suc i) m ≡ all_from (λ (j : ℕ). p (suc j)) i m
shifted p i zero = refl
shifted p i (suc m) = ap (λ (b : Bool). p (suc i) && b) (shifted p (suc i) m)

-- a test of the numbers in each row is a test of each element
module _ {A : Type 0} (q : ℕ → ℕ → ℕ → ℕ → Bool) (f g h k : A → ℕ) where
  pub all_rows_lem : (xs : List A)
      → all_from (λ (i : ℕ). q (get_or (map f xs) i 0) (get_or (map g xs) i 0) (get_or (map h xs) i 0) (get_or (map k xs) i 0)) 0 (length xs)
      ≡ all (λ (x : A). q (f x) (g x) (h x) (k x)) xs
  all_rows_lem [] = refl
  all_rows_lem (x ∷ xs) =
      ap (λ (b : Bool). q (f x) (g x) (h x) (k x) && b)
      (shifted (λ (i : ℕ). q (get_or (map f (x ∷ xs)) i 0) (get_or (map g (x ∷ xs)) i 0) (get_or (map h (x ∷ xs)) i 0) (get_or (map k (x ∷ xs)) i 0)) 0 (length xs)
      ∙ all_rows_lem xs)
