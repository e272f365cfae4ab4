-- Sums over lists: joined, changed element by element, and with places set or taken out. Assumes nothing.
use Prim.Native.Nat.{ℕ, zero, suc, ◌+◌, ◌*◌, ◌≤◌, ◌<◌}
use native.Mathlib.Nat.{suc-mul}
use native.Mathlib.Omega.{arith}
use mathlib.Core.Path.{◌≡◌, refl, sym, ap, ◌∙◌}
use mathlib.Core.Bool.{Bool, true, false, not, ◌&&◌, ◌||◌, cond}
use mathlib.Core.List.{List, [], ◌∷◌, ◌++◌, map}
use lib.ListN.{length, get_or, take, drop, set, replicate, length-map, take-append-drop}
use lib.Seq.{get_or-set_other}
use lib.Dec.{T, eqb, ltb, leb, ltb→lt, lt→ltb, leb→le, le→leb}
use borrow.Author.Tests.{eq-eqb, ne_eqb, eqb-true, eqb-false}
use Rattle.complex.specs.Lists.{cons_if, total, holds, places, one, without, chosen}
use Rattle.complex.proofs.Bools.{both, pair}

module _ {A : Type 0} where
  pub total_append : (f : A → ℕ) (xs ys : List A) → total f (xs ++ ys) ≡ total f xs + total f ys
  total_append f [] ys = omega arith
  total_append f (x ∷ xs) ys = let h = total_append f xs ys in omega arith

  pub total_take : (f : A → ℕ) (n : ℕ) (xs : List A) → total f (take n xs) ≤ total f xs
  total_take f n xs = let h = total_append f (take n xs) (drop n xs) in let e = ap (total f) (take-append-drop n xs) in omega arith

  pub total_plus : (f g : A → ℕ) (xs : List A) → total (λ (x : A). f x + g x) xs ≡ total f xs + total g xs
  total_plus f g [] = refl
  total_plus f g (x ∷ xs) = let h = total_plus f g xs in omega arith

  pub total_zero : (xs : List A) → total (λ (x : A). 0) xs ≡ 0
  total_zero [] = refl
  total_zero (x ∷ xs) = let h = total_zero xs in omega arith

  pub total_ones : (xs : List A) → total (λ (x : A). 1) xs ≡ length xs
  total_ones [] = refl
  total_ones (x ∷ xs) = let h = total_ones xs in omega arith

  pub total_copies : (f : A → ℕ) (n : ℕ) (x : A) → total f (replicate n x) ≡ n * f x
  total_copies f zero x = omega arith
  total_copies f (suc n) x = let h = total_copies f n x in rw suc-mul (omega arith)

  pub total_set : (f : A → ℕ) (xs : List A) (n : ℕ) (y d : A) → n < length xs → total f (set xs n y) + f (get_or xs n d) ≡ total f xs + f y
  total_set f [] n y d l = absurd (omega arith)
  total_set f (x ∷ xs) zero y d l = omega arith
  total_set f (x ∷ xs) (suc n) y d l = let h = total_set f xs n y d (omega arith) in omega arith

-- each element changed, which takes d from its part of the sum and adds h to it
pub total_by : {A B : Type 0} (f : A → B) (g : B → ℕ) (k d h : A → ℕ) → ((x : A) → g (f x) + d x ≡ k x + h x) → (xs : List A)
    → total g (map f xs) + total d xs ≡ total k xs + total h xs
total_by f g k d h e [] = refl
total_by f g k d h e (x ∷ xs) = let a = e x in let b = total_by f g k d h e xs in omega arith

-- ---- places taken out of a list
-- a place that is named at most once
named_once : (n y lo : ℕ) (ms : List ℕ) (hi : ℕ) → T (places lo ms hi)
    → (total (λ (m : ℕ). cond (eqb n m) y 0) ms ≡ cond (holds n ms) y 0) × (n < lo → holds n ms ≡ false)
named_once n y lo [] hi t = (refl, λ l. refl)
named_once n y lo (m ∷ ms) hi t =
    let b = both (leb lo m) (ltb m hi && places (suc m) ms hi) t in
    let c = both (ltb m hi) (places (suc m) ms hi) b.1 in
    let l = leb→le lo m b.0 in
    go (eqb n m) refl l (named_once n y (suc m) ms hi c.1)
  where
    go : (x : Bool) → eqb n m ≡ x → lo ≤ m → (total (λ (k : ℕ). cond (eqb n k) y 0) ms ≡ cond (holds n ms) y 0) × (n < suc m → holds n ms ≡ false)
        → (cond x y 0 + total (λ (k : ℕ). cond (eqb n k) y 0) ms ≡ cond (x || holds n ms) y 0) × (n < lo → (x || holds n ms) ≡ false)
    go true q l r =
        let e = eqb-true n m q in
        let z : total (λ (k : ℕ). cond (eqb n k) y 0) ms ≡ 0 = r.0 ∙ rw (r.1 (omega arith)) in
        (omega arith, λ k. absurd (omega arith))
    go false q l r = let z = r.0 in (omega arith, λ k. r.1 (omega arith))

one_place : (n hi : ℕ) → n < hi → T (places 0 (one n) hi)
one_place n hi l = pair (leb 0 n) (ltb n hi && true) (le→leb 0 n (omega arith)) (pair (ltb n hi) true (lt→ltb n hi l) tt)

module _ {A : Type 0} (f : A → ℕ) where
  -- f of the element at place m, counted from n; 0 where there is none
  part_at : ℕ → List A → ℕ → ℕ
  part_at n [] m = 0
  part_at n (x ∷ xs) m = cond (eqb n m) (f x) 0 + part_at (suc n) xs m

  total_without : (lo : ℕ) (ms : List ℕ) (hi : ℕ) → T (places lo ms hi) → (n : ℕ) (xs : List A)
      → total f (without ms n xs) + total (part_at n xs) ms ≡ total f xs
  unfolding part_at
  total_without lo ms hi t n [] = let z = total_zero ms in omega arith
  total_without lo ms hi t n (x ∷ xs) =
      let a = total_plus (λ (m : ℕ). cond (eqb n m) (f x) 0) (part_at (suc n) xs) ms in
      let b = (named_once n (f x) lo ms hi t).0 in
      go (holds n ms) a b (total_without lo ms hi t (suc n) xs)
    where
      go : (y : Bool) → total (part_at n (x ∷ xs)) ms ≡ total (λ (m : ℕ). cond (eqb n m) (f x) 0) ms + total (part_at (suc n) xs) ms
          → total (λ (m : ℕ). cond (eqb n m) (f x) 0) ms ≡ cond y (f x) 0
          → total f (without ms (suc n) xs) + total (part_at (suc n) xs) ms ≡ total f xs
          → total f (cons_if (not y) x (without ms (suc n) xs)) + total (part_at n (x ∷ xs)) ms ≡ f x + total f xs
      go true a b h = omega arith
      go false a b h = omega arith

  at_none : (n : ℕ) (xs : List A) (m : ℕ) → m < n → part_at n xs m ≡ 0
  unfolding part_at
  at_none n [] m l = refl
  at_none n (x ∷ xs) m l = rw (ne_eqb n m (λ e. omega arith)) (let h = at_none (suc n) xs m (omega arith) in omega arith)

  at_place : (n : ℕ) (xs : List A) (j : ℕ) (d : A) → j < length xs → part_at n xs (n + j) ≡ f (get_or xs j d)
  unfolding part_at
  at_place n [] j d l = absurd (omega arith)
  at_place n (x ∷ xs) zero d l = rw (eq-eqb n (n + 0) (omega arith)) (let h = at_none (suc n) xs (n + 0) (omega arith) in omega arith)
  at_place n (x ∷ xs) (suc j) d l =
      let h = at_place (suc n) xs j d (omega arith) in
      let z : n + suc j ≡ suc n + j = omega arith in
      rw (ne_eqb n (n + suc j) (λ e. omega arith), z) (omega arith)

  at_chosen : (d : A) (lo : ℕ) (ms : List ℕ) (xs : List A) → T (places lo ms (length xs)) → total (part_at 0 xs) ms ≡ total f (chosen d ms xs)
  at_chosen d lo [] xs t = refl
  at_chosen d lo (m ∷ ms) xs t =
      let b = both (leb lo m) (ltb m (length xs) && places (suc m) ms (length xs)) t in
      let c = both (ltb m (length xs)) (places (suc m) ms (length xs)) b.1 in
      let h = at_chosen d (suc m) ms xs c.1 in
      let e = at_place 0 xs m d (ltb→lt m (length xs) c.0) in
      let z : part_at 0 xs m ≡ part_at 0 xs (0 + m) = ap (part_at 0 xs) (omega arith) in
      omega arith

  -- what is left and what was chosen
  pub total_left : (d : A) (ms : List ℕ) (xs : List A) → T (places 0 ms (length xs)) → total f (without ms 0 xs) + total f (chosen d ms xs) ≡ total f xs
  total_left d ms xs t = let a = total_without 0 ms (length xs) t 0 xs in let b = at_chosen d 0 ms xs t in omega arith

  pub total_but_one : (d : A) (n : ℕ) (xs : List A) → n < length xs → total f (without (one n) 0 xs) + f (get_or xs n d) ≡ total f xs
  total_but_one d n xs l = let h = total_left d (one n) xs (one_place n (length xs) l) in omega arith

module _ {A : Type 0} where
  pub length_left : (d : A) (ms : List ℕ) (xs : List A) → T (places 0 ms (length xs)) → length (without ms 0 xs) + length ms ≡ length xs
  length_left d ms xs t =
      let h = total_left (λ (x : A). 1) d ms xs t in
      let a = total_ones (without ms 0 xs) in
      let b = total_ones (chosen d ms xs) in
      let c = total_ones xs in
      let e : length (chosen d ms xs) ≡ length ms = length-map ms _ in
      omega arith

  pub length_but_one : (d : A) (n : ℕ) (xs : List A) → n < length xs → length (without (one n) 0 xs) + 1 ≡ length xs
  length_but_one d n xs l = length_left d (one n) xs (one_place n (length xs) l)

  -- a place that is not chosen may be set
  pub chosen_set : (d : A) (ms : List ℕ) (xs : List A) (c : ℕ) (y : A) → T (not (holds c ms)) → chosen d ms (set xs c y) ≡ chosen d ms xs
  chosen_set d [] xs c y t = refl
  chosen_set d (m ∷ ms) xs c y t = go (eqb c m) refl t (λ u. chosen_set d ms xs c y u)
    where
      go : (b : Bool) → eqb c m ≡ b → T (not (b || holds c ms)) → (T (not (holds c ms)) → chosen d ms (set xs c y) ≡ chosen d ms xs)
          → chosen d (m ∷ ms) (set xs c y) ≡ chosen d (m ∷ ms) xs
      go true q u k = absurd u
      go false q u k = λ i. get_or-set_other xs c m y d (λ e. eqb-false c m q (sym e)) i ∷ k u i
