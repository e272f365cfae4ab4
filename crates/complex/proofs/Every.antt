-- What holds of every element of a list. Assumes nothing.
use Prim.Native.Nat.{ℕ, zero, suc, ◌<◌}
use native.Mathlib.Omega.{arith}
use mathlib.Core.Path.{◌≡◌, refl, sym, ap, subst}
use mathlib.Core.Logic.{inl, inr}
use mathlib.Core.Bool.{Bool, true, false}
use mathlib.Core.List.Memᴰ
use mathlib.Core.List.{List, [], ◌∷◌, ◌++◌, map, Memᴰ}
use lib.ListN.{length, get_or}
use lib.Dec.{T, eqb, eqb→eq, eqb_refl}
use Rattle.number.specs.Readers.{spread}
use Rattle.complex.specs.Lists.{all, filter, cons_if, holds}
use Rattle.complex.proofs.Bools.{both, cases, or_left, or_right}

module _ {A : Type 0} (Q : A → Type 0) where
  abbrev pub Every : List A → Type 0
  Every [] = Unit {0}
  Every (x ∷ xs) = Q x × Every xs

  pub every_left : (xs ys : List A) → Every (xs ++ ys) → Every xs
  every_left [] ys e = tt
  every_left (x ∷ xs) ys e = (e.0, every_left xs ys e.1)

  pub every_right : (xs ys : List A) → Every (xs ++ ys) → Every ys
  every_right [] ys e = e
  every_right (x ∷ xs) ys e = every_right xs ys e.1

  pub every_both : (xs ys : List A) → Every xs → Every ys → Every (xs ++ ys)
  every_both [] ys a b = b
  every_both (x ∷ xs) ys a b = (a.0, every_both xs ys a.1 b)

  pub every_at : (xs : List A) {x : A} → Every xs → Memᴰ x xs → Q x
  every_at [] e m = absurd (Memᴰ.not-nil m)
  every_at (y ∷ ys) e m = elim (Memᴰ.cases_cons m) [
    | inl z ↦ subst Q (sym z) e.0
    | inr n ↦ every_at ys e.1 n
  ]

  pub every_of : (xs : List A) → ((x : A) → Memᴰ x xs → Q x) → Every xs
  every_of [] h = tt
  every_of (x ∷ xs) h = (h x (Memᴰ.head refl), every_of xs (λ y m. h y (Memᴰ.tail m)))

  pub every_place : (xs : List A) (i : ℕ) (z : A) → Every xs → i < length xs → Q (get_or xs i z)
  every_place [] i z e h = absurd (omega arith)
  every_place (x ∷ xs) zero z e h = e.0
  every_place (x ∷ xs) (suc i) z e h = every_place xs i z e.1 (omega arith)

  pub every_filter : (p : A → Bool) (xs : List A) → Every xs → Every (filter p xs)
  every_filter p [] e = tt
  every_filter p (x ∷ xs) e = go (p x) (every_filter p xs e.1)
    where
      go : (b : Bool) → Every (filter p xs) → Every (cons_if b x (filter p xs))
      go true r = (e.0, r)
      go false r = r

pub every_more : {A : Type 0} (P Q : A → Type 0) → ((x : A) → P x → Q x) → (xs : List A) → Every P xs → Every Q xs
every_more P Q f [] e = tt
every_more P Q f (x ∷ xs) e = (f x e.0, every_more P Q f xs e.1)

-- what holds of every number that the list holds
module _ (Q : ℕ → Type 0) where
  pub every_holds : (ns : List ℕ) → ((n : ℕ) → T (holds n ns) → Q n) → Every Q ns
  every_holds [] h = tt
  every_holds (n ∷ ns) h =
      (h n (or_left (eqb n n) (holds n ns) (eqb_refl n)), every_holds ns (λ m t. h m (or_right (eqb m n) (holds m ns) t)))

  pub holds_every : (ns : List ℕ) (n : ℕ) → Every Q ns → T (holds n ns) → Q n
  holds_every [] n e t = absurd t
  holds_every (m ∷ ns) n e t = elim (cases (eqb n m) (holds n ns) t) [
    | inl a ↦ subst Q (sym (eqb→eq n m a)) e.0
    | inr b ↦ holds_every ns n e.1 b
  ]

pub holds_member : (ns : List ℕ) (n : ℕ) → T (holds n ns) → Memᴰ n ns
holds_member ns n t = holds_every (λ (m : ℕ). Memᴰ m ns) ns n (every_of (λ (m : ℕ). Memᴰ m ns) ns (λ m k. k)) t

module _ {A : Type 0} (p : A → Bool) where
  -- a test that holds of all
  pub every_all : (xs : List A) → T (all p xs) → Every (λ (x : A). T (p x)) xs
  every_all [] t = tt
  every_all (x ∷ xs) t = let b = both (p x) (all p xs) t in (b.0, every_all xs b.1)

  pub filter_append : (xs ys : List A) → filter p (xs ++ ys) ≡ filter p xs ++ filter p ys
  filter_append [] ys = refl
  filter_append (x ∷ xs) ys = go (p x) (filter_append xs ys)
    where
      go : (b : Bool) → filter p (xs ++ ys) ≡ filter p xs ++ filter p ys → cons_if b x (filter p (xs ++ ys)) ≡ cons_if b x (filter p xs) ++ filter p ys
      go true h = ap (λ (l : List A). x ∷ l) h
      go false h = h

-- ---- elements made of others
module _ {A B : Type 0} where
  pub member_map : (f : A → B) {x : A} (xs : List A) → Memᴰ x xs → Memᴰ (f x) (map f xs)
  member_map f [] m = absurd (Memᴰ.not-nil m)
  member_map f (y ∷ ys) m = elim (Memᴰ.cases_cons m) [
    | inl z ↦ Memᴰ.head (ap f z)
    | inr n ↦ Memᴰ.tail (member_map f ys n)
  ]

  pub member_spread : (f : A → List B) {x : A} {y : B} (xs : List A) → Memᴰ x xs → Memᴰ y (f x) → Memᴰ y (spread f xs)
  member_spread f [] m n = absurd (Memᴰ.not-nil m)
  member_spread f {y = y} (z ∷ zs) m n = elim (Memᴰ.cases_cons m) [
    | inl e ↦ Memᴰ.append_left (spread f zs) (subst (λ (w : A). Memᴰ y (f w)) e n)
    | inr k ↦ Memᴰ.append_right (f z) (member_spread f zs k n)
  ]

  pub every_map : (Q : B → Type 0) (f : A → B) (xs : List A) → Every (λ (x : A). Q (f x)) xs → Every Q (map f xs)
  every_map Q f [] e = tt
  every_map Q f (x ∷ xs) e = (e.0, every_map Q f xs e.1)

  pub every_spread : (Q : B → Type 0) (f : A → List B) (xs : List A) → Every (λ (x : A). Every Q (f x)) xs → Every Q (spread f xs)
  every_spread Q f [] e = tt
  every_spread Q f (x ∷ xs) e = every_both Q (f x) (spread f xs) e.0 (every_spread Q f xs e.1)

  pub of_map : (Q : B → Type 0) (f : A → B) (xs : List A) → Every Q (map f xs) → Every (λ (x : A). Q (f x)) xs
  of_map Q f [] e = tt
  of_map Q f (x ∷ xs) e = (e.0, of_map Q f xs e.1)

  pub of_spread : (Q : B → Type 0) (f : A → List B) (xs : List A) → Every Q (spread f xs) → Every (λ (x : A). Every Q (f x)) xs
  of_spread Q f [] e = tt
  of_spread Q f (x ∷ xs) e = (every_left Q (f x) (spread f xs) e, of_spread Q f xs (every_right Q (f x) (spread f xs) e))
