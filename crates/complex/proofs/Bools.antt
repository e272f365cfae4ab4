-- Tests and their truth. Assumes nothing.
use Prim.Native.Nat.{ℕ, suc, ◌≤◌, ◌<◌}
use mathlib.Core.Path.{◌≡◌, refl, sym, ap, ◌∙◌, subst}
use mathlib.Core.Logic.{◌⊎◌, inl, inr}
use mathlib.Core.Bool.{Bool, true, false, not, ◌&&◌, ◌||◌, cond, true≢false, false≢true}
use mathlib.Core.List.{List, [], ◌∷◌, ◌++◌, map}
use lib.Dec.{T, eqb, eqb→eq, eqb_refl}
use borrow.Author.Tests.{eq-eqb, ne_eqb, eqb-true, eqb-false}
use Rattle.number.specs.Readers.{spread}
use Rattle.complex.specs.Lists.{all, any, cons_if, filter}

pub truth : {b : Bool} → b ≡ true → T b
truth e = subst T (sym e) tt

pub true_of : (b : Bool) → T b → b ≡ true
true_of true t = refl
true_of false t = absurd t

pub either : (b : Bool) → (b ≡ true) ⊎ (b ≡ false)
either true = inl refl
either false = inr refl

pub false_not : {b : Bool} → b ≡ false → T b → ⊥
false_not e t = subst T e t

pub not_of : (b : Bool) → T (not b) → b ≡ false
not_of true t = absurd t
not_of false t = refl

-- both parts of a conjunction
pub both : (a b : Bool) → T (a && b) → T a × T b
both true b t = (tt, t)
both false b t = absurd t

pub both_true : (a b : Bool) → (a && b) ≡ true → (a ≡ true) × (b ≡ true)
both_true true b e = (refl, e)
both_true false b e = absurd (false≢true e)

pub or_none : (b : Bool) → b || false ≡ b
or_none true = refl
or_none false = refl

pub or_assoc : (a b c : Bool) → a || (b || c) ≡ (a || b) || c
or_assoc true b c = refl
or_assoc false b c = refl

pub pair : (a b : Bool) → T a → T b → T (a && b)
pair true b t u = u
pair false b t u = t

pub cases : (a b : Bool) → T (a || b) → T a ⊎ T b
cases true b t = inl tt
cases false b t = inr t

pub or_left : (a b : Bool) → T a → T (a || b)
or_left true b t = tt
or_left false b t = absurd t

pub or_right : (a b : Bool) → T b → T (a || b)
or_right true b t = tt
or_right false b t = t

pub equal : {m n : ℕ} → m ≡ n → T (eqb m n)
equal {m} e = subst (λ (k : ℕ). T (eqb m k)) e (eqb_refl m)

module _ {A : Type 0} where
  pub all_append : (p : A → Bool) (xs ys : List A) → T (all p xs) → T (all p ys) → T (all p (xs ++ ys))
  all_append p [] ys t u = u
  all_append p (x ∷ xs) ys t u = let b = both (p x) (all p xs) t in pair (p x) (all p (xs ++ ys)) b.0 (all_append p xs ys b.1 u)

  pub all_more : (p q : A → Bool) → ((x : A) → T (p x) → T (q x)) → (xs : List A) → T (all p xs) → T (all q xs)
  all_more p q h [] t = tt
  all_more p q h (x ∷ xs) t = let b = both (p x) (all p xs) t in pair (q x) (all q xs) (h x b.0) (all_more p q h xs b.1)

module _ {A B : Type 0} where
  pub all_map : (p : A → Bool) (q : B → Bool) (f : A → B) → ((x : A) → T (p x) → T (q (f x))) → (xs : List A) → T (all p xs) → T (all q (map f xs))
  all_map p q f h [] t = tt
  all_map p q f h (x ∷ xs) t = let b = both (p x) (all p xs) t in pair (q (f x)) (all q (map f xs)) (h x b.0) (all_map p q f h xs b.1)
