-- Questions in turn, up to the first no. Assumes nothing.
use Prim.Native.Nat.{ℕ, suc}
use native.Mathlib.Omega.{arith}
use mathlib.Core.Path.{◌≡◌, refl}
use mathlib.Core.Bool.{Bool, true, false, not, cond}
use mathlib.Core.List.{List, [], ◌∷◌}
use lib.Dec.{T, eqb}
use Rattle.complex.specs.Lists.{all}
use Rattle.complex.specs.Answer.{Question, first_no}
use Rattle.complex.proofs.Bools.{truth, both, false_not, not_of, equal}

-- n is the first no: each question before it gets a yes
pub data FirstNo : List Question → ℕ → Type 0 where
  none : FirstNo [] 0
  here : (q : Question) (qs : List Question) → q.yes ≡ false → FirstNo (q ∷ qs) q.number
  later : (q : Question) (qs : List Question) (n : ℕ) → q.yes ≡ true → FirstNo qs n → FirstNo (q ∷ qs) n

pub first_no_lem : (qs : List Question) (n : ℕ) → FirstNo qs n → first_no qs ≡ n
first_no_lem _ _ none = refl
first_no_lem _ _ (here q qs e) = rw e
first_no_lem _ _ (later q qs n e f) = rw e (first_no_lem qs n f)

pub no_first : (qs : List Question) → FirstNo qs (first_no qs)
no_first [] = none
no_first (q ∷ qs) = go q.yes refl (no_first qs)
  where
    go : (y : Bool) → q.yes ≡ y → FirstNo qs (first_no qs) → FirstNo (q ∷ qs) (cond y (first_no qs) q.number)
    go true e f = later q qs (first_no qs) e f
    go false e f = here q qs e

-- a number that no question has is not the first no
pub among : (qs : List Question) (n m : ℕ) → FirstNo qs n → T (all (λ (q : Question). not (eqb q.number (suc m))) qs) → n ≡ suc m → ⊥
among _ _ m none t e = omega arith
among _ _ m (here q qs y) t e = false_not (not_of (eqb q.number (suc m)) (both (not (eqb q.number (suc m))) _ t).0) (equal e)
among _ _ m (later q qs n y f) t e = among qs n m f (both (not (eqb q.number (suc m))) _ t).1 e

-- ---- no no
abbrev pub Yes : List Question → Type 0
Yes [] = Unit {0}
Yes (q ∷ qs) = T q.yes × Yes qs

-- 0 is no question's number, so it says that each got a yes
pub all_yes : (qs : List Question) (n : ℕ) → FirstNo qs n → T (all (λ (q : Question). not (eqb q.number 0)) qs) → n ≡ 0 → Yes qs
all_yes _ _ none t e = tt
all_yes _ _ (here q qs y) t e = absurd (false_not (not_of (eqb q.number 0) (both (not (eqb q.number 0)) _ t).0) (equal e))
all_yes _ _ (later q qs n y f) t e = (truth y, all_yes qs n f (both (not (eqb q.number 0)) _ t).1 e)
