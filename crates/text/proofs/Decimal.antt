-- Decimal digits, and runs of stores one after the other. Assumes nothing.
use Prim.Native.Nat.{ℕ, zero, suc, ◌+◌, ◌/◌, ◌%◌, ◌^◌, ◌<◌, ◌≤◌}
use native.Mathlib.Omega.{arith}
use borrow.Author.Tests.{lt-ltb, le-ltb, ltb-false}
use mathlib.Core.Path.{◌≡◌, refl, sym, ap, ap₂, ◌∙◌}
use mathlib.Core.Bool.{Bool, true, false}
use mathlib.Core.List.{List, [], ◌∷◌, ◌++◌}
use lib.Dec.{ltb}
use lib.ListN.{length, set, length-append}
use lib.Seq.{sets}
use Rattle.complex.specs.Program.{digits, decimal}

-- ---- stores
pub sets_append : (l : List ℕ) (at : ℕ) (u v : List ℕ) → sets l at (u ++ v) ≡ sets (sets l at u) (at + length u) v
sets_append l at [] v = ap (λ (n : ℕ). sets l n v) (omega arith)
sets_append l at (a ∷ u) v = sets_append (set l at a) (suc at) u v ∙ ap (λ (n : ℕ). sets (sets (set l at a) (suc at) u) n v) (omega arith)

-- ---- digits
abbrev more : ℕ → ℕ → Bool → List ℕ
more k n b = elim b [
  | true ↦ (48 + n) ∷ []
  | false ↦ digits k (n / 10) ++ ((48 + n % 10) ∷ [])
]

-- as many digits as there are, whatever is allowed
enough : (j k n : ℕ) → n < j → n < k → digits j n ≡ digits k n
enough zero k n h g = absurd (omega arith)
enough (suc j) zero n h g = absurd (omega arith)
enough (suc j) (suc k) n h g = go (ltb n 10) refl (λ x y. enough j k (n / 10) x y)
  where
    go : (b : Bool) → ltb n 10 ≡ b → (n / 10 < j → n / 10 < k → digits j (n / 10) ≡ digits k (n / 10)) → more j n (ltb n 10) ≡ more k n (ltb n 10)
    go true e f = rw e
    go false e f = let l = ltb-false n 10 e in rw e (ap (λ (ds : List ℕ). ds ++ ((48 + n % 10) ∷ [])) (f (omega arith) (omega arith)))

pub decimal_last : (n : ℕ) → n < 10 → decimal n ≡ (48 + n) ∷ []
decimal_last n h = ap (more n n) (lt-ltb n 10 h)

pub decimal_more : (n : ℕ) → 10 ≤ n → decimal n ≡ decimal (n / 10) ++ ((48 + n % 10) ∷ [])
decimal_more n h = ap (more n n) (le-ltb n 10 h) ∙ ap (λ (ds : List ℕ). ds ++ ((48 + n % 10) ∷ []))
    (enough n (suc (n / 10)) (n / 10) (omega arith) (omega arith))

-- a number below a power of ten has so many digits at most
digits_few : (k j n : ℕ) → n < 10 ^ suc j → length (digits k n) ≤ suc j
digits_few zero j n h = omega arith
digits_few (suc k) j n h = go j (ltb n 10) refl h (λ i g. digits_few k i (n / 10) g)
  where
    go : (i : ℕ) (b : Bool) → ltb n 10 ≡ b → n < 10 ^ suc i → ((m : ℕ) → n / 10 < 10 ^ suc m → length (digits k (n / 10)) ≤ suc m)
        → length (more k n (ltb n 10)) ≤ suc i
    go i true e g f = rw e (omega arith)
    go zero false e g f = let l = ltb-false n 10 e in absurd (omega arith)
    go (suc i) false e g f = rw e (let d = f i (omega arith) in let a = length-append (digits k (n / 10)) ((48 + n % 10) ∷ []) in omega arith)

-- a u32 has ten at most
pub decimal_few : (n : ℕ) → n < 4294967296 → length (decimal n) ≤ 10
decimal_few n h = digits_few (suc n) 9 n (omega arith)

-- ---- one digit more
module _ (l : List ℕ) (at n : ℕ) where
  module _ (h : n < 10) where
    pub last_room : at + length (decimal n) ≤ length l → at < length l
    last_room g = let e = ap length (decimal_last n h) in omega arith

    pub last_put : (at + 1 ≡ at + length (decimal n)) × (set l at (48 + n) ≡ sets l at (decimal n))
    last_put = (ap (λ (ds : List ℕ). at + length ds) (sym (decimal_last n h)), ap (sets l at) (sym (decimal_last n h)))

  module _ (h : 10 ≤ n) where
    more_length : length (decimal n) ≡ length (decimal (n / 10)) + 1
    more_length = ap length (decimal_more n h) ∙ length-append (decimal (n / 10)) ((48 + n % 10) ∷ [])

    pub more_room : at + length (decimal n) ≤ length l → at + length (decimal (n / 10)) < length l
    more_room g = let e = more_length in omega arith

    pub more_put : (r : ℕ) (m : List ℕ) → r ≡ at + length (decimal (n / 10)) → m ≡ sets l at (decimal (n / 10))
        → (r + 1 ≡ at + length (decimal n)) × (set m r (48 + n % 10) ≡ sets l at (decimal n))
    more_put r m e f = (
      let g = more_length in omega arith,
      ap₂ (λ (x : List ℕ) (k : ℕ). set x k (48 + n % 10)) f e ∙ sym (sets_append l at (decimal (n / 10)) ((48 + n % 10) ∷ []))
          ∙ ap (sets l at) (sym (decimal_more n h)),
    )

-- a place within a list is within one as long
pub stays_within : {r a n m : ℕ} → r ≡ a → a < n → m ≡ n → r < m
stays_within e h k = omega arith
