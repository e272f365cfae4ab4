-- Numbers and their bytes, low byte first. Assumes nothing.
use mathlib.Core.Path.{◌≡◌, refl, sym, ap, ◌∙◌, subst}
use mathlib.Core.List.{List, [], ◌∷◌, ◌++◌}
use Prim.Native.Nat.{ℕ, zero, suc, ◌+◌, ◌-◌, ◌*◌, ◌/◌, ◌%◌, ◌^◌, ◌≤◌, ◌<◌}
use native.Mathlib.Nat.{add-zero, add-suc, suc-add, pow-suc, one-le-pow, pow-le-pow_right, div-lt_iff_lt-mul, lt_of_lt_of_le, le_of_suc-le-suc, not-suc-le-zero}
use native.Mathlib.Omega.{arith}
use lib.Dec.{T, ltb, ltb→lt, lt→ltb, lit<}
use lib.Pow.{are_bytes}
use lib.ListN.{length, get_or, set, take, drop}
use lib.Seq.{sets, drop-cons}
use lib.Ieee.Fits.{and_i, and_l, and_r}
use Rattle.number.proofs.Bytes.{Bytes}
use Rattle.coordinate.specs.Positions.{value_of, bytes_of}

-- ---- bytes, as a test of each
pub bytes_test : (s : List ℕ) → Bytes s → T (are_bytes s)
bytes_test [] B = tt
bytes_test (b ∷ s) B = and_i (ltb b 256) (are_bytes s) (lt→ltb b 256 (B 0)) (bytes_test s (λ k. B (suc k)))

pub test_bytes : (s : List ℕ) → T (are_bytes s) → Bytes s
test_bytes [] t k = lit< tt
test_bytes (b ∷ s) t zero = ltb→lt b 256 (and_l (ltb b 256) (are_bytes s) t)
test_bytes (b ∷ s) t (suc k) = test_bytes s (and_r (ltb b 256) (are_bytes s) t) k

-- ---- a number is the value of its bytes, and bytes are those of their value
pub value_bytes : (k n : ℕ) → n < 256 ^ k → value_of (bytes_of k n) ≡ n
value_bytes zero n h = omega arith
value_bytes (suc k) n h =
    let r = value_bytes k (n / 256) ((div-lt_iff_lt-mul (lit< tt)).1 (subst (λ (z : ℕ). n < z) (pow-suc 256 k) h)) in
    omega arith

pub value_lt : (k : ℕ) (s : List ℕ) → Bytes s → value_of (take k s) < 256 ^ k
value_lt zero s B = lit< tt
value_lt (suc k) [] B = one-le-pow (suc k) 256 (lit< tt)
value_lt (suc k) (b ∷ s) B =
    let h : b < 256 = B 0 in
    let r = value_lt k s (λ i. B (suc i)) in
    let e : 256 ^ suc k ≡ 256 ^ k * 256 = pow-suc 256 k in
    omega arith

pub bytes_value : (k : ℕ) (s : List ℕ) → k ≤ length s → Bytes s → bytes_of k (value_of (take k s)) ≡ take k s
bytes_value zero s h B = refl
bytes_value (suc k) [] h B = absurd (not-suc-le-zero h)
bytes_value (suc k) (b ∷ s) h B =
    let l : b < 256 = B 0 in
    let v = value_of (take k s) in
    let m : (b + 256 * v) % 256 ≡ b = omega arith in
    let d : (b + 256 * v) / 256 ≡ v = omega arith in
    let r = bytes_value k s (le_of_suc-le-suc h) (λ i. B (suc i)) in
    λ i. m i ∷ (ap (λ (z : ℕ). bytes_of k z) d ∙ r) i

-- ---- a loop that reads: the byte before at + k, below those from there on
take_cons : (s : List ℕ) (i j : ℕ) → i < length s → take (suc j) (drop i s) ≡ get_or s i 0 ∷ take j (drop (suc i) s)
take_cons s i j h = ap (take (suc j)) (drop-cons s i 0 h)

module _ (k : ℕ) (some : 0 < k) (most : k ≤ 8) where
  pub value_more : (s : List ℕ) (at : ℕ) → at + 8 ≤ length s
      → get_or s (at + (k - 1)) 0 + 256 * value_of (take (8 - k) (drop (at + k) s)) ≡ value_of (take (8 - (k - 1)) (drop (at + (k - 1)) s))
  value_more s at long =
      let i : at + k ≡ suc (at + (k - 1)) = omega arith in
      let j : suc (8 - k) ≡ 8 - (k - 1) = omega arith in
      ap (λ (z : ℕ). get_or s (at + (k - 1)) 0 + 256 * value_of (take (8 - k) (drop z s))) i
      ∙ sym (ap value_of (take_cons s (at + (k - 1)) (8 - k) (omega arith)))
      ∙ ap (λ (z : ℕ). value_of (take z (drop (at + (k - 1)) s))) j

  -- a number of 8 - k bytes has seven at most, and one more with another byte
  pub seven_bytes : (n : ℕ) → n < 256 ^ (8 - k) → n < 256 ^ 7
  seven_bytes n h = let l : 8 - k ≤ 7 = omega arith in lt_of_lt_of_le h (pow-le-pow_right (lit< tt) l)

  pub byte_more : (b n : ℕ) → b < 256 → n < 256 ^ (8 - k) → b + 256 * n < 256 ^ (8 - (k - 1))
  byte_more b n l h =
      let j : 8 - (k - 1) ≡ suc (8 - k) = omega arith in
      let e : 256 ^ (8 - (k - 1)) ≡ 256 ^ (8 - k) * 256 = ap (λ (z : ℕ). 256 ^ z) j ∙ pow-suc 256 (8 - k) in
      omega arith

-- ---- a loop that stores: the low byte of the rest at at + k
pub store_more : (out : List ℕ) (at k n : ℕ) → k < 8 → sets (set out (at + k) (n % 256)) (at + (k + 1)) (bytes_of (8 - (k + 1)) (n / 256))
    ≡ sets out (at + k) (bytes_of (8 - k) n)
store_more out at k n h =
    let i : at + (k + 1) ≡ suc (at + k) = omega arith in
    let j : suc (8 - (k + 1)) ≡ 8 - k = omega arith in
    ap (λ (z : ℕ). sets (set out (at + k) (n % 256)) z (bytes_of (8 - (k + 1)) (n / 256))) i
    ∙ ap (λ (z : ℕ). sets out (at + k) (bytes_of z n)) j

-- one run of stores after another
pub sets_append : (l : List ℕ) (i : ℕ) (v w : List ℕ) → sets (sets l i v) (i + length v) w ≡ sets l i (v ++ w)
sets_append l i [] w = ap (λ (z : ℕ). sets l z w) (add-zero i)
sets_append l i (a ∷ v) w =
    ap (λ (z : ℕ). sets (sets (set l i a) (suc i) v) z w) (add-suc i (length v) ∙ sym (suc-add i (length v)))
    ∙ sets_append (set l i a) (suc i) v w
