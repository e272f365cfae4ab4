-- A number is read back from its spelling, no other bytes are read as it, and where reading starts and ends. Assumes nothing.
use mathlib.Core.Path.{◌≡◌, refl, sym, ap, ◌∙◌, subst}
use mathlib.Core.Logic.{◌⊎◌, inl, inr, ⊎_elim}
use mathlib.Core.List.{List, [], ◌∷◌, ◌++◌}
use mathlib.Core.Bool.{Bool, true, false}
use Prim.Native.Nat.{ℕ, zero, suc, ◌+◌, ◌-◌, ◌*◌, ◌/◌, ◌%◌, ◌^◌, ◌≤◌, ◌<◌}
use native.Mathlib.Nat.{pow-suc, one-le-pow, div-lt_iff_lt-mul}
use native.Mathlib.Omega.{arith}
use borrow.Author.Tests.{ltb-true, ltb-false, lt-ltb, le-ltb, ne_eqb}
use lib.Dec.{ltb, lit<}
use lib.ListN.{length, drop, length-drop}
use lib.Seq.{drop-drop}
use Rattle.number.specs.Said.{Said, done, no, found_or, placed_or}
use Rattle.number.specs.Readers.{Read, got, bad, and_then}
use Rattle.number.specs.Numbers.{number_bytes, numbers_end, more, read_number, spelled, spell, number_at}
use Rattle.number.proofs.Bytes.{Bytes, bytes_tail}

-- ---- what a reader found
pub not_bad : {A : Type 0} (x : A) (t : List ℕ) → bad ≡ got x t → ⊥
not_bad x t e = let z : ◌≡◌ {A = ℕ} 0 1 = cc in omega arith

pub got_thing : {A : Type 0} (x y : A) (s t : List ℕ) → got x s ≡ got y t → x ≡ y
got_thing x y s t e = cc

pub got_rest : {A : Type 0} (x y : A) (s t : List ℕ) → got x s ≡ got y t → s ≡ t
got_rest x y s t e = cc

-- ---- what is said of it
pub not_done : {A : Type 0} (q : ℕ) (x : A) → no q ≡ done x → ⊥
not_done q x e = let z : ◌≡◌ {A = ℕ} 0 1 = cc in omega arith

pub done_one : {A : Type 0} (x y : A) → done x ≡ done y → x ≡ y
done_one x y e = cc

pub done_two : {A B : Type 0} (x y : A) (u v : B) → ◌≡◌ {A = Said (A × B)} (done (x, u)) (done (y, v)) → (x ≡ y) × (u ≡ v)
done_two x y u v e = let p = done_one (x, u) (y, v) e in (ap (λ z. z.0) p, ap (λ z. z.1) p)

pub found_got : {A : Type 0} (q : ℕ) (r : Read A) (x : A) (t : List ℕ) → found_or q r ≡ done (x, t) → r ≡ got x t
found_got q (got y u) x t e = let p = done_two y x u t e in λ i. got (p.0 i) (p.1 i)
found_got q bad x t e = absurd (not_done q (x, t) e)

pub found_bad : {A : Type 0} (q : ℕ) (r : Read A) → found_or q r ≡ no q → r ≡ bad
found_bad q (got y u) e = absurd (not_done q (y, u) (sym e))
found_bad q bad e = refl

-- ---- orders, and powers of 128
pub lt_or_le : (a b : ℕ) → (a < b) ⊎ (b ≤ a)
lt_or_le a b = go (ltb a b) refl
  where
    go : (x : Bool) → ltb a b ≡ x → (a < b) ⊎ (b ≤ a)
    go true e = inl (ltb-true a b e)
    go false e = inr (ltb-false a b e)

below_suc : (k n : ℕ) → n < 128 → n < 128 ^ suc k
below_suc k n h =
    let e : 128 ^ suc k ≡ 128 ^ k * 128 = pow-suc 128 k in
    let p : 1 ≤ 128 ^ k = one-le-pow k 128 (lit< tt) in
    omega arith

above_suc : (k b n : ℕ) → b < 256 → n < 128 ^ k → b - 128 + 128 * n < 128 ^ suc k
above_suc k b n h l =
    let e : 128 ^ suc k ≡ 128 ^ k * 128 = pow-suc 128 k in
    omega arith

rest_below : (k n : ℕ) → n < 128 ^ suc k → n / 128 < 128 ^ k
rest_below k n h = (div-lt_iff_lt-mul (lit< tt)).1 (subst (λ (z : ℕ). n < z) (pow-suc 128 k) h)

-- ---- the first byte
-- a byte and what the bytes after it are read as
abbrev pub joined : ℕ → Read ℕ → Read ℕ
joined b r = and_then r λ n t. got (b - 128 + 128 * n) t

joined_low : (n : ℕ) → n % 128 + 128 - 128 + 128 * (n / 128) ≡ n
joined_low n = omega arith

pub more_last : (k b : ℕ) (s : List ℕ) → b < 128 → (b ≡ 0 → ⊥) → more (suc k) (b ∷ s) ≡ got b s
more_last k b s h z = rw (lt-ltb b 128 h, ne_eqb b 0 z, more)

pub more_next : (k b : ℕ) (s : List ℕ) → 128 ≤ b → more (suc k) (b ∷ s) ≡ joined b (more k s)
more_next k b s h = rw (le-ltb b 128 h, more)

pub read_last : (b : ℕ) (s : List ℕ) → b < 128 → read_number (b ∷ s) ≡ got b s
read_last b s h = rw (lt-ltb b 128 h, read_number)

pub read_next : (b : ℕ) (s : List ℕ) → 128 ≤ b → read_number (b ∷ s) ≡ joined b (more (number_bytes - 1) s)
read_next b s h = rw (le-ltb b 128 h, read_number)

-- ---- the first byte of a spelling
pub spelled_last : (k n : ℕ) → n < 128 → spelled (suc k) n ≡ n ∷ []
spelled_last k n h = rw (lt-ltb n 128 h, spelled)

pub spelled_next : (k n : ℕ) → 128 ≤ n → spelled (suc k) n ≡ (n % 128 + 128) ∷ spelled k (n / 128)
spelled_next k n h = rw (le-ltb n 128 h, spelled)

-- ---- what was read, by its first byte
pub record Last (b : ℕ) (s t : List ℕ) (n : ℕ) : Type 0 where
  pub small : b < 128
  pub value : n ≡ b
  pub rest : t ≡ s

pub record Next (b : ℕ) (r : Read ℕ) (t : List ℕ) (n : ℕ) : Type 0 where
  pub big : 128 ≤ b
  pub above : ℕ
  pub read : r ≡ got above t
  pub value : n ≡ b - 128 + 128 * above

next_of : (b : ℕ) (r : Read ℕ) (t : List ℕ) (n : ℕ) → 128 ≤ b → joined b r ≡ got n t → Next b r t n
next_of b (got m u) t n h e = record { big = h; above = m; read = ap (got m) (got_rest _ n u t e); value = sym (got_thing (b - 128 + 128 * m) n u t e) }
next_of b bad t n h e = absurd (not_bad n t e)

read_cases : (b : ℕ) (s t : List ℕ) (n : ℕ) → read_number (b ∷ s) ≡ got n t → Last b s t n ⊎ Next b (more (number_bytes - 1) s) t n
read_cases b s t n e =
    ⊎_elim
    (λ h. let q : got b s ≡ got n t = sym (read_last b s h) ∙ e in
    inl (record { small = h; value = sym (got_thing b n s t q); rest = sym (got_rest b n s t q) }))
    (λ h. inr (next_of b (more (number_bytes - 1) s) t n h (sym (read_next b s h) ∙ e)))
    (lt_or_le b 128)

more_cases : (k b : ℕ) (s t : List ℕ) (n : ℕ) → more (suc k) (b ∷ s) ≡ got n t → ((0 < b) × Last b s t n) ⊎ Next b (more k s) t n
more_cases k zero s t n e = absurd (not_bad n t e)
more_cases k (suc a) s t n e =
    let b = suc a in
    ⊎_elim
    (λ h. let q : got b s ≡ got n t = sym (more_last k b s h (λ z. omega arith)) ∙ e in
    inl (omega arith, record { small = h; value = sym (got_thing b n s t q); rest = sym (got_rest b n s t q) }))
    (λ h. inr (next_of b (more k s) t n h (sym (more_next k b s h) ∙ e)))
    (lt_or_le b 128)

-- ---- reading what was spelled
more_spelled : (k n : ℕ) (t : List ℕ) → 0 < n → n < 128 ^ k → more k (spelled k n ++ t) ≡ got n t
more_spelled zero n t p h = absurd (omega arith)
more_spelled (suc k) n t p h =
    ⊎_elim
    (λ l. ap (λ (s : List ℕ). more (suc k) (s ++ t)) (spelled_last k n l) ∙ more_last k n t l (λ z. omega arith))
    (λ l.
    ap (λ (s : List ℕ). more (suc k) (s ++ t)) (spelled_next k n l)
    ∙ more_next k (n % 128 + 128) (spelled k (n / 128) ++ t) (omega arith)
    ∙ ap (joined (n % 128 + 128)) (more_spelled k (n / 128) t (omega arith) (rest_below k n h))
    ∙ ap (λ (z : ℕ). got z t) (joined_low n))
    (lt_or_le n 128)

pub read_spell : (n : ℕ) (t : List ℕ) → n < numbers_end → read_number (spell n ++ t) ≡ got n t
read_spell n t h =
    let k = number_bytes - 1 in
    ⊎_elim
    (λ l. ap (λ (s : List ℕ). read_number (s ++ t)) (spelled_last k n l) ∙ read_last n t l)
    (λ l.
    ap (λ (s : List ℕ). read_number (s ++ t)) (spelled_next k n l)
    ∙ read_next (n % 128 + 128) (spelled k (n / 128) ++ t) (omega arith)
    ∙ ap (joined (n % 128 + 128)) (more_spelled k (n / 128) t (omega arith) (rest_below k n h))
    ∙ ap (λ (z : ℕ). got z t) (joined_low n))
    (lt_or_le n 128)

-- ---- what was read was spelled so
spelled_joined : (k b m : ℕ) → 128 ≤ b → b < 256 → 0 < m → spelled (suc k) (b - 128 + 128 * m) ≡ b ∷ spelled k m
spelled_joined k b m h l p =
    let n = b - 128 + 128 * m in
    let low : n % 128 + 128 ≡ b = omega arith in
    let high : n / 128 ≡ m = omega arith in
    spelled_next k n (omega arith) ∙ (λ i. low i ∷ spelled k (high i))

-- s is the spelling of n in at most k bytes, and then t
record Spelled (k n : ℕ) (s t : List ℕ) : Type 0 where
  some : 0 < length s
  small : n < 128 ^ k
  bytes : s ≡ spelled k n ++ t

spelled_of_last : (k b n : ℕ) (s t : List ℕ) → Last b s t n → Spelled (suc k) n (b ∷ s) t
spelled_of_last k b n s t r =
    let h : n < 128 = omega arith in
    record {
      some = omega arith;
      small = below_suc k n h;
      bytes = (λ i. sym r.value i ∷ sym r.rest i) ∙ ap (λ (v : List ℕ). v ++ t) (sym (spelled_last k n h));
    }

spelled_of_next : (k b n m : ℕ) (s t : List ℕ) → 128 ≤ b → b < 256 → 0 < m → n ≡ b - 128 + 128 * m → Spelled k m s t → Spelled (suc k) n (b ∷ s) t
spelled_of_next k b n m s t h l p e r =
    record {
      some = omega arith;
      small = subst (λ (z : ℕ). z < 128 ^ suc k) (sym e) (above_suc k b m l r.small);
      bytes = ap (λ (v : List ℕ). b ∷ v) r.bytes ∙ ap (λ (v : List ℕ). v ++ t) (sym (spelled_joined k b m h l p) ∙ ap (spelled (suc k)) (sym e));
    }

more_read : (k n : ℕ) (s t : List ℕ) → Bytes s → more k s ≡ got n t → (0 < n) × Spelled k n s t
more_read zero n s t B e = absurd (not_bad n t e)
more_read (suc k) n [] t B e = absurd (not_bad n t e)
more_read (suc k) n (b ∷ s) t B e =
    ⊎_elim
    (λ r. let p = r.0 in let v = r.1.value in (omega arith, spelled_of_last k b n s t r.1))
    (λ r.
    let q = more_read k r.above s t (bytes_tail b s B) r.read in
    let p = q.0 in
    let h = r.big in
    let v = r.value in
    (omega arith, spelled_of_next k b n r.above s t h (B 0) p v q.1))
    (more_cases k b s t n e)

number_read_lem : (n : ℕ) (s t : List ℕ) → Bytes s → read_number s ≡ got n t → Spelled number_bytes n s t
number_read_lem n [] t B e = absurd (not_bad n t e)
number_read_lem n (b ∷ s) t B e =
    let k = number_bytes - 1 in
    ⊎_elim
    (λ r. spelled_of_last k b n s t r)
    (λ r.
    let q = more_read k r.above s t (bytes_tail b s B) r.read in
    spelled_of_next k b n r.above s t r.big (B 0) q.0 r.value q.1)
    (read_cases b s t n e)

-- one spelling
pub spell_read : (s t : List ℕ) (n : ℕ) → Bytes s → read_number s ≡ got n t → s ≡ spell n ++ t
spell_read s t n B e = (number_read_lem n s t B e).bytes

pub read_small : (s t : List ℕ) (n : ℕ) → Bytes s → read_number s ≡ got n t → n < numbers_end
read_small s t n B e = (number_read_lem n s t B e).small

-- ---- what is left is an end of the bytes
record Suffix (s t : List ℕ) : Type 0 where
  count : ℕ
  some : 0 < count
  fits : count ≤ length s
  is : t ≡ drop count s

suffix_last : (b n : ℕ) (s t : List ℕ) → Last b s t n → Suffix (b ∷ s) t
suffix_last b n s t r = record { count = 1; some = omega arith; fits = omega arith; is = r.rest }

suffix_next : (b : ℕ) (s t : List ℕ) → Suffix s t → Suffix (b ∷ s) t
suffix_next b s t r = let f = r.fits in record { count = suc r.count; some = omega arith; fits = omega arith; is = r.is }

more_suffix : (k n : ℕ) (s t : List ℕ) → more k s ≡ got n t → Suffix s t
more_suffix zero n s t e = absurd (not_bad n t e)
more_suffix (suc k) n [] t e = absurd (not_bad n t e)
more_suffix (suc k) n (b ∷ s) t e =
    ⊎_elim (λ r. suffix_last b n s t r.1) (λ r. suffix_next b s t (more_suffix k r.above s t r.read)) (more_cases k b s t n e)

read_suffix : (n : ℕ) (s t : List ℕ) → read_number s ≡ got n t → Suffix s t
read_suffix n [] t e = absurd (not_bad n t e)
read_suffix n (b ∷ s) t e =
    ⊎_elim (λ r. suffix_last b n s t r) (λ r. suffix_next b s t (more_suffix (number_bytes - 1) r.above s t r.read)) (read_cases b s t n e)

suffix_length : (s t : List ℕ) (r : Suffix s t) → length t + r.count ≡ length s
suffix_length s t r =
    let l : length t ≡ length s - r.count = ap length r.is ∙ length-drop r.count s in
    let f = r.fits in
    omega arith

pub read_shorter : (s t : List ℕ) (n : ℕ) → read_number s ≡ got n t → length t < length s
read_shorter s t n e =
    let r = read_suffix n s t e in
    let l = suffix_length s t r in
    let p = r.some in
    omega arith

-- ---- reading at a place
-- what is left is what stands after the number
pub read_left : (s t : List ℕ) (at n : ℕ) → read_number (drop at s) ≡ got n t
    → (t ≡ drop (length s - length t) s) × (at < length s - length t) × (length t ≤ length s)
read_left s t at n e =
    let r = read_suffix n (drop at s) t e in
    let l = suffix_length (drop at s) t r in
    let d : length (drop at s) ≡ length s - at = length-drop at s in
    let p = r.some in
    let f = r.fits in
    let z : at + r.count ≡ length s - length t = omega arith in
    (r.is ∙ drop-drop r.count at s ∙ ap (λ (k : ℕ). drop k s) z, omega arith, omega arith)

pub value_at_lem : (s : List ℕ) (at n next : ℕ) → number_at s at ≡ done (n, next) → (read_number (drop at s) ≡ got n (drop next s)) × (at < next) × (next ≤ length s)
value_at_lem s at n next e = go (read_number (drop at s)) refl e
  where
    go : (r : Read ℕ) → read_number (drop at s) ≡ r → placed_or 2 (length s) r ≡ done (n, next)
        → (read_number (drop at s) ≡ got n (drop next s)) × (at < next) × (next ≤ length s)
    go (got m t) f p =
        let l = read_left s t at m f in
        let a = l.1 in
        let v = done_two m n (length s - length t) next p in
        (f ∙ (λ i. got (v.0 i) ((l.0 ∙ ap (λ (k : ℕ). drop k s) v.1) i)), omega arith, omega arith)
    go bad f p = absurd (not_done 2 (n, next) p)

pub malformed_at : (s : List ℕ) (at : ℕ) → number_at s at ≡ no 2 → read_number (drop at s) ≡ bad
malformed_at s at e = go (read_number (drop at s)) e
  where
    go : (r : Read ℕ) → placed_or 2 (length s) r ≡ no 2 → r ≡ bad
    go (got m t) p = absurd (not_done 2 (m, length s - length t) (sym p))
    go bad p = refl

pub at_read : (s t : List ℕ) (at n : ℕ) → read_number (drop at s) ≡ got n t → number_at s at ≡ done (n, length s - length t)
at_read s t at n e = ap (placed_or 2 (length s)) e

-- ---- spellings
spelled_short : (k n : ℕ) → length (spelled k n) ≤ k
spelled_short zero n = omega arith
spelled_short (suc k) n =
    ⊎_elim
    (λ h. let e = ap length (spelled_last k n h) in omega arith)
    (λ h. let e = ap length (spelled_next k n h) in let r = spelled_short k (n / 128) in omega arith)
    (lt_or_le n 128)

spelled_some : (k n : ℕ) → 1 ≤ length (spelled (suc k) n)
spelled_some k n =
    ⊎_elim (λ h. let e = ap length (spelled_last k n h) in omega arith) (λ h. let e = ap length (spelled_next k n h) in omega arith) (lt_or_le n 128)

pub spelled_length : (n : ℕ) → (1 ≤ length (spell n)) × (length (spell n) ≤ number_bytes)
spelled_length n = (spelled_some (number_bytes - 1) n, spelled_short number_bytes n)

-- a number that takes at most k bytes is spelled the same in one more
spelled_more : (k n : ℕ) → 0 < n → n < 128 ^ k → spelled (suc k) n ≡ spelled k n
spelled_more zero n p h = absurd (omega arith)
spelled_more (suc k) n p h =
    ⊎_elim
    (λ l. spelled_last (suc k) n l ∙ sym (spelled_last k n l))
    (λ l.
    spelled_next (suc k) n l ∙ ap (λ (v : List ℕ). (n % 128 + 128) ∷ v) (spelled_more k (n / 128) (omega arith) (rest_below k n h))
    ∙ sym (spelled_next k n l))
    (lt_or_le n 128)

pub spell_last : (n : ℕ) → n < 128 → spell n ≡ n ∷ []
spell_last n h = spelled_last (number_bytes - 1) n h

pub spell_next : (n : ℕ) → 128 ≤ n → n < numbers_end → spell n ≡ (n % 128 + 128) ∷ spell (n / 128)
spell_next n h l =
    let k = number_bytes - 1 in
    spelled_next k n h ∙ ap (λ (v : List ℕ). (n % 128 + 128) ∷ v) (sym (spelled_more k (n / 128) (omega arith) (rest_below k n l)))
