-- Places that go to the end of those in use. Assumes nothing.
use Prim.Native.Nat.{ℕ, zero, suc, ◌+◌, ◌-◌, ◌<◌, ◌≤◌}
use native.Mathlib.Omega.{arith}
use mathlib.Core.Path.{◌≡◌, refl, sym, ap, ap₂, ◌∙◌}
use mathlib.Core.List.{List, [], ◌∷◌, ◌++◌}
use lib.ListN.{length, take, drop, set, length-append, length-drop, length-set}
use lib.Seq.{take-nil, take-add, drop-drop, take-take, take-set-le, drop-set-add, length-take-le, take_at, drop_at, take-append-le, slice, length-slice}
use Rattle.rows_new.specs.Runs.{run_at}
use Rattle.rows_new.proofs.RunLists.{run_take, run_drop}
use Rattle.kernel_bends.specs.Turned.{rotated, moved_last}

zero_more : (r : ℕ) → 0 + r ≡ r
zero_more r = omega arith

suc_more : (k r : ℕ) → suc k + r ≡ suc (k + r)
suc_more k r = omega arith

module _ {A : Type 0} where
  slice_run : (f t : ℕ) (l : List A) → f ≤ t → slice f t l ≡ run_at f (t - f) l
  slice_run zero t l h = let e : t ≡ t - 0 = omega arith in ap (λ (n : ℕ). take n l) e
  slice_run (suc f) zero l h = absurd (omega arith)
  slice_run (suc f) (suc t) [] h = sym (take-nil (suc t - suc f))
  slice_run (suc f) (suc t) (x ∷ l) h = let e : t - f ≡ suc t - suc f = omega arith in slice_run f t l (omega arith) ∙ ap (λ (n : ℕ). take n (drop f l)) e

  module _ (f m t : ℕ) (l : List A) (hm : f ≤ m) (ht : m ≤ t) (hl : t ≤ length l) where
    abbrev r : List A
    r = rotated f m t l

    lf : length (take f l) ≡ f
    lf = length-take-le f l (omega arith)

    lb : length (slice m t l) ≡ t - m
    lb = length-slice m t l hl

    la : length (slice f m l) ≡ m - f
    la = length-slice f m l (omega arith)

    pub rotated_length : length r ≡ length l
    rotated_length =
        let a = length-append (take f l) (slice m t l ++ (slice f m l ++ drop t l)) in
        let b = length-append (slice m t l) (slice f m l ++ drop t l) in
        let c = length-append (slice f m l) (drop t l) in
        let d = length-drop t l in
        omega (arith, a, b, c, d, lf, lb, la)

    pub rotated_front : (n : ℕ) → n ≤ f → take n r ≡ take n l
    rotated_front n h = take-append-le n (take f l) (slice m t l ++ (slice f m l ++ drop t l)) (omega (arith, lf)) ∙ take-take n f l h

    pub rotated_next : run_at f (t - m) r ≡ run_at m (t - m) l
    rotated_next =
        ap (take (t - m)) (drop_at (take f l) (slice m t l ++ (slice f m l ++ drop t l)) f lf)
        ∙ take_at (slice m t l) (slice f m l ++ drop t l) (t - m) lb ∙ slice_run m t l ht

    pub rotated_last : run_at (f + (t - m)) (m - f) r ≡ run_at f (m - f) l
    rotated_last =
        ap (take (m - f)) (sym (drop-drop (t - m) f r) ∙ ap (drop (t - m)) (drop_at (take f l) (slice m t l ++ (slice f m l ++ drop t l)) f lf)
        ∙ drop_at (slice m t l) (slice f m l ++ drop t l) (t - m) lb)
        ∙ take_at (slice f m l) (drop t l) (m - f) la ∙ slice_run f m l hm

  -- m places from base on go to the end of the first t; of them those from i up to j go to the very end
  module _ (base m i j t : ℕ) (l : List A) (hi : i ≤ j) (hj : j ≤ m) (hb : base + m ≤ t) (hl : t ≤ length l) where
    abbrev pub once : List A
    once = rotated base (base + m) t l

    abbrev pub twice : List A
    twice = moved_last base m i j t l

    lo : length once ≡ length l
    lo = rotated_length base (base + m) t l (omega arith) hb hl

    pub twice_length : length twice ≡ length l
    twice_length = rotated_length (t - m + i) (t - m + j) t once (omega arith) (omega arith) (omega (arith, lo)) ∙ lo

    before : (n : ℕ) → n ≤ t - m + i → take n twice ≡ take n once
    before n h = rotated_front (t - m + i) (t - m + j) t once (omega arith) (omega arith) (omega (arith, lo)) n h

    moved : run_at (t - m) m once ≡ run_at base m l
    moved =
        let a : base + (t - (base + m)) ≡ t - m = omega arith in
        let b : base + m - base ≡ m = omega arith in
        ap₂ (λ (u v : ℕ). run_at u v once) (sym a) (sym b) ∙ rotated_last base (base + m) t l (omega arith) hb hl ∙ ap (λ (v : ℕ). run_at base v l) b

    -- those that are not among them
    pub twice_front : take (t - m) twice ≡ take base l ++ run_at (base + m) (t - (base + m)) l
    twice_front =
        let a : t - m ≡ base + (t - (base + m)) = omega arith in
        before (t - m) (omega arith) ∙ ap (λ (n : ℕ). take n once) a ∙ take-add base (t - (base + m)) once
        ∙ ap₂ ◌++◌ (rotated_front base (base + m) t l (omega arith) hb hl base (omega arith)) (rotated_next base (base + m) t l (omega arith) hb hl)

    pub twice_first : run_at (t - m) i twice ≡ run_at base i l
    twice_first =
        part (t - m) i twice ∙ ap (drop (t - m)) (before (t - m + i) (omega arith)) ∙ sym (part (t - m) i once)
        ∙ sym (take-take i m (drop (t - m) once) (omega arith)) ∙ ap (take i) moved ∙ take-take i m (drop base l) (omega arith)
      where
        part : (n k : ℕ) (x : List A) → run_at n k x ≡ drop n (take (n + k) x)
        part zero k x = ap (λ (w : ℕ). take w x) (sym (zero_more k))
        part (suc n) k [] = take-nil k ∙ sym (ap (drop (suc n)) (take-nil (suc n + k)))
        part (suc n) k (y ∷ x) = part n k x ∙ ap (λ (w : ℕ). drop (suc n) (take w (y ∷ x))) (sym (suc_more n k))

    -- of the last m those after the first k
    drop_take : (k n : ℕ) (x : List A) → drop k (take n x) ≡ take (n - k) (drop k x)
    drop_take zero n x = let e : n ≡ n - 0 = omega arith in ap (λ (w : ℕ). take w x) e
    drop_take (suc k) zero x = let e : 0 ≡ 0 - suc k = omega arith in ap (λ (w : ℕ). take w (drop (suc k) x)) e
    drop_take (suc k) (suc n) [] = sym (take-nil (suc n - suc k))
    drop_take (suc k) (suc n) (y ∷ x) = let e : n - k ≡ suc n - suc k = omega arith in drop_take k n x ∙ ap (λ (w : ℕ). take w (drop k x)) e

    after : (k n : ℕ) (x : List A) → run_at (n + k) (m - k) x ≡ drop k (run_at n m x)
    after k n x = ap (take (m - k)) (sym (drop-drop k n x)) ∙ sym (drop_take k m (drop n x))

    from : (k : ℕ) → run_at (t - m + k) (m - k) once ≡ run_at (base + k) (m - k) l
    from k = after k (t - m) once ∙ ap (drop k) moved ∙ sym (after k base l)

    pub twice_second : run_at (t - m + i) (m - j) twice ≡ run_at (base + j) (m - j) l
    twice_second =
        let a : t - (t - m + j) ≡ m - j = omega arith in
        ap (λ (n : ℕ). run_at (t - m + i) n twice) (sym a) ∙ rotated_next (t - m + i) (t - m + j) t once (omega arith) (omega arith) (omega (arith, lo))
        ∙ ap (λ (n : ℕ). run_at (t - m + j) n once) a ∙ from j

    pub twice_last : run_at (t - m + i + (m - j)) (j - i) twice ≡ run_at (base + i) (j - i) l
    twice_last =
        let a : t - (t - m + j) ≡ m - j = omega arith in
        let b : t - m + j - (t - m + i) ≡ j - i = omega arith in
        ap₂ (λ (u v : ℕ). run_at (t - m + i + u) v twice) (sym a) (sym b) ∙ rotated_last (t - m + i) (t - m + j) t once (omega arith) (omega arith)
        (omega (arith, lo))
        ∙ ap (λ (v : ℕ). run_at (t - m + i) v once) b ∙ sym (take-take (j - i) (m - i) (drop (t - m + i) once) (omega arith)) ∙ ap (take (j - i)) (from i)
        ∙ take-take (j - i) (m - i) (drop (base + i) l) (omega arith)

  -- ---- runs
  pub run_add : (n i j : ℕ) (l : List A) → run_at n (i + j) l ≡ run_at n i l ++ run_at (n + i) j l
  run_add n i j l = take-add i j (drop n l) ∙ ap (λ (x : List A). take i (drop n l) ++ take j x) (drop-drop i n l)

  run_before : (n k i : ℕ) (x : A) (l : List A) → n + k ≤ i → run_at n k (set l i x) ≡ run_at n k l
  run_before n k i x l h =
      let e : i ≡ n + (i - n) = omega arith in
      ap (λ (w : ℕ). run_at n k (set l w x)) e ∙ ap (take k) (drop-set-add n l (i - n) x) ∙ take-set-le k (drop n l) (i - n) x (omega arith)

  run_at_lem : (i : ℕ) (x : A) (l : List A) → i < length l → run_at i 1 (set l i x) ≡ x ∷ []
  run_at_lem i x [] h = absurd (omega arith)
  run_at_lem zero x (y ∷ l) h = refl
  run_at_lem (suc i) x (y ∷ l) h = run_at_lem i x l (omega arith)

  -- x is put after the first t, and then m places from base on go after it
  module _ (base m t : ℕ) (x : A) (l : List A) (hb : base + m ≤ t) (hl : t < length l) where
    abbrev filled : List A
    filled = set l t x

    abbrev joined : List A
    joined = rotated base (base + m) (t + 1) (set l t x)

    lj : length filled ≡ length l
    lj = length-set l t x

    up : run_at base (t - (base + m) + 1) joined ≡ run_at (base + m) (t - (base + m) + 1) filled
    up =
        let e : t - (base + m) + 1 ≡ t + 1 - (base + m) = omega arith in
        ap (λ (n : ℕ). run_at base n joined) e ∙ rotated_next base (base + m) (t + 1) filled (omega arith) (omega arith) (omega (arith, lj))
        ∙ ap (λ (n : ℕ). run_at (base + m) n filled) (sym e)

    pub joined_length : length joined ≡ length l
    joined_length = rotated_length base (base + m) (t + 1) filled (omega arith) (omega arith) (omega (arith, lj)) ∙ lj

    -- those that are not among them
    pub joined_front : take (t - m) joined ≡ take base l ++ run_at (base + m) (t - (base + m)) l
    joined_front =
        let k = t - (base + m) in
        let a : t - m ≡ base + (t - (base + m)) = omega arith in
        ap (λ (n : ℕ). take n joined) a ∙ take-add base k joined
        ∙ ap₂ ◌++◌ (rotated_front base (base + m) (t + 1) filled (omega arith) (omega arith) (omega (arith, lj)) base (omega arith)
        ∙ take-set-le base l t x (omega arith))
        (run_take base (k + 1) k joined (omega arith) ∙ ap (take k) up ∙ sym (run_take (base + m) (k + 1) k filled (omega arith))
        ∙ run_before (base + m) k t x l (omega arith))

    -- x, and then they
    pub joined_last : run_at (t - m) (m + 1) joined ≡ x ∷ run_at base m l
    joined_last =
        let k = t - (base + m) in
        let a : m + 1 ≡ 1 + m = omega arith in
        let b : t - m ≡ base + (t - (base + m)) = omega arith in
        let c : 1 ≡ t - (base + m) + 1 - (t - (base + m)) = omega arith in
        let e : base + m + (t - (base + m)) ≡ t = omega arith in
        let g : t - m + 1 ≡ base + (t + 1 - (base + m)) = omega arith in
        let h : m ≡ base + m - base = omega arith in
        ap (λ (n : ℕ). run_at (t - m) n joined) a ∙ run_add (t - m) 1 m joined
        ∙ ap₂ ◌++◌
        (ap₂ (λ (u v : ℕ). run_at u v joined) b c ∙ run_drop base (k + 1) k joined ∙ ap (drop k) up ∙ sym (run_drop (base + m) (k + 1) k filled)
        ∙ ap₂ (λ (u v : ℕ). run_at u v filled) e (sym c) ∙ run_at_lem t x l hl)
        (ap₂ (λ (u v : ℕ). run_at u v joined) g h ∙ rotated_last base (base + m) (t + 1) filled (omega arith) (omega arith) (omega (arith, lj))
        ∙ ap (λ (v : ℕ). run_at base v filled) (sym h) ∙ run_before base m t x l hb)
