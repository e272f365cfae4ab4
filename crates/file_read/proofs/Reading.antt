-- Things read one after another, as a loop reads them. Assumes nothing.
use Prim.Native.Nat.{ℕ, suc, ◌+◌, ◌-◌, ◌≤◌, ◌<◌}
use native.Mathlib.Omega.{arith}
use mathlib.Core.Path.{◌≡◌, refl, sym, ap, ◌∙◌}
use mathlib.Core.List.{List, [], ◌∷◌, ◌++◌, append_assoc, append-nil}
use lib.ListN.{length, drop, length-append}
use Rattle.number.specs.Readers.{Read, got, bad, and_then, times}
use Rattle.number.proofs.Laws.{not_bad, got_thing}
use Rattle.number.proofs.Counted.{times_cases}

-- what is read after xs
abbrev pub after : {A : Type 0} → List A → Read (List A) → Read (List A)
after xs q = and_then q λ ys u. got (xs ++ ys) u

after_none : {A : Type 0} (q : Read (List A)) → q ≡ after [] q
after_none (got ys u) = refl
after_none bad = refl

module _ {A : Type 0} (r : List ℕ → Read A) where
  -- of n things from place at on, the i things xs were read, and reading goes on at place p
  pub record Reading (s : List ℕ) (at n i p : ℕ) (xs : List A) : Type 0 where
    pub whole : times r n (drop at s) ≡ after xs (times r (n - i) (drop p s))
    pub count : length xs ≡ i
    pub inside : p ≤ length s

  pub reading_start : (s : List ℕ) (at n : ℕ) → at ≤ length s → Reading s at n 0 at []
  reading_start s at n h =
      let e : n ≡ n - 0 = omega arith in
      record { whole = after_none (times r n (drop at s)) ∙ ap (λ (k : ℕ). after [] (times r k (drop at s))) e; count = refl; inside = h }

  one_more : (k : ℕ) (u v : List ℕ) (x : A) (xs : List A) → r u ≡ got x v → after xs (times r (suc k) u) ≡ after (xs ++ (x ∷ [])) (times r k v)
  one_more k u v x xs e = ap (λ (q : Read A). after xs (and_then q λ y t. and_then (times r k t) λ ys w. got (y ∷ ys) w)) e ∙ go (times r k v)
    where
      go : (q : Read (List A)) → after xs (and_then q λ ys w. got (x ∷ ys) w) ≡ after (xs ++ (x ∷ [])) q
      go (got ys w) = ap (λ (l : List A). got l w) (sym (append_assoc xs (x ∷ []) ys))
      go bad = refl

  -- one of n things that was not read yet, and those after it
  pub record Ahead (s : List ℕ) (p : ℕ) (xs zs : List A) : Type 0 where
    pub next : A
    pub later : List A
    pub rest : List ℕ
    pub read : r (drop p s) ≡ got next rest
    pub whole : zs ≡ xs ++ (next ∷ later)

  ahead : (k : ℕ) (s : List ℕ) (p : ℕ) (xs zs : List A) (t : List ℕ) → after xs (times r (suc k) (drop p s)) ≡ got zs t → Ahead s p xs zs
  ahead k s p xs zs t e = go (times r (suc k) (drop p s)) refl e
    where
      go : (q : Read (List A)) → times r (suc k) (drop p s) ≡ q → after xs q ≡ got zs t → Ahead s p xs zs
      go (got ys u) f g =
          let c = times_cases r k (drop p s) u ys f in
          record {
            next = c.head;
            later = c.tail;
            rest = c.between;
            read = c.one;
            whole = sym (got_thing (xs ++ ys) zs u t g) ∙ ap (λ (l : List A). xs ++ l) c.whole;
          }
      go bad f g = absurd (not_bad zs t g)

  module _ (s : List ℕ) (at n i p : ℕ) (xs : List A) (R : Reading s at n i p xs) where
    pub reading_turn : (x : A) (q : ℕ) → i < n → r (drop p s) ≡ got x (drop q s) → q ≤ length s → Reading s at n (i + 1) q (xs ++ (x ∷ []))
    reading_turn x q h e l =
        let k : n - i ≡ suc (n - (i + 1)) = omega arith in
        record {
          whole = R.whole ∙ ap (λ (m : ℕ). after xs (times r m (drop p s))) k ∙ one_more (n - (i + 1)) (drop p s) (drop q s) x xs e;
          count = length-append xs (x ∷ []) ∙ ap (λ (m : ℕ). m + 1) R.count;
          inside = l;
        }

    pub reading_end : i ≡ n → times r n (drop at s) ≡ got xs (drop p s)
    reading_end e =
        let k : n - i ≡ 0 = omega arith in
        R.whole ∙ ap (λ (m : ℕ). after xs (times r m (drop p s))) k ∙ ap (λ (l : List A). got l (drop p s)) (append-nil xs)

    pub reading_bad : i < n → r (drop p s) ≡ bad → times r n (drop at s) ≡ bad
    reading_bad h e =
        let k : n - i ≡ suc (n - (i + 1)) = omega arith in
        R.whole ∙ ap (λ (m : ℕ). after xs (times r m (drop p s))) k
        ∙ ap (λ (q : Read A). after xs (and_then q λ y t. and_then (times r (n - (i + 1)) t) λ ys w. got (y ∷ ys) w)) e

    pub reading_ahead : (zs : List A) (t : List ℕ) → i < n → times r n (drop at s) ≡ got zs t → Ahead s p xs zs
    reading_ahead zs t h e =
        let k : n - i ≡ suc (n - (i + 1)) = omega arith in
        ahead (n - (i + 1)) s p xs zs t (ap (λ (m : ℕ). after xs (times r m (drop p s))) (sym k) ∙ sym R.whole ∙ e)
