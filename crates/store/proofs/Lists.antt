-- Lists: sums, and what a turn of a loop adds. Assumes nothing.
use Prim.Native.Nat.{ℕ, zero, suc, ◌+◌, ◌-◌, ◌<◌, ◌≤◌}
use mathlib.Core.Path.{◌≡◌, refl, ap, ap₂, sym, ◌∙◌}
use mathlib.Core.List.{List, [], ◌∷◌, ◌++◌, map, append_assoc, append-nil}
use mathlib.Core.Bool.{Bool, true, false, cond}
use native.Mathlib.Omega.{arith}
use native.Mathlib.Numerals.{add-one}
use lib.ListN.{length, take, drop, set, get_or, replicate, length-replicate, length-drop}
use lib.Seq.{take-suc, take-add, take_all, take-suc-set, length-take-le, paste, take-paste, length-paste}
use Rattle.complex.specs.Lists.{total, is_empty}
use Rattle.store.specs.View.{width, width_sum}
use Rattle.store.specs.Edits.{kept, places_of, spread_flags, zipped, Compacted}

module _ {A : Type 0} (f : A → ℕ) where
  pub sum_append : (xs ys : List A) → total f (xs ++ ys) ≡ total f xs + total f ys
  sum_append [] ys = omega arith
  sum_append (x ∷ xs) ys = let e = sum_append xs ys in omega arith

  -- one element more
  pub sum_more : (l : List A) (i : ℕ) (z : A) → i < length l → total f (take (i + 1) l) ≡ total f (take i l) + f (get_or l i z)
  sum_more l i z h = rw (add-one, take-suc l i z h) (sum_append (take i l) (get_or l i z ∷ []) ∙ omega arith)

  pub sum_le : (l : List A) (i n : ℕ) → i ≤ n → total f (take i l) ≤ total f (take n l)
  sum_le l i n h =
      let e : n ≡ i + (n - i) = omega arith in
      rw e (rw (take-add i (n - i) l, sum_append (take i l) (take (n - i) (drop i l))) (omega arith))

module _ {A B : Type 0} where
  pub map_append : (f : A → B) (xs ys : List A) → map f (xs ++ ys) ≡ map f xs ++ map f ys
  map_append f [] ys = refl
  map_append f (x ∷ xs) ys = ap (λ (r : List B). f x ∷ r) (map_append f xs ys)

  pub map_place : (f : A → B) (xs : List A) (i : ℕ) (z : A) (y : B) → i < length xs → get_or (map f xs) i y ≡ f (get_or xs i z)
  map_place f [] i z y h = absurd (omega arith)
  map_place f (x ∷ xs) zero z y h = refl
  map_place f (x ∷ xs) (suc i) z y h = map_place f xs i z y (omega arith)

  pub map_more : (f : A → B) (l : List A) (i : ℕ) (z : A) → i < length l → map f (take (i + 1) l) ≡ map f (take i l) ++ (f (get_or l i z) ∷ [])
  map_more f l i z h = rw (add-one, take-suc l i z h) (map_append f (take i l) (get_or l i z ∷ []))

  -- the first i places of out hold f of those of l
  pub record Mapping (f : A → B) (l : List A) (i : ℕ) (out : List B) : Type 0 where
    pub front : take i out ≡ map f (take i l)

  pub mapping_turn : (f : A → B) (l : List A) (i : ℕ) (out : List B) (v : B) (z : A) → i < length l → i < length out → v ≡ f (get_or l i z) → Mapping f l i out
      → Mapping f l (i + 1) (set out i v)
  mapping_turn f l i out v z h k e m =
      record {
        front =
            ap (λ (n : ℕ). take n (set out i v)) (add-one i) ∙ take-suc-set out i v k
            ∙ ap₂ (λ (x : List B) (y : B). x ++ (y ∷ [])) m.front e
            ∙ sym (map_more f l i z h);
      }

module _ {A : Type 0} where
  pub pick_append : (b : Bool) (x : A) (k r : List A) → cond b (k ++ r) (x ∷ (k ++ r)) ≡ cond b k (x ∷ k) ++ r
  pick_append true x k r = refl
  pick_append false x k r = refl

  pub kept_append : (bs bs' : List Bool) (xs xs' : List A) → length bs ≡ length xs → kept (bs ++ bs') (xs ++ xs') ≡ kept bs xs ++ kept bs' xs'
  kept_append [] bs' [] xs' h = refl
  kept_append [] bs' (x ∷ xs) xs' h = absurd (omega arith)
  kept_append (b ∷ bs) bs' [] xs' h = absurd (omega arith)
  kept_append (b ∷ bs) bs' (x ∷ xs) xs' h =
      ap (λ (k : List A). cond b k (x ∷ k)) (kept_append bs bs' xs xs' (omega arith)) ∙ pick_append b x (kept bs xs) (kept bs' xs')

  pub kept_more : (bs : List Bool) (xs : List A) (i : ℕ) (y : Bool) (z : A) → i < length bs → i < length xs
      → kept (take (i + 1) bs) (take (i + 1) xs) ≡ kept (take i bs) (take i xs) ++ cond (get_or bs i y) [] (get_or xs i z ∷ [])
  kept_more bs xs i y z h k =
      rw (add-one, take-suc bs i y h, take-suc xs i z k)
      (kept_append (take i bs) (get_or bs i y ∷ []) (take i xs) (get_or xs i z ∷ [])
      (length-take-le i bs (omega arith) ∙ sym (length-take-le i xs (omega arith))))

  -- of the first i places of l₀ those that are not flagged are the first k of l, and the others are as they were
  pub record Packing (flags : List Bool) (l₀ : List A) (i k : ℕ) (l : List A) : Type 0 where
    pub le : k ≤ i
    pub size : length l ≡ length l₀
    pub rest : drop i l ≡ drop i l₀
    pub front : take k l ≡ kept (take i flags) (take i l₀)

  pub packing_start : (flags : List Bool) (l : List A) → Packing flags l 0 0 l
  packing_start flags l = record { le = omega arith; size = refl; rest = refl; front = refl }

  pub packing_end : {flags : List Bool} {l₀ l : List A} {n k : ℕ} → n ≤ length l₀ → Packing flags l₀ n k l → Compacted (take n flags) (take n l₀) l
  packing_end {flags} {l₀} {l} {n} {k} h p =
      let a = p.le in
      let b = p.size in
      record { front = ap (λ (m : ℕ). take m l) (sym (ap length p.front) ∙ length-take-le k l (omega arith)) ∙ p.front }

pub spread_append : (z : ℕ) (bs bs' : List Bool) (cs cs' : List ℕ) → length bs ≡ length cs
    → spread_flags z (bs ++ bs') (cs ++ cs') ≡ spread_flags z bs cs ++ spread_flags z bs' cs'
spread_append z [] bs' [] cs' h = refl
spread_append z [] bs' (c ∷ cs) cs' h = absurd (omega arith)
spread_append z (b ∷ bs) bs' [] cs' h = absurd (omega arith)
spread_append z (b ∷ bs) bs' (c ∷ cs) cs' h =
    ap (λ (r : List Bool). replicate (places_of z c) b ++ r) (spread_append z bs bs' cs cs' (omega arith))
    ∙ sym (append_assoc (replicate (places_of z c) b) (spread_flags z bs cs) (spread_flags z bs' cs'))

pub places_of_some : (z c : ℕ) → (c ≡ 0 → ⊥) → places_of z c ≡ c
places_of_some z zero h = absurd (h refl)
places_of_some z (suc c) h = refl

module _ (f : Bool → ℕ → ℕ) where
  pub zipped_append : (ms ms' : List Bool) (ns ns' : List ℕ) → length ms ≡ length ns → zipped f (ms ++ ms') (ns ++ ns') ≡ zipped f ms ns ++ zipped f ms' ns'
  zipped_append [] ms' [] ns' h = refl
  zipped_append [] ms' (n ∷ ns) ns' h = absurd (omega arith)
  zipped_append (m ∷ ms) ms' [] ns' h = absurd (omega arith)
  zipped_append (m ∷ ms) ms' (n ∷ ns) ns' h = ap (λ (r : List ℕ). f m n ∷ r) (zipped_append ms ms' ns ns' (omega arith))

-- ---- the places that a count stands for
pub places_none : (n : ℕ) → places_of 0 n ≡ n
places_none zero = refl
places_none (suc n) = refl

pub places_one : (n : ℕ) → places_of 1 n ≡ width n
places_one zero = refl
places_one (suc n) = refl

pub places_sum : {A : Type 0} (g : A → ℕ) (l : List A) → total (places_of 0) (map g l) ≡ total g l
places_sum g [] = refl
places_sum g (x ∷ l) = ap₂ ◌+◌ (places_none (g x)) (places_sum g l)

pub width_places : (l : List ℕ) → total (places_of 1) l ≡ width_sum l
width_places [] = refl
width_places (n ∷ l) = ap₂ ◌+◌ (places_one n) (width_places l)

-- ---- what is left of a list from a place on
module _ {A : Type 0} where
  pub all_left : (n : ℕ) (s : List A) → take (length s - n) (drop n s) ≡ drop n s
  all_left n s = take_all (length s - n) (drop n s) (let l = length-drop n s in omega arith)

  pub drop_over : (n : ℕ) (s : List A) → length s ≤ n → drop n s ≡ []
  drop_over zero [] h = refl
  drop_over zero (x ∷ s) h = absurd (omega arith)
  drop_over (suc n) [] h = refl
  drop_over (suc n) (x ∷ s) h = drop_over n s (omega arith)

  pub not_empty : (s : List A) → 0 < length s → is_empty s ≡ false
  not_empty [] h = absurd (omega arith)
  not_empty (x ∷ s) h = refl
