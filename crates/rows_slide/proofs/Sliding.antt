-- Runs that go to an earlier place of their own array. Assumes nothing.
use Prim.Native.Nat.{ℕ, zero, suc, ◌+◌, ◌-◌, ◌<◌, ◌≤◌}
use native.Mathlib.Omega.{arith}
use native.Mathlib.Numerals.{add-one}
use mathlib.Core.Path.{◌≡◌, refl, sym, ap, ap₂, ◌∙◌, subst}
use mathlib.Core.Bool.{Bool, true, false, not, ◌||◌, false≢true}
use mathlib.Core.List.{List, [], ◌∷◌, ◌++◌, append_assoc, append-nil}
use borrow.Author.Tests.{ltb-true, ltb-false}
use lib.Dec.{ltb}
use lib.ListN.{length, get_or, set, take, drop, replicate, length-set, length-drop, replicate-append-replicate}
use lib.Seq.{take-add, drop-drop, take-suc, take-suc-set, drop-set-lt, get_or-drop, length-take-le}
use Rattle.store.specs.Edits.{kept}
use Rattle.store.proofs.Lists.{Packing, kept_append}
use Rattle.rows_slide.specs.Slid.{Slid, Seen, Alike}

module _ {A : Type 0} where
  pub drop_more : (i e : ℕ) (a b : List A) → i ≤ e → drop i a ≡ drop i b → drop e a ≡ drop e b
  drop_more i e a b h q =
      let x = e - i in
      let u : e ≡ i + (e - i) = omega arith in
      ap (λ (n : ℕ). drop n a) u ∙ sym (drop-drop x i a) ∙ ap (drop x) q ∙ drop-drop x i b ∙ ap (λ (n : ℕ). drop n b) (sym u)

  pub slid_start : (old : List A) (from to : ℕ) → Slid old from 0 to old
  slid_start old from to = record { size = refl; front = take-add to 0 old; rest = refl }

  pub slid_begin : (old : List A) (from a to : ℕ) → Slid old (from + a) (a - a) (to + a) old
  slid_begin old from a to =
      let e : 0 ≡ a - a = omega arith in
      subst (λ (k : ℕ). Slid old (from + a) k (to + a) old) e (slid_start old (from + a) (to + a))

  pub slid_none : (old : List A) (from n to : ℕ) → from ≡ to → Slid old from n to old
  slid_none old from n to e =
      record { size = refl; front = take-add to n old ∙ ap (λ (i : ℕ). take to old ++ take n (drop i old)) (sym e); rest = refl }

  -- what has not gone yet is as it was
  pub slid_read : (old : List A) (from n to : ℕ) (l : List A) (z : A) → to ≤ from → Slid old from n to l → (p : ℕ) → from + n ≤ p → get_or l p z ≡ get_or old p z
  slid_read old from n to l z h s p g =
      let x = p - (to + n) in
      let u : p ≡ to + n + (p - (to + n)) = omega arith in
      ap (λ (i : ℕ). get_or l i z) u ∙ sym (get_or-drop (to + n) l x z) ∙ ap (λ (q : List A). get_or q x z) s.rest
      ∙ get_or-drop (to + n) old x z ∙ ap (λ (i : ℕ). get_or old i z) (sym u)

  -- one more goes
  pub slid_turn : (old : List A) (from n to : ℕ) (l : List A) (z v : A) (p k : ℕ) → to ≤ from → from + n < length old → Slid old from n to l
      → v ≡ get_or old (from + n) z → p ≡ to + n → k ≡ n + 1 → Slid old from k to (set l p v)
  slid_turn old from n to l z v p k h g s e ep ek =
      let w = s.size in
      let a : to + k ≡ suc p = omega arith in
      let b : p + 1 ≡ to + k = omega arith in
      let r : take k (drop from old) ≡ take n (drop from old) ++ (v ∷ []) =
      ap (λ (x : ℕ). take x (drop from old)) (ek ∙ add-one n) ∙ take-suc (drop from old) n z (omega (arith, length-drop from old))
      ∙ ap (λ (x : A). take n (drop from old) ++ (x ∷ [])) (get_or-drop from old n z ∙ sym e) in
      let f : take p l ≡ take to old ++ take n (drop from old) = ap (λ (x : ℕ). take x l) ep ∙ s.front in
      let q : drop p l ≡ drop p old = ap (λ (x : ℕ). drop x l) ep ∙ s.rest ∙ ap (λ (x : ℕ). drop x old) (sym ep) in
      record {
        size = length-set l p v ∙ s.size;
        front =
            ap (λ (x : ℕ). take x (set l p v)) a ∙ take-suc-set l p v (omega arith) ∙ ap (λ (x : List A). x ++ (v ∷ [])) f
            ∙ append_assoc (take to old) (take n (drop from old)) (v ∷ []) ∙ ap (λ (x : List A). take to old ++ x) (sym r);
        rest = drop-set-lt (to + k) l p v (omega arith) ∙ drop_more p (to + k) l old (omega arith) q;
      }

  -- two more go, and four
  module _ (old : List A) (from n to : ℕ) (l : List A) (z : A) (h : to ≤ from) (s : Slid old from n to l) where
    ahead : (k m : ℕ) → from + n + k ≡ from + m → get_or l (from + n + k) z ≡ get_or old (from + m) z
    ahead k m e = slid_read old from n to l z h s (from + n + k) (omega arith) ∙ ap (λ (i : ℕ). get_or old i z) e

    pub slid_one : from + n < length old → Slid old from (n + 1) to (set l (to + n) (get_or l (from + n) z))
    slid_one g = slid_turn old from n to l z _ (to + n) (n + 1) h g s (slid_read old from n to l z h s (from + n) (omega arith)) refl refl

    pub slid_two : from + n + 1 < length old → Slid old from (n + 2) to (set (set l (to + n) (get_or l (from + n) z)) (to + n + 1) (get_or l (from + n + 1) z))
    slid_two g =
        slid_turn old from (n + 1) to _ z _ (to + n + 1) (n + 2) h (omega arith) (slid_one (omega arith)) (ahead 1 (n + 1) (omega arith)) (omega arith)
        (omega arith)

    pub slid_four : from + n + 3 < length old
        → Slid old from (n + 4) to
        (set (set (set (set l (to + n) (get_or l (from + n) z)) (to + n + 1) (get_or l (from + n + 1) z)) (to + n + 2) (get_or l (from + n + 2) z)) (to + n + 3)
        (get_or l (from + n + 3) z))
    slid_four g =
        let s3 =
        slid_turn old from (n + 2) to _ z _ (to + n + 2) (n + 3) h (omega arith) (slid_two (omega arith)) (ahead 2 (n + 2) (omega arith)) (omega arith)
        (omega arith) in
        slid_turn old from (n + 3) to _ z _ (to + n + 3) (n + 4) h (omega arith) s3 (ahead 3 (n + 3) (omega arith)) (omega arith) (omega arith)

  -- one run goes on where another ended
  pub slid_join : (old mid out : List A) (from a b to n : ℕ) → to ≤ from → n ≡ a + b → Slid old from a to mid → Slid mid (from + a) b (to + a) out
      → Slid old from n to out
  slid_join old mid out from a b to n h e s t =
      let u : to + n ≡ to + a + b = omega arith in
      let v : to + a + b ≡ to + n = omega arith in
      record {
        size = t.size ∙ s.size;
        front =
            ap (λ (x : ℕ). take x out) u ∙ t.front
            ∙ ap₂ (λ (x y : List A). x ++ take b y) s.front (drop_more (to + a) (from + a) mid old (omega arith) s.rest ∙ sym (drop-drop a from old))
            ∙ append_assoc (take to old) (take a (drop from old)) (take b (drop a (drop from old)))
            ∙ ap (λ (x : List A). take to old ++ x) (sym (take-add a b (drop from old)) ∙ ap (λ (x : ℕ). take x (drop from old)) (sym e));
        rest = ap (λ (x : ℕ). drop x out) u ∙ t.rest ∙ ap (λ (x : ℕ). drop x mid) v ∙ drop_more (to + a) (to + n) mid old (omega arith) s.rest;
      }

  -- one more goes, of a run that was begun before
  pub slid_next : (old : List A) (from a i to : ℕ) (l : List A) (z : A) → to ≤ from → a ≤ i → from + i < length old → Slid old (from + a) (i - a) (to + a) l
      → Slid old (from + a) (i + 1 - a) (to + a) (set l (to + i) (get_or l (from + i) z))
  slid_next old from a i to l z h g k s =
      let e : from + i ≡ from + a + (i - a) = omega arith in
      slid_turn old (from + a) (i - a) (to + a) l z (get_or l (from + i) z) (to + i) (i + 1 - a) (omega arith) (omega arith) s
      (slid_read old (from + a) (i - a) (to + a) l z (omega arith) s (from + i) (omega arith) ∙ ap (λ (x : ℕ). get_or old x z) e) (omega arith) (omega arith)

  -- all have gone
  pub slid_end : (old : List A) (from i n to : ℕ) (l : List A) → i ≡ n → Slid old from i to l → Slid old from n to l
  slid_end old from i n to l e s = subst (λ (k : ℕ). Slid old from k to l) e s

  -- ---- what stays of a run
  pub kept_dead : (g : ℕ) (xs : List A) → kept (replicate g true) xs ≡ []
  kept_dead zero xs = refl
  kept_dead (suc g) [] = refl
  kept_dead (suc g) (x ∷ xs) = kept_dead g xs

  pub kept_living : (m : ℕ) (xs : List A) → length xs ≤ m → kept (replicate m false) xs ≡ xs
  kept_living zero [] h = refl
  kept_living zero (x ∷ xs) h = absurd (omega arith)
  kept_living (suc m) [] h = refl
  kept_living (suc m) (x ∷ xs) h = ap (λ (q : List A). x ∷ q) (kept_living m xs (omega arith))

  kept_further : (flags : List Bool) (xs : List A) (i n : ℕ) → i ≤ length flags → i ≤ length xs
      → kept (take (i + n) flags) (take (i + n) xs) ≡ kept (take i flags) (take i xs) ++ kept (take n (drop i flags)) (take n (drop i xs))
  kept_further flags xs i n h g =
      ap₂ kept (take-add i n flags) (take-add i n xs)
      ∙ kept_append (take i flags) (take n (drop i flags)) (take i xs) (take n (drop i xs)) (length-take-le i flags h ∙ sym (length-take-le i xs g))

  -- g places go, and m places after them, from j up to e, slide to the front
  module _ (flags : List Bool) (l₀ l l' : List A) (i k g m j e : ℕ) (ej : j ≡ i + g) (ee : e ≡ j + m) (hf : e ≤ length flags) (hl : e ≤ length l₀)
      (dead : take g (drop i flags) ≡ replicate g true) (living : take m (drop j flags) ≡ replicate m false) (p : Packing flags l₀ i k l)
      (s : Slid l j m k l') where
    stays : kept (take e flags) (take e l₀) ≡ kept (take i flags) (take i l₀) ++ take m (drop j l₀)
    stays =
        let few : length (take m (drop j l₀)) ≤ m = let w = length-take-le m (drop j l₀) (omega (arith, length-drop j l₀)) in omega arith in
        ap (λ (x : ℕ). kept (take x flags) (take x l₀)) ee
        ∙ kept_further flags l₀ j m (omega arith) (omega arith)
        ∙ ap₂ (λ (x y : List A). x ++ y)
        (ap (λ (x : ℕ). kept (take x flags) (take x l₀)) ej ∙ kept_further flags l₀ i g (omega arith) (omega arith)
        ∙ ap (λ (x : List A). kept (take i flags) (take i l₀) ++ x)
        (ap (λ (x : List Bool). kept x (take g (drop i l₀))) dead ∙ kept_dead g (take g (drop i l₀)))
        ∙ append-nil (kept (take i flags) (take i l₀)))
        (ap (λ (x : List Bool). kept x (take m (drop j l₀))) living ∙ kept_living m (take m (drop j l₀)) few)

    pub packing_run : Packing flags l₀ e (k + m) l'
    packing_run =
        let a = p.le in
        record {
          le = omega arith;
          size = s.size ∙ p.size;
          rest = drop_more (k + m) e l' l (omega arith) s.rest ∙ drop_more i e l l₀ (omega arith) p.rest;
          front =
              s.front
              ∙ ap₂ (λ (x y : List A). x ++ take m y) p.front (drop_more i j l l₀ (omega arith) p.rest)
              ∙ sym stays;
        }

  -- the same of rows whose flags are alike
  pub packing_turn : (flags : List Bool) (l₀ l l' : List A) (i k n j e : ℕ) → n ≤ length flags → n ≤ length l₀ → Alike flags true i n j
      → Alike flags false j n e
      → Packing flags l₀ i k l → Slid l j (e - j) k l' → Packing flags l₀ e (k + (e - j)) l'
  packing_turn flags l₀ l l' i k n j e hf hl a b p s =
      let h = a.from in
      let g = b.from in
      let w = b.within in
      packing_run flags l₀ l l' i k (j - i) (e - j) j e (omega arith) (omega arith) (omega arith) (omega arith) a.same b.same p s

-- ---- flags that are alike
pub seen_start : (flags : List Bool) (v : Bool) (i n : ℕ) → i ≤ n → Seen flags v i n i
seen_start flags v i n h =
    let e : 0 ≡ i - i = omega arith in
    record { from = omega arith; within = h; same = subst (λ (k : ℕ). take k (drop i flags) ≡ replicate k v) e refl }

pub seen_turn : {flags : List Bool} {v : Bool} {i n k : ℕ} → n ≤ length flags → k < n → get_or flags k false ≡ v → Seen flags v i n k → Seen flags v i n (k + 1)
seen_turn {flags} {v} {i} {n} {k} l g e s =
    let h = s.from in
    let a : k + 1 - i ≡ suc (k - i) = omega arith in
    let b : k + 1 - i ≡ k - i + 1 = omega arith in
    let c : i + (k - i) ≡ k = omega arith in
    record {
      from = omega arith;
      within = omega arith;
      same =
          ap (λ (x : ℕ). take x (drop i flags)) a ∙ take-suc (drop i flags) (k - i) false (omega (arith, length-drop i flags))
          ∙ ap₂ (λ (x : List Bool) (y : Bool). x ++ (y ∷ [])) s.same (get_or-drop i flags (k - i) false ∙ ap (λ (x : ℕ). get_or flags x false) c ∙ e)
          ∙ replicate-append-replicate (k - i) 1 v ∙ ap (λ (x : ℕ). replicate x v) (sym b);
    }

neither : (a b : Bool) → (a || b) ≡ false → (a ≡ false) × (b ≡ false)
neither true b e = absurd (false≢true (sym e))
neither false b e = (refl, e)

-- eight more
pub seen_eight : {flags : List Bool} {i n k : ℕ} → n ≤ length flags → k + 8 ≤ n
    → ((get_or flags k false || get_or flags (k + 1) false || get_or flags (k + 2) false || get_or flags (k + 3) false)
    || (get_or flags (k + 4) false || get_or flags (k + 5) false || get_or flags (k + 6) false || get_or flags (k + 7) false)) ≡ false
    → Seen flags false i n k → Seen flags false i n (k + 8)
seen_eight {flags} {i} {n} {k} l h e s =
    let u = neither _ _ e in
    let a = neither _ _ u.0 in
    let b = neither _ _ a.0 in
    let c = neither _ _ b.0 in
    let p = neither _ _ u.1 in
    let q = neither _ _ p.0 in
    let r = neither _ _ q.0 in
    let s1 = seen_turn l (omega arith) c.0 s in
    let s2 = on (k + 1) (k + 2) (omega arith) (omega arith) c.1 s1 in
    let s3 = on (k + 2) (k + 3) (omega arith) (omega arith) b.1 s2 in
    let s4 = on (k + 3) (k + 4) (omega arith) (omega arith) a.1 s3 in
    let s5 = on (k + 4) (k + 5) (omega arith) (omega arith) r.0 s4 in
    let s6 = on (k + 5) (k + 6) (omega arith) (omega arith) r.1 s5 in
    let s7 = on (k + 6) (k + 7) (omega arith) (omega arith) q.1 s6 in
    on (k + 7) (k + 8) (omega arith) (omega arith) p.1 s7
  where
    on : (x y : ℕ) → x + 1 ≡ y → x < n → get_or flags x false ≡ false → Seen flags false i n x → Seen flags false i n y
    on x y d g f t = subst (λ (m : ℕ). Seen flags false i n m) d (seen_turn l g f t)

-- the next flag is not v, or there is none
pub seen_stop : {flags : List Bool} {v : Bool} {i n k : ℕ} → Seen flags v i n k → get_or flags k false ≡ not v → Alike flags v i n k
seen_stop s e = record { from = s.from; within = s.within; same = s.same; stop = λ _. e }

pub seen_all : {flags : List Bool} {v : Bool} {i n k : ℕ} → n ≤ k → Seen flags v i n k → Alike flags v i n n
seen_all {flags} {v} {i} {n} {k} h s =
    let w = s.within in
    let e : k ≡ n = omega arith in
    let f = s.from in
    record { from = omega arith; within = omega arith; same = rw e at s.same; stop = λ g. absurd (omega arith) }

-- a run of dead rows and the living ones after it are not both empty
pub alike_goes : {flags : List Bool} {i n j e : ℕ} → i < n → Alike flags true i n j → Alike flags false j n e → i < e
alike_goes {flags} {i} {n} {j} {e} h a b = go (ltb i e) refl
  where
    go : (x : Bool) → ltb i e ≡ x → i < e
    go true q = ltb-true i e q
    go false q =
        let r = ltb-false i e q in
        let a1 = a.from in
        let b1 = b.from in
        let s : e ≡ j = omega arith in
        absurd (false≢true (sym (a.stop (omega arith)) ∙ ap (λ (x : ℕ). get_or flags x false) (sym s) ∙ b.stop (omega arith)))
