-- The number of groups that links make: links that say the same make as many, one link more joins at most two, and an element that no link names
-- is a group of its own. Over any elements and a test of equality. Assumes nothing.
use Prim.Native.Nat.{ℕ, zero, suc, ◌+◌, ◌-◌, ◌≤◌, ◌<◌}
use native.Mathlib.Omega.{arith}
use mathlib.Core.Path.{◌≡◌, refl, sym, ap, ◌∙◌, subst}
use mathlib.Core.Logic.{inl, inr}
use mathlib.Core.Bool.{Bool, true, false, not, ◌&&◌, ◌||◌, cond}
use mathlib.Core.List.Memᴰ
use mathlib.Core.List.{List, [], ◌∷◌, ◌++◌, map, append-nil, append_assoc, Memᴰ}
use lib.ListN.{length}
use lib.Dec.{T, eqb, ltb}
use borrow.Author.Tests.{eqb-true, eqb-false, ltb-true, ltb-false}
use Rattle.complex.specs.Lists.{filter, cons_if, total, one}
use Rattle.complex.specs.Groups.{Together, linked, itself, back, chain}
use Rattle.complex.proofs.Bools.{truth, true_of}
use Rattle.complex.proofs.Sums.{total_append}
use Rattle.complex.proofs.Every.{Every, every_right, every_both, every_at, every_of}
use Rattle.complex.proofs.Groups
use Rattle.complex.proofs.Groups.{Decides, flat, first_at, is_in, group_of, Among, hit, count}

-- what rises strictly from place to place is nowhere below its place
not_below : (f : ℕ → ℕ) (n : ℕ) → ((i j : ℕ) → i < j → j < n → f i < f j) → (i : ℕ) → i < n → i ≤ f i
not_below f n h zero l = omega arith
not_below f n h (suc i) l = let a = not_below f n h i (omega arith) in let b = h i (suc i) (omega arith) l in omega arith

-- and places that it has in order are in order
in_order : (f : ℕ → ℕ) (n : ℕ) → ((i j : ℕ) → i < j → j < n → f i < f j) → (i j : ℕ) → i < n → f i < f j → i < j
in_order f n h i j l r = go (ltb i j) (eqb j i) refl refl
  where
    go : (b c : Bool) → ltb i j ≡ b → eqb j i ≡ c → i < j
    go true c p q = ltb-true i j p
    go false true p q = let e = ap f (eqb-true j i q) in absurd (omega arith)
    go false false p q =
        let a = ltb-false i j p in
        let k : j < i = omega (arith, eqb-false j i q) in
        let m = h j i k l in
        absurd (omega arith)

module _ {A : Type 0} (same : A → A → Bool) where
  -- ---- how many groups hold x
  abbrev held : A → List A → ℕ
  held x g = cond (is_in same g x) 1 0

  held_most : (x : A) (gs : List (List A)) → total (held x) gs ≤ count same x (flat gs)
  held_most x [] = omega arith
  held_most x (g ∷ gs) = let e = total_append (hit same x) g (flat gs) in go (is_in same g x) refl (held_most x gs)
    where
      go : (b : Bool) → is_in same g x ≡ b → total (held x) gs ≤ count same x (flat gs) → cond b 1 0 + total (held x) gs ≤ count same x (flat (g ∷ gs))
      go true q r = let e = total_append (hit same x) g (flat gs) in let m = Groups.in_count same x g (truth q) in omega arith
      go false q r = let e = total_append (hit same x) g (flat gs) in omega arith

  held_least : (x : A) (gs : List (List A)) → Among same gs x → 1 ≤ total (held x) gs
  held_least x [] a = absurd a
  held_least x (g ∷ gs) a = go (is_in same g x) refl a (held_least x gs)
    where
      go : (b : Bool) → is_in same g x ≡ b → Among same (g ∷ gs) x → (Among same gs x → 1 ≤ total (held x) gs) → 1 ≤ cond b 1 0 + total (held x) gs
      go true q a r = omega arith
      go false q (inl t) r = absurd (subst T q t)
      go false q (inr c) r = let h = r c in omega arith

  module _ {L : Type 0} (from to : L → A) where
    abbrev touches : L → List A → Bool
    touches l g = Groups.touches same from to l g

    abbrev untouched : L → List (List A) → List (List A)
    untouched l gs = Groups.untouched same from to l gs

    abbrev join_groups : L → List (List A) → List (List A)
    join_groups l gs = Groups.join_groups same from to l gs

    abbrev join_all : List L → List (List A) → List (List A)
    join_all ts gs = Groups.join_all same from to ts gs

    abbrev parts : List A → List L → List (List A)
    parts xs ts = Groups.parts same from to xs ts

    join_append : (us ts : List L) (gs : List (List A)) → join_all (us ++ ts) gs ≡ join_all ts (join_all us gs)
    join_append [] ts gs = refl
    join_append (u ∷ us) ts gs = join_append us ts (join_groups u gs)

    join_none : (ts : List L) → join_all ts [] ≡ []
    join_none [] = refl
    join_none (t ∷ ts) = join_none ts

    -- ---- the groups that l touches, and those that hold both its ends
    abbrev met : L → List A → ℕ
    met l g = cond (touches l g) 1 0

    abbrev spanned : L → List A → ℕ
    spanned l g = cond (is_in same g (from l) && is_in same g (to l)) 1 0

    met_spanned : (l : L) (gs : List (List A)) → total (met l) gs + total (spanned l) gs ≡ total (held (from l)) gs + total (held (to l)) gs
    met_spanned l [] = refl
    met_spanned l (g ∷ gs) = go (is_in same g (from l)) (is_in same g (to l)) (met_spanned l gs)
      where
        go : (a b : Bool) → total (met l) gs + total (spanned l) gs ≡ total (held (from l)) gs + total (held (to l)) gs
            → cond (a || b) 1 0 + total (met l) gs + (cond (a && b) 1 0 + total (spanned l) gs)
            ≡ cond a 1 0 + total (held (from l)) gs + (cond b 1 0 + total (held (to l)) gs)
        go true true h = omega arith
        go true false h = omega arith
        go false true h = omega arith
        go false false h = omega arith

    none_spanned : (l : L) (gs : List (List A)) → Every (λ (g : List A). T (is_in same g (from l)) → T (is_in same g (to l)) → ⊥) gs
        → total (spanned l) gs ≡ 0
    none_spanned l [] e = refl
    none_spanned l (g ∷ gs) e = go (is_in same g (from l)) (is_in same g (to l)) e.0 (none_spanned l gs e.1)
      where
        go : (a b : Bool) → (T a → T b → ⊥) → total (spanned l) gs ≡ 0 → cond (a && b) 1 0 + total (spanned l) gs ≡ 0
        go true true n h = absurd (n tt tt)
        go true false n h = omega arith
        go false b n h = omega arith

    untouched_length : (l : L) (gs : List (List A)) → length (untouched l gs) + total (met l) gs ≡ length gs
    untouched_length l [] = refl
    untouched_length l (g ∷ gs) = go (touches l g) (untouched_length l gs)
      where
        go : (b : Bool) → length (untouched l gs) + total (met l) gs ≡ length gs
            → length (cons_if (not b) g (untouched l gs)) + (cond b 1 0 + total (met l) gs) ≡ suc (length gs)
        go true h = omega arith
        go false h = omega arith

    -- one group is left of all that a link touches
    join_length : (l : L) (gs : List (List A)) → length (join_groups l gs) + (total (met l) gs - 1) ≡ length gs
    join_length l [] = refl
    join_length l (g ∷ gs) = go (touches l g) (join_length l gs)
      where
        go : (b : Bool) → length (join_groups l gs) + (total (met l) gs - 1) ≡ length gs
            → length (Groups.Joined same from to l g gs b) + (cond b 1 0 + total (met l) gs - 1) ≡ suc (length gs)
        go true h = let u = untouched_length l gs in omega arith
        go false h = omega arith

    -- ---- what belongs together by links that ts imply belongs together by ts
    pub through : (us ts : List L) → Every (λ (u : L). Together from to ts (from u) (to u)) us → {x y : A} → Together from to us x y → Together from to ts x y
    through us ts e (linked u m) = every_at (λ (u : L). Together from to ts (from u) (to u)) us e m
    through us ts e (itself x) = itself x
    through us ts e (back h) = back (through us ts e h)
    through us ts e (chain h k) = chain (through us ts e h) (through us ts e k)

    -- ---- a group more that no link touches
    module _ (x : A) where
      -- gs is hs with the group of x alone somewhere
      data Beside : List (List A) → List (List A) → Type 0 where
        here : (hs : List (List A)) → Beside (one x ∷ hs) hs
        there : (g : List A) {gs hs : List (List A)} → Beside gs hs → Beside (g ∷ gs) (g ∷ hs)

      beside_one : (xs ys : List A) → Beside (map one (xs ++ x ∷ ys)) (map one (xs ++ ys))
      beside_one [] ys = here (map one ys)
      beside_one (y ∷ xs) ys = there (one y) (beside_one xs ys)

      beside_length : {gs hs : List (List A)} → Beside gs hs → length gs ≡ suc (length hs)
      beside_length (here hs) = refl
      beside_length (there g b) = ap suc (beside_length b)

      beside_out : (p : List A → Bool) → p (one x) ≡ false → {gs hs : List (List A)} → Beside gs hs → filter p gs ≡ filter p hs
      beside_out p q (here hs) = rw q
      beside_out p q (there g b) = ap (cons_if (p g) g) (beside_out p q b)

      beside_in : (p : List A → Bool) → p (one x) ≡ true → {gs hs : List (List A)} → Beside gs hs → Beside (filter p gs) (filter p hs)
      beside_in p q (here hs) = rw q (here (filter p hs))
      beside_in p q (there g {gs} {hs} b) = go (p g) (beside_in p q b)
        where
          go : (c : Bool) → Beside (filter p gs) (filter p hs) → Beside (cons_if c g (filter p gs)) (cons_if c g (filter p hs))
          go true r = there g r
          go false r = r

      beside_join : (l : L) → touches l (one x) ≡ false → {gs hs : List (List A)} → Beside gs hs → Beside (join_groups l gs) (join_groups l hs)
      beside_join l q (here hs) = rw q (here (join_groups l hs))
      beside_join l q (there g {gs} {hs} b) = go (touches l g) (beside_join l q b)
        where
          more : Groups.touched same from to l gs ≡ Groups.touched same from to l hs
          more = ap flat (beside_out (touches l) q b)

          go : (c : Bool) → Beside (join_groups l gs) (join_groups l hs)
              → Beside (Groups.Joined same from to l g gs c) (Groups.Joined same from to l g hs c)
          go true r = rw more (there (g ++ Groups.touched same from to l hs) (beside_in (λ (k : List A). not (touches l k)) (ap not q) b))
          go false r = there g r

      beside_all : (ts : List L) → Every (λ (l : L). touches l (one x) ≡ false) ts → {gs hs : List (List A)} → Beside gs hs
          → Beside (join_all ts gs) (join_all ts hs)
      beside_all [] e b = b
      beside_all (t ∷ ts) e b = beside_all ts e.1 (beside_join t e.0 b)

module _ {A : Type 0} (same : A → A → Bool) (D : Decides same) {L : Type 0} (from to : L → A) where
  -- a link between two of the elements
  abbrev pub Inside : List A → L → Type 0
  Inside xs l = Groups.Inside same from to xs l

  -- how many groups the links ts make of xs
  abbrev pub number : List A → List L → ℕ
  number xs ts = length (parts same from to xs ts)

  module _ (xs : List A) (once : (x : A) → count same x xs ≤ 1) where
    -- ---- finer groups are as many at least: the first member of each group is the first of its own finer group, and these come in order
    module _ (d : A) (us ts : List L) (i : Every (Inside xs) ts) (e : Every (λ (u : L). Together from to ts (from u) (to u)) us) where
      abbrev coarse : List (List A)
      coarse = parts same from to xs ts

      abbrev fine : List (List A)
      fine = parts same from to xs us

      abbrev first : ℕ → A
      first n = first_at d coarse n

      abbrev place : A → ℕ
      place x = Groups.place_of same xs x

      abbrev finer : ℕ → ℕ
      finer n = group_of same fine (first n)

      inside : (n : ℕ) → n < length coarse → T (is_in same xs (first n))
      inside n l = Groups.members_in same from to xs ts (first n) n (Groups.none_empty same from to xs ts D once d n l)

      below : (n : ℕ) → n < length coarse → finer n < length fine
      below n l = Groups.in_some same from to xs us (first n) (inside n l)

      first_same : (n : ℕ) → n < length coarse → place (first_at d fine (finer n)) ≡ place (first n)
      first_same n l = omega (arith, before, after)
        where
          y : A
          y = first_at d fine (finer n)

          in_fine : T (is_in same (Groups.group_at fine (finer n)) y)
          in_fine = Groups.none_empty same from to xs us D once d (finer n) (below n l)

          before : place y ≤ place (first n)
          before = Groups.first_earliest same from to xs us D once d (finer n) (first n) (Groups.in_own same from to xs us (first n) (inside n l))

          after : place (first n) ≤ place y
          after =
              let m = Groups.members_in same from to xs us y (finer n) in_fine in
              let t = Groups.same_together same from to xs us D y (first n) m (sym (Groups.in_only same from to xs us D once y (finer n) in_fine)) in
              let q = Groups.together_same same from to xs ts i (through same from to us ts e t) in
              let z = Groups.in_only same from to xs ts D once (first n) n (Groups.none_empty same from to xs ts D once d n l) in
              let o = subst (λ (k : ℕ). T (is_in same (Groups.group_at coarse k) y)) (q ∙ sym z) (Groups.in_own same from to xs ts y m) in
              Groups.first_earliest same from to xs ts D once d n y o

      rises : (n m : ℕ) → n < m → m < length coarse → finer n < finer m
      rises n m l k =
          let a = first_same n (omega arith) in
          let b = first_same m k in
          let c = Groups.by_first same from to xs ts D once d n m l k in
          in_order (λ (j : ℕ). place (first_at d fine j)) (length fine) (Groups.by_first same from to xs us D once d) (finer n) (finer m)
          (below n (omega arith)) (omega arith)

      fewer_by : length coarse ≤ length fine
      fewer_by = go (length coarse) refl
        where
          go : (n : ℕ) → length coarse ≡ n → n ≤ length fine
          go zero q = omega arith
          go (suc n) q = let a = not_below finer (length coarse) rises n (omega arith) in let b = below n (omega arith) in omega arith

    -- links us that belong together by ts leave at least as many groups
    pub fewer : (us ts : List L) → Every (Inside xs) ts → Every (λ (u : L). Together from to ts (from u) (to u)) us → number xs ts ≤ number xs us
    fewer us ts i e = go xs refl
      where
        go : (ys : List A) → ys ≡ xs → number xs ts ≤ number xs us
        go [] q = let z : number xs ts ≡ 0 = ap (λ (ys : List A). number ys ts) (sym q) ∙ ap length (join_none same from to ts) in omega arith
        go (d ∷ ys) q = fewer_by d us ts i e

    -- links that say the same make as many groups
    pub as_many : (us ts : List L) → Every (Inside xs) us → Every (Inside xs) ts
        → Every (λ (u : L). Together from to ts (from u) (to u)) us → Every (λ (t : L). Together from to us (from t) (to t)) ts
        → number xs us ≡ number xs ts
    as_many us ts i j e f = let a = fewer us ts j e in let b = fewer ts us i f in omega arith

    -- ---- one link more
    join_one : (ts : List L) (l : L) → number xs (ts ++ one l) + (total (met same from to l) (parts same from to xs ts) - 1) ≡ number xs ts
    join_one ts l =
        let e = ap length (join_append same from to ts (one l) (map one xs)) in
        let j = join_length same from to l (parts same from to xs ts) in
        omega arith

    -- an element is in one group
    held_once : (ts : List L) (x : A) → T (is_in same xs x) → total (held same x) (parts same from to xs ts) ≡ 1
    held_once ts x t =
        let a = held_most same x (parts same from to xs ts) in
        let b = held_least same x (parts same from to xs ts) (Groups.among same from to xs ts x t) in
        let c = Groups.counted same from to xs ts x in
        let o = once x in
        omega arith

    pub join_same : (ts : List L) (l : L) → Every (Inside xs) ts → Together from to ts (from l) (to l) → number xs (ts ++ one l) ≡ number xs ts
    join_same ts l i t =
        let a = join_one ts l in
        let b = fewer (ts ++ one l) ts i (every_both Q ts (one l) (every_of Q ts linked) (t, tt)) in
        omega arith
      where
        Q : L → Type 0
        Q u = Together from to ts (from u) (to u)

    pub join_less : (ts : List L) (l : L) → Inside xs l → (Together from to ts (from l) (to l) → ⊥) → suc (number xs (ts ++ one l)) ≡ number xs ts
    join_less ts l i n =
        let a = join_one ts l in
        let b = met_spanned same from to l (parts same from to xs ts) in
        let c = held_once ts (from l) i.0 in
        let e = held_once ts (to l) i.1 in
        let z = none_spanned same from to l (parts same from to xs ts) apart in
        omega arith
      where
        Apart : List A → Type 0
        Apart g = T (is_in same g (from l)) → T (is_in same g (to l)) → ⊥

        apart : Every Apart (parts same from to xs ts)
        apart = every_of Apart (parts same from to xs ts)
            (λ g m p q. n (every_at (Groups.Close same from to ts) (parts same from to xs ts) (Groups.close same from to xs ts D) m (from l) (to l) p q))

    pub join_most : (ts : List L) (l : L) → Inside xs l → (number xs (ts ++ one l) ≤ number xs ts) × (number xs ts ≤ suc (number xs (ts ++ one l)))
    join_most ts l i =
        let a = join_one ts l in
        let b = met_spanned same from to l (parts same from to xs ts) in
        let c = held_once ts (from l) i.0 in
        let f = held_once ts (to l) i.1 in
        (omega arith, omega arith)

    -- any number of links more: each joins two groups at most
    pub join_many : (us ts : List L) → Every (Inside xs) us → (number xs (ts ++ us) ≤ number xs ts) × (number xs ts ≤ number xs (ts ++ us) + length us)
    join_many [] ts j = let e = ap (number xs) (append-nil ts) in (omega arith, omega arith)
    join_many (u ∷ us) ts j =
        let e = ap (number xs) (append_assoc ts (one u) us) in
        let a = join_most ts u j.0 in
        let a₀ = a.0 in
        let a₁ = a.1 in
        let b = join_many us (ts ++ one u) j.1 in
        let b₀ = b.0 in
        let b₁ = b.1 in
        (omega arith, omega arith)

    -- links may come last
    pub join_last : (ts us vs : List L) → Every (Inside xs) (ts ++ (us ++ vs)) → number xs (ts ++ (us ++ vs)) ≡ number xs ((ts ++ vs) ++ us)
    join_last ts us vs i =
        as_many (ts ++ (us ++ vs)) ((ts ++ vs) ++ us) i
        (every_of (Inside xs) ((ts ++ vs) ++ us) (λ l m. every_at (Inside xs) (ts ++ (us ++ vs)) i (sooner m)))
        (every_of (λ (u : L). Together from to ((ts ++ vs) ++ us) (from u) (to u)) (ts ++ (us ++ vs)) (λ l m. linked l (later m)))
        (every_of (λ (u : L). Together from to (ts ++ (us ++ vs)) (from u) (to u)) ((ts ++ vs) ++ us) (λ l m. linked l (sooner m)))
      where
        later : {l : L} → Memᴰ l (ts ++ (us ++ vs)) → Memᴰ l ((ts ++ vs) ++ us)
        later m = elim (Memᴰ.append_cases ts m) [
          | inl a ↦ Memᴰ.append_left us (Memᴰ.append_left vs a)
          | inr n ↦ elim (Memᴰ.append_cases us n) [ inl b ↦ Memᴰ.append_right (ts ++ vs) b | inr c ↦ Memᴰ.append_left us (Memᴰ.append_right ts c) ]
        ]

        sooner : {l : L} → Memᴰ l ((ts ++ vs) ++ us) → Memᴰ l (ts ++ (us ++ vs))
        sooner m = elim (Memᴰ.append_cases (ts ++ vs) m) [
          | inl n ↦ elim (Memᴰ.append_cases ts n) [ inl a ↦ Memᴰ.append_left (us ++ vs) a | inr c ↦ Memᴰ.append_right ts (Memᴰ.append_right us c) ]
          | inr b ↦ Memᴰ.append_right ts (Memᴰ.append_left vs b)
        ]

  -- an element that no link names is a group of its own
  pub alone : (xs ys : List A) (x : A) (ts : List L) → Every (λ (l : L). (from l ≡ x → ⊥) × (to l ≡ x → ⊥)) ts
      → number (xs ++ x ∷ ys) ts ≡ suc (number (xs ++ ys) ts)
  alone xs ys x ts e = beside_length same from to x (beside_all same from to x ts (every_of Free ts free) (beside_one same from to x xs ys))
    where
      Free : L → Type 0
      Free l = touches same from to l (one x) ≡ false

      other : (y : A) → (y ≡ x → ⊥) → is_in same (one x) y ≡ false
      other y n = go (same y x) (D.equal y x)
        where
          go : (b : Bool) → (T b → y ≡ x) → (b || false) ≡ false
          go true h = absurd (n (h tt))
          go false h = refl

      free : (l : L) → Memᴰ l ts → Free l
      free l m = let n = every_at (λ (l : L). (from l ≡ x → ⊥) × (to l ≡ x → ⊥)) ts e m in λ i. other (from l) n.0 i || other (to l) n.1 i

  -- ---- one element more
  module _ (xs ys : List A) (x : A) (once : (y : A) → count same y (xs ++ x ∷ ys) ≤ 1) where
    abbrev Unnamed : L → Type 0
    Unnamed l = (from l ≡ x → ⊥) × (to l ≡ x → ⊥)

    -- it is not among the others
    other : (y : A) → T (is_in same (xs ++ ys) y) → y ≡ x → ⊥
    other y t e =
        let m = Groups.in_count same x (xs ++ ys) (subst (λ (z : A). T (is_in same (xs ++ ys) z)) e t) in
        let o = once x in
        let a = total_append (hit same x) xs ys in
        let b = total_append (hit same x) xs (x ∷ ys) in
        let h : hit same x x ≡ 1 = rw (true_of (same x x) (D.reflexive x)) in
        omega arith

    -- so links between the others don't name it
    unnamed : (ts : List L) → Every (Inside (xs ++ ys)) ts → Every Unnamed ts
    unnamed ts i = every_of Unnamed ts (λ l m. let j = every_at (Inside (xs ++ ys)) ts i m in (other (from l) j.0, other (to l) j.1))

    -- and it belongs together with itself only
    apart : (ts : List L) → Every Unnamed ts → {y z : A} → Together from to ts y z → (y ≡ x → z ≡ x) × (z ≡ x → y ≡ x)
    apart ts n (linked l m) = let j = every_at Unnamed ts n m in (λ e. absurd (j.0 e), λ e. absurd (j.1 e))
    apart ts n (itself y) = (λ e. e, λ e. e)
    apart ts n (back h) = let r = apart ts n h in (r.1, r.0)
    apart ts n (chain h k) = let r = apart ts n h in let q = apart ts n k in (λ e. q.0 (r.0 e), λ e. r.1 (q.1 e))

    -- without links it is a group more
    pub one_alone : (ts : List L) → Every (Inside (xs ++ ys)) ts → number (xs ++ x ∷ ys) ts ≡ suc (number (xs ++ ys) ts)
    one_alone ts i = alone xs ys x ts (unnamed ts i)

    -- its first link joins it to a group, each further one joins two at most
    pub one_joined : (ts : List L) → Every (Inside (xs ++ ys)) ts → (u : L) (us : List L) → from u ≡ x → (to u ≡ x → ⊥)
        → Every (Inside (xs ++ x ∷ ys)) (ts ++ u ∷ us)
        → (number (xs ++ x ∷ ys) (ts ++ u ∷ us) ≤ number (xs ++ ys) ts) × (number (xs ++ ys) ts ≤ number (xs ++ x ∷ ys) (ts ++ u ∷ us) + length us)
    one_joined ts i u us f n j =
        let all = xs ++ x ∷ ys in
        let k = every_right (Inside all) ts (u ∷ us) j in
        let a = one_alone ts i in
        let b = join_less all once ts u k.0 (λ t. n ((apart ts (unnamed ts i) t).0 f)) in
        let c = join_many all once us (ts ++ one u) k.1 in
        let c₀ = c.0 in
        let c₁ = c.1 in
        let e = ap (number all) (append_assoc ts (one u) us) in
        (omega arith, omega arith)
