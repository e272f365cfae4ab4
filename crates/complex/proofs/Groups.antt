-- Groups that links put together: exactly the classes of elements that belong together, each element in one of them, in the order of their
-- first members. Over any elements and a test of equality. Assumes nothing.
use Prim.Native.Nat.{ℕ, zero, suc, ◌+◌, ◌≤◌, ◌<◌}
use native.Mathlib.Omega.{arith}
use mathlib.Core.Path.{◌≡◌, refl, sym, ap, ◌∙◌, subst}
use mathlib.Core.Logic.{◌⊎◌, inl, inr}
use mathlib.Core.Bool.{Bool, true, false, not, ◌||◌, cond, true≢false, or_assoc}
use mathlib.Core.List.{List, [], ◌∷◌, ◌++◌, map}
use lib.ListN.{length, get_or}
use lib.Dec.{T}
use Rattle.number.specs.Readers.{spread}
use Rattle.complex.specs.Lists.{filter, cons_if, total, one}
use Rattle.complex.specs.Groups
use Rattle.complex.specs.Groups.{Together, linked, itself, back, chain}
use Rattle.complex.proofs.Bools.{truth, true_of, cases, or_left, or_right}
use Rattle.complex.proofs.Sums.{total_append}
use Rattle.complex.proofs.Every.{Every, every_at, every_of, every_filter}

-- a test of equality
pub record Decides {A : Type 0} (same : A → A → Bool) : Type 0 where
  pub equal : (x y : A) → T (same x y) → x ≡ y
  pub reflexive : (x : A) → T (same x x)

-- all members of all groups
abbrev pub flat : {A : Type 0} → List (List A) → List A
flat gs = spread (λ (g : List _). g) gs

flat_one : {A : Type 0} (xs : List A) → flat (map one xs) ≡ xs
flat_one [] = refl
flat_one (x ∷ xs) = ap (λ (l : List _). x ∷ l) (flat_one xs)

-- every sum over the members is one over those of the groups with p and one over the others
total_split : {A : Type 0} (u : A → ℕ) (p : List A → Bool) (gs : List (List A))
    → total u (flat (filter p gs)) + total u (flat (filter (λ (g : List A). not (p g)) gs)) ≡ total u (flat gs)
total_split u p [] = refl
total_split u p (g ∷ gs) = go (p g) (total_split u p gs)
  where
    go : (b : Bool) → total u (flat (filter p gs)) + total u (flat (filter (λ (k : List _). not (p k)) gs)) ≡ total u (flat gs)
        → total u (flat (cons_if b g (filter p gs))) + total u (flat (cons_if (not b) g (filter (λ (k : List _). not (p k)) gs))) ≡ total u (g ++ flat gs)
    go true h = simp total_append (omega arith)
    go false h = simp total_append (omega arith)

-- group i
abbrev pub group_at : {A : Type 0} → List (List A) → ℕ → List A
group_at gs i = get_or gs i []

-- its first member, d if there is none
abbrev pub first_at : {A : Type 0} → A → List (List A) → ℕ → A
first_at d gs i = get_or (group_at gs i) 0 d

module _ {A : Type 0} (same : A → A → Bool) where
  abbrev pub is_in : List A → A → Bool
  is_in g x = Groups.is_in same g x

  abbrev pub group_of : List (List A) → A → ℕ
  group_of gs x = Groups.group_of same gs x

  -- x and y are in the same groups
  abbrev pub Alike : List (List A) → A → A → Type 0
  Alike [] x y = Unit {0}
  Alike (g ∷ gs) x y = (is_in g x ≡ is_in g y) × Alike gs x y

  -- x is in one of them
  abbrev pub Among : List (List A) → A → Type 0
  Among [] x = ⊥
  Among (g ∷ gs) x = T (is_in g x) ⊎ Among gs x

  pub in_append : (g k : List A) (x : A) → is_in (g ++ k) x ≡ (is_in g x || is_in k x)
  in_append [] k x = refl
  in_append (h ∷ g) k x = ap (λ (b : Bool). same x h || b) (in_append g k x) ∙ sym (or_assoc (same x h) (is_in g x) (is_in k x))

  pub in_left : (g k : List A) (x : A) → T (is_in g x) → T (is_in (g ++ k) x)
  in_left g k x t = subst T (sym (in_append g k x)) (or_left (is_in g x) (is_in k x) t)

  pub in_right : (g k : List A) (x : A) → T (is_in k x) → T (is_in (g ++ k) x)
  in_right g k x t = subst T (sym (in_append g k x)) (or_right (is_in g x) (is_in k x) t)

  alike_group : (gs : List (List A)) (x y : A) → Alike gs x y → group_of gs x ≡ group_of gs y
  alike_group [] x y h = refl
  alike_group (g ∷ gs) x y h = λ i. cond (h.0 i) 0 (suc (alike_group gs x y h.1 i))

  among_group : (gs : List (List A)) (x : A) → Among gs x → group_of gs x < length gs
  among_group [] x a = absurd a
  among_group (g ∷ gs) x a = go (is_in g x) refl a (λ r. among_group gs x r)
    where
      go : (b : Bool) → is_in g x ≡ b → Among (g ∷ gs) x → (Among gs x → group_of gs x < length gs) → cond b 0 (suc (group_of gs x)) < suc (length gs)
      go true q a r = omega arith
      go false q (inl i) r = absurd (subst T q i)
      go false q (inr c) r = let h = r c in omega arith

  among_one : (xs : List A) (h : A) → T (is_in xs h) → Among (map one xs) h
  among_one [] h t = t
  among_one (x ∷ xs) h t = elim (cases (same h x) (is_in xs h) t) [
    | inl a ↦ inl (or_left (same h x) false a)
    | inr b ↦ inr (among_one xs h b)
  ]

  -- ---- some of the groups
  module _ (p : List A → Bool) where
    alike_filter : (gs : List (List A)) (x y : A) → Alike gs x y → Alike (filter p gs) x y
    alike_filter [] x y t = tt
    alike_filter (g ∷ gs) x y t = go (p g) (alike_filter gs x y t.1)
      where
        go : (b : Bool) → Alike (filter p gs) x y → Alike (cons_if b g (filter p gs)) x y
        go true r = (t.0, r)
        go false r = r

    alike_flat : (gs : List (List A)) (x y : A) → Alike gs x y → is_in (flat (filter p gs)) x ≡ is_in (flat (filter p gs)) y
    alike_flat [] x y t = refl
    alike_flat (g ∷ gs) x y t = go (p g) (alike_flat gs x y t.1)
      where
        go : (b : Bool) → is_in (flat (filter p gs)) x ≡ is_in (flat (filter p gs)) y
            → is_in (flat (cons_if b g (filter p gs))) x ≡ is_in (flat (cons_if b g (filter p gs))) y
        go true r = in_append g (flat (filter p gs)) x ∙ (λ i. t.0 i || r i) ∙ sym (in_append g (flat (filter p gs)) y)
        go false r = r

    among_filter : (gs : List (List A)) (x : A) → Among gs x → Among (filter (λ (g : List A). not (p g)) gs) x ⊎ T (is_in (flat (filter p gs)) x)
    among_filter [] x a = absurd a
    among_filter (g ∷ gs) x (inl t) = go (p g)
      where
        go : (b : Bool) → Among (cons_if (not b) g (filter (λ (k : List A). not (p k)) gs)) x ⊎ T (is_in (flat (cons_if b g (filter p gs))) x)
        go true = inr (in_left g (flat (filter p gs)) x t)
        go false = inl (inl t)
    among_filter (g ∷ gs) x (inr a) = go (p g) (among_filter gs x a)
      where
        go : (b : Bool) → Among (filter (λ (k : List A). not (p k)) gs) x ⊎ T (is_in (flat (filter p gs)) x)
            → Among (cons_if (not b) g (filter (λ (k : List A). not (p k)) gs)) x ⊎ T (is_in (flat (cons_if b g (filter p gs))) x)
        go true (inl r) = inl r
        go true (inr r) = inr (in_right g (flat (filter p gs)) x r)
        go false (inl r) = inl (inr r)
        go false (inr r) = inr r

  -- ---- how often x stands in a list
  abbrev pub hit : A → A → ℕ
  hit x y = cond (same x y) 1 0

  abbrev pub count : A → List A → ℕ
  count x xs = total (hit x) xs

  pub in_count : (x : A) (xs : List A) → T (is_in xs x) → 0 < count x xs
  in_count x [] t = absurd t
  in_count x (y ∷ ys) t = go (same x y) t (in_count x ys)
    where
      go : (b : Bool) → T (b || is_in ys x) → (T (is_in ys x) → 0 < count x ys) → 0 < cond b 1 0 + count x ys
      go true t r = omega arith
      go false t r = let h = r t in omega arith

  count_in_lem : (x : A) (xs : List A) → 0 < count x xs → T (is_in xs x)
  count_in_lem x [] l = absurd (omega arith)
  count_in_lem x (y ∷ ys) l = go (same x y) l (count_in_lem x ys)
    where
      go : (b : Bool) → 0 < cond b 1 0 + count x ys → (0 < count x ys → T (is_in ys x)) → T (b || is_in ys x)
      go true l r = tt
      go false l r = r (omega arith)

  in_more : (x : A) (xs ys : List A) → count x xs ≤ count x ys → T (is_in xs x) → T (is_in ys x)
  in_more x xs ys l t = count_in_lem x ys (let h = in_count x xs t in omega arith)

  -- ---- order by a measure k: each group's first member is below its others and below all members of later groups
  module _ (k : A → ℕ) where
    abbrev Leads : List A → List A → Type 0
    Leads [] rest = ⊥
    Leads (h ∷ hs) rest = (x : A) → T (is_in (hs ++ rest) x) → k h < k x

    abbrev Sorted : List (List A) → Type 0
    Sorted [] = Unit {0}
    Sorted (g ∷ gs) = Leads g (flat gs) × Sorted gs

    -- a group that takes members from the rest, and one whose rest loses some
    leads_join : (g more rest rest' : List A) → ((x : A) → count x more + count x rest' ≤ count x rest) → Leads g rest → Leads (g ++ more) rest'
    leads_join [] more rest rest' c l = absurd l
    leads_join (h ∷ hs) more rest rest' c l = λ x t. l x (in_more x ((hs ++ more) ++ rest') (hs ++ rest) (let d = c x in simp total_append (omega arith)) t)

    leads_less : (g rest rest' : List A) → ((x : A) → count x rest' ≤ count x rest) → Leads g rest → Leads g rest'
    leads_less [] rest rest' c l = l
    leads_less (h ∷ hs) rest rest' c l = λ x t. l x (in_more x (hs ++ rest') (hs ++ rest) (let d = c x in simp total_append (omega arith)) t)

    sorted_filter : (p : List A → Bool) (gs : List (List A)) → Sorted gs → Sorted (filter p gs)
    sorted_filter p [] h = tt
    sorted_filter p (g ∷ gs) h = go (p g) (sorted_filter p gs h.1)
      where
        go : (b : Bool) → Sorted (filter p gs) → Sorted (cons_if b g (filter p gs))
        go true r = (leads_less g (flat gs) (flat (filter p gs)) (λ x. let e = total_split (hit x) p gs in omega arith) h.0, r)
        go false r = r

  -- ---- the groups by their places
  in_flat : (gs : List (List A)) (i : ℕ) (x : A) → T (is_in (group_at gs i) x) → T (is_in (flat gs) x)
  in_flat [] i x t = absurd t
  in_flat (g ∷ gs) zero x t = in_left g (flat gs) x t
  in_flat (g ∷ gs) (suc i) x t = in_right g (flat gs) x (in_flat gs i x t)

  own : (gs : List (List A)) (x : A) → Among gs x → T (is_in (group_at gs (group_of gs x)) x)
  own [] x a = absurd a
  own (g ∷ gs) x a = go (is_in g x) refl a (own gs x)
    where
      go : (b : Bool) → is_in g x ≡ b → Among (g ∷ gs) x → (Among gs x → T (is_in (group_at gs (group_of gs x)) x))
          → T (is_in (group_at (g ∷ gs) (cond b 0 (suc (group_of gs x)))) x)
      go true q a r = truth q
      go false q (inl t) r = absurd (subst T q t)
      go false q (inr c) r = r c

  -- a member that stands once is in no other group
  only : (gs : List (List A)) (x : A) (i : ℕ) → count x (flat gs) ≤ 1 → T (is_in (group_at gs i) x) → i ≡ group_of gs x
  only [] x i l t = absurd t
  only (g ∷ gs) x zero l t = rw (true_of (is_in g x) t)
  only (g ∷ gs) x (suc i) l t = let e = total_append (hit x) g (flat gs) in go (is_in g x) refl (only gs x i (omega arith) t)
    where
      go : (b : Bool) → is_in g x ≡ b → i ≡ group_of gs x → suc i ≡ cond b 0 (suc (group_of gs x))
      go true q r =
          let e = total_append (hit x) g (flat gs) in
          let m = in_count x g (truth q) in
          let n = in_count x (flat gs) (in_flat gs i x t) in
          absurd (omega arith)
      go false q r = ap suc r

  module _ (D : Decides same) (d : A) (k : A → ℕ) where
    first_in_lem : (gs : List (List A)) (i : ℕ) → Sorted k gs → i < length gs → T (is_in (group_at gs i) (first_at d gs i))
    first_in_lem [] i h l = absurd (omega arith)
    first_in_lem (g ∷ gs) zero h l = go g h.0
      where
        go : (g : List A) → Leads k g (flat gs) → T (is_in g (get_or g 0 d))
        go [] l = absurd l
        go (x ∷ xs) l = or_left (same x x) (is_in xs x) (D.reflexive x)
    first_in_lem (g ∷ gs) (suc i) h l = first_in_lem gs i h.1 (omega arith)

    earliest : (gs : List (List A)) (i : ℕ) (x : A) → Sorted k gs → T (is_in (group_at gs i) x) → k (first_at d gs i) ≤ k x
    earliest [] i x h t = absurd t
    earliest (g ∷ gs) zero x h t = go g h.0 t
      where
        go : (g : List A) → Leads k g (flat gs) → T (is_in g x) → k (get_or g 0 d) ≤ k x
        go [] l t = absurd l
        go (y ∷ ys) l t = elim (cases (same x y) (is_in ys x) t) [
          | inl e ↦ let z = ap k (D.equal x y e) in omega arith
          | inr m ↦ let z = l x (in_left ys (flat gs) x m) in omega arith
        ]
    earliest (g ∷ gs) (suc i) x h t = earliest gs i x h.1 t

    ordered : (gs : List (List A)) (i j : ℕ) → Sorted k gs → i < j → j < length gs → k (first_at d gs i) < k (first_at d gs j)
    ordered [] i j h l m = absurd (omega arith)
    ordered (g ∷ gs) zero zero h l m = absurd (omega arith)
    ordered (g ∷ gs) zero (suc j) h l m = go g h.0 (in_flat gs j (first_at d gs j) (first_in_lem gs j h.1 (omega arith)))
      where
        go : (g : List A) → Leads k g (flat gs) → T (is_in (flat gs) (first_at d gs j)) → k (get_or g 0 d) < k (first_at d gs j)
        go [] l t = absurd l
        go (y ∷ ys) l t = l (first_at d gs j) (in_right ys (flat gs) (first_at d gs j) t)
    ordered (g ∷ gs) (suc i) zero h l m = absurd (omega arith)
    ordered (g ∷ gs) (suc i) (suc j) h l m = ordered gs i j h.1 (omega arith) (omega arith)

  -- ---- places of elements
  -- the place of x in a list
  abbrev pub place_of : List A → A → ℕ
  place_of [] x = 0
  place_of (y ∷ ys) x = cond (same x y) 0 (suc (place_of ys x))

  -- elements that stand once are sorted by their places; n stand before xs
  sorted_one : Decides same → (k : A → ℕ) (n : ℕ) (xs : List A) → ((x : A) → T (is_in xs x) → k x ≡ n + place_of xs x) → ((x : A) → count x xs ≤ 1)
      → Sorted k (map one xs)
  sorted_one D k n [] f o = tt
  sorted_one D k n (a ∷ xs) f o = (
    λ x t. go x (subst (λ (l : List A). T (is_in l x)) (flat_one xs) t),
    sorted_one D k (suc n) xs later (λ x. let h = o x in
        omega arith),
  )
    where
      other : (x : A) → T (is_in xs x) → same x a ≡ false
      other x t = go (same x a) (o x)
        where
          go : (b : Bool) → cond b 1 0 + count x xs ≤ 1 → b ≡ false
          go true l = absurd (let h = in_count x xs t in omega arith)
          go false l = refl

      later : (x : A) → T (is_in xs x) → k x ≡ suc n + place_of xs x
      later x t = let h : k x ≡ n + suc (place_of xs x) = f x (or_right (same x a) (is_in xs x) t) ∙ rw (other x t) in omega arith

      go : (x : A) → T (is_in xs x) → k a < k x
      go x t =
          let h : k a ≡ n + 0 = f a (or_left (same a a) (is_in xs a) (D.reflexive a)) ∙ rw (true_of (same a a) (D.reflexive a)) in
          let l = later x t in
          omega arith

  -- ---- groups that links join
  module _ {L : Type 0} (from to : L → A) where
    abbrev pub touches : L → List A → Bool
    touches t g = Groups.touches same from to t g

    abbrev pub touched : L → List (List A) → List A
    touched t gs = Groups.touched same from to t gs

    abbrev pub untouched : L → List (List A) → List (List A)
    untouched t gs = Groups.untouched same from to t gs

    abbrev pub join_groups : L → List (List A) → List (List A)
    join_groups t gs = Groups.join_groups same from to t gs

    abbrev pub join_all : List L → List (List A) → List (List A)
    join_all ts gs = Groups.join_all same from to ts gs

    -- the groups g and gs, where the link t touches g if b
    abbrev pub Joined : L → List A → List (List A) → Bool → List (List A)
    Joined t g gs b = cond b ((g ++ touched t gs) ∷ untouched t gs) (g ∷ join_groups t gs)

    -- joining moves members and loses none: every sum over the members stays
    total_join : (u : A → ℕ) (t : L) (gs : List (List A)) → total u (flat (join_groups t gs)) ≡ total u (flat gs)
    total_join u t [] = refl
    total_join u t (g ∷ gs) = go (touches t g) (total_join u t gs)
      where
        go : (b : Bool) → total u (flat (join_groups t gs)) ≡ total u (flat gs) → total u (flat (Joined t g gs b)) ≡ total u (g ++ flat gs)
        go true h = let s = total_split u (touches t) gs in simp total_append (omega arith)
        go false h = simp total_append (omega arith)

    total_all : (u : A → ℕ) (ts : List L) (gs : List (List A)) → total u (flat (join_all ts gs)) ≡ total u (flat gs)
    total_all u [] gs = refl
    total_all u (t ∷ ts) gs = total_all u ts (join_groups t gs) ∙ total_join u t gs

    sorted_join : (k : A → ℕ) (t : L) (gs : List (List A)) → Sorted k gs → Sorted k (join_groups t gs)
    sorted_join k t [] h = tt
    sorted_join k t (g ∷ gs) h = go (touches t g) (sorted_join k t gs h.1)
      where
        go : (b : Bool) → Sorted k (join_groups t gs) → Sorted k (Joined t g gs b)
        go true r = (
          leads_join k g (touched t gs) (flat gs) (flat (untouched t gs)) (λ x. let e = total_split (hit x) (touches t) gs in omega arith) h.0,
          sorted_filter k (λ (x : List A). not (touches t x)) gs h.1,
        )
        go false r = (leads_less k g (flat gs) (flat (join_groups t gs)) (λ x. let e = total_join (hit x) t gs in omega arith) h.0, r)

    sorted_all : (k : A → ℕ) (ts : List L) (gs : List (List A)) → Sorted k gs → Sorted k (join_all ts gs)
    sorted_all k [] gs h = h
    sorted_all k (t ∷ ts) gs h = sorted_all k ts (join_groups t gs) (sorted_join k t gs h)

    -- ---- what is together stays together
    module _ (t : L) where
      alike_join : (gs : List (List A)) (x y : A) → Alike gs x y → Alike (join_groups t gs) x y
      alike_join [] x y h = h
      alike_join (g ∷ gs) x y h = go (touches t g) (alike_join gs x y h.1)
        where
          go : (b : Bool) → Alike (join_groups t gs) x y → Alike (Joined t g gs b) x y
          go true r = (
            in_append g (touched t gs) x ∙ (λ i. h.0 i || alike_flat (touches t) gs x y h.1 i) ∙ sym (in_append g (touched t gs) y),
            alike_filter (λ (k : List A). not (touches t k)) gs x y h.1,
          )
          go false r = (h.0, r)

      -- untouched groups hold neither end
      neither : (g : List A) → touches t g ≡ false → is_in g (from t) ≡ is_in g (to t)
      neither g q = go (is_in g (from t)) (is_in g (to t)) q
        where
          go : (a b : Bool) → (a || b) ≡ false → a ≡ b
          go true b z = absurd (true≢false z)
          go false true z = absurd (true≢false z)
          go false false z = refl

      neither_all : (gs : List (List A)) → Alike (untouched t gs) (from t) (to t)
      neither_all [] = tt
      neither_all (g ∷ gs) = go (touches t g) refl (neither_all gs)
        where
          go : (b : Bool) → touches t g ≡ b → Alike (untouched t gs) (from t) (to t) → Alike (cons_if (not b) g (untouched t gs)) (from t) (to t)
          go true q r = r
          go false q r = (neither g q, r)

      -- an end of t that is among gs is in what t touches
      in_touched : (x : A) → ((g : List A) → T (is_in g x) → T (touches t g)) → (gs : List (List A)) → Among gs x → T (is_in (touched t gs) x)
      in_touched x f [] a = absurd a
      in_touched x f (g ∷ gs) (inl i) = rw (true_of (touches t g) (f g i)) (in_left g (touched t gs) x i)
      in_touched x f (g ∷ gs) (inr a) = go (touches t g) (in_touched x f gs a)
        where
          go : (b : Bool) → T (is_in (touched t gs) x) → T (is_in (flat (cons_if b g (filter (touches t) gs))) x)
          go true r = in_right g (touched t gs) x r
          go false r = r

      by_from : (g : List A) → T (is_in g (from t)) → T (touches t g)
      by_from g i = or_left (is_in g (from t)) (is_in g (to t)) i

      by_to : (g : List A) → T (is_in g (to t)) → T (touches t g)
      by_to g i = or_right (is_in g (from t)) (is_in g (to t)) i

      join_alike : (gs : List (List A)) → Among gs (from t) → Among gs (to t) → Alike (join_groups t gs) (from t) (to t)
      join_alike [] a b = tt
      join_alike (g ∷ gs) a b = go (touches t g) refl (λ c d. join_alike gs c d)
        where
          here : (x : A) → ((k : List A) → T (is_in k x) → T (touches t k)) → Among (g ∷ gs) x → is_in (g ++ touched t gs) x ≡ true
          here x f (inl i) = true_of (is_in (g ++ touched t gs) x) (in_left g (touched t gs) x i)
          here x f (inr c) = true_of (is_in (g ++ touched t gs) x) (in_right g (touched t gs) x (in_touched x f gs c))

          later : (x : A) → ((k : List A) → T (is_in k x) → T (touches t k)) → touches t g ≡ false → Among (g ∷ gs) x → Among gs x
          later x f q (inl i) = absurd (subst T q (f g i))
          later x f q (inr c) = c

          go : (b : Bool) → touches t g ≡ b → (Among gs (from t) → Among gs (to t) → Alike (join_groups t gs) (from t) (to t))
              → Alike (Joined t g gs b) (from t) (to t)
          go true q r = (here (from t) by_from a ∙ sym (here (to t) by_to b), neither_all gs)
          go false q r = (neither g q, r (later (from t) by_from q a) (later (to t) by_to q b))

      among_join : (gs : List (List A)) (x : A) → Among gs x → Among (join_groups t gs) x
      among_join [] x a = a
      among_join (g ∷ gs) x (inl i) = go (touches t g)
        where
          go : (b : Bool) → Among (Joined t g gs b) x
          go true = inl (in_left g (touched t gs) x i)
          go false = inl i
      among_join (g ∷ gs) x (inr a) = go (touches t g) (among_join gs x a)
        where
          other : Among (untouched t gs) x ⊎ T (is_in (touched t gs) x) → Among ((g ++ touched t gs) ∷ untouched t gs) x
          other (inl r) = inr r
          other (inr r) = inl (in_right g (touched t gs) x r)

          go : (b : Bool) → Among (join_groups t gs) x → Among (Joined t g gs b) x
          go true r = other (among_filter (touches t) gs x a)
          go false r = inr r

    alike_all : (ts : List L) (gs : List (List A)) (x y : A) → Alike gs x y → Alike (join_all ts gs) x y
    alike_all [] gs x y h = h
    alike_all (t ∷ ts) gs x y h = alike_all ts (join_groups t gs) x y (alike_join t gs x y h)

    among_all : (ts : List L) (gs : List (List A)) (x : A) → Among gs x → Among (join_all ts gs) x
    among_all [] gs x a = a
    among_all (t ∷ ts) gs x a = among_all ts (join_groups t gs) x (among_join t gs x a)

    abbrev Ends : List (List A) → L → Type 0
    Ends gs t = Among gs (from t) × Among gs (to t)

    ends_join : (u : L) (gs : List (List A)) (ts : List L) → Every (Ends gs) ts → Every (Ends (join_groups u gs)) ts
    ends_join u gs [] e = tt
    ends_join u gs (t ∷ ts) e = ((among_join u gs (from t) e.0.0, among_join u gs (to t) e.0.1), ends_join u gs ts e.1)

    join_all_lem : (ts : List L) (gs : List (List A)) → Every (Ends gs) ts → Every (λ (t : L). Alike (join_all ts gs) (from t) (to t)) ts
    join_all_lem [] gs e = tt
    join_all_lem (u ∷ us) gs e =
        (alike_all us (join_groups u gs) (from u) (to u) (join_alike u gs e.0.0 e.0.1), join_all_lem us (join_groups u gs) (ends_join u gs us e.1))

    -- ---- members of a group belong together
    module _ (ts : List L) where
      abbrev pub Close : List A → Type 0
      Close g = (x y : A) → T (is_in g x) → T (is_in g y) → Together from to ts x y

      abbrev Link : L → Type 0
      Link t = Together from to ts (from t) (to t)

      close_one : Decides same → (xs : List A) → Every Close (map one xs)
      close_one D [] = tt
      close_one D (a ∷ xs) = (λ x y i j. subst (Together from to ts x) (same_one x i ∙ sym (same_one y j)) (itself x), close_one D xs)
        where
          same_one : (x : A) → T (is_in (one a) x) → x ≡ a
          same_one x i = elim (cases (same x a) false i) [ inl e ↦ D.equal x a e | inr n ↦ absurd n ]

      module _ (t : L) (l : Link t) where
        -- from any member of a touched group to one end of t
        reach : (g : List A) → T (touches t g) → Close g → (x : A) → T (is_in g x) → Together from to ts x (from t)
        reach g h c x i = elim (cases (is_in g (from t)) (is_in g (to t)) h) [
          | inl a ↦ c x (from t) i a
          | inr b ↦ chain (c x (to t) i b) (back l)
        ]

        reach_all : (gs : List (List A)) → Every Close gs → (x : A) → T (is_in (touched t gs) x) → Together from to ts x (from t)
        reach_all [] e x i = absurd i
        reach_all (g ∷ gs) e x i = go (touches t g) refl i (reach_all gs e.1 x)
          where
            go : (b : Bool) → touches t g ≡ b → T (is_in (flat (cons_if b g (filter (touches t) gs))) x)
                → (T (is_in (touched t gs) x) → Together from to ts x (from t)) → Together from to ts x (from t)
            go true q i r = elim (cases (is_in g x) (is_in (touched t gs) x) (subst T (in_append g (touched t gs) x) i)) [
              | inl a ↦ reach g (truth q) e.0 x a
              | inr b ↦ r b
            ]
            go false q i r = r i

        close_join : (gs : List (List A)) → Every Close gs → Every Close (join_groups t gs)
        close_join [] e = tt
        close_join (g ∷ gs) e = go (touches t g) refl (close_join gs e.1)
          where
            toward : T (touches t g) → (x : A) → T (is_in (g ++ touched t gs) x) → Together from to ts x (from t)
            toward h x i = elim (cases (is_in g x) (is_in (touched t gs) x) (subst T (in_append g (touched t gs) x) i)) [
              | inl a ↦ reach g h e.0 x a
              | inr b ↦ reach_all gs e.1 x b
            ]

            go : (b : Bool) → touches t g ≡ b → Every Close (join_groups t gs) → Every Close (Joined t g gs b)
            go true q r = (
              λ x y i j. chain (toward (truth q) x i) (back (toward (truth q) y j)),
              every_filter Close (λ (k : List A). not
                  (touches t k)) gs e.1,
            )
            go false q r = (e.0, r)

      close_all : (us : List L) (gs : List (List A)) → Every Link us → Every Close gs → Every Close (join_all us gs)
      close_all [] gs l e = e
      close_all (u ∷ us) gs l e = close_all us (join_groups u gs) l.1 (close_join u l.0 gs e)

      close_group : (gs : List (List A)) (x y : A) → Every Close gs → Among gs x → group_of gs x ≡ group_of gs y → Together from to ts x y
      close_group [] x y e a q = absurd a
      close_group (g ∷ gs) x y e a q = go (is_in g x) (is_in g y) refl refl a q (close_group gs x y e.1)
        where
          go : (b c : Bool) → is_in g x ≡ b → is_in g y ≡ c → Among (g ∷ gs) x → cond b 0 (suc (group_of gs x)) ≡ cond c 0 (suc (group_of gs y))
              → (Among gs x → group_of gs x ≡ group_of gs y → Together from to ts x y) → Together from to ts x y
          go true true i j a q r = e.0 x y (truth i) (truth j)
          go true false i j a q r = absurd (omega arith)
          go false true i j a q r = absurd (omega arith)
          go false false i j (inl h) q r = absurd (subst T i h)
          go false false i j (inr h) q r = r h (omega arith)

    -- a link between two of the elements
    abbrev pub Inside : List A → L → Type 0
    Inside xs t = T (is_in xs (from t)) × T (is_in xs (to t))

    -- ---- the groups that the links ts make of the elements xs
    module _ (xs : List A) (ts : List L) where
      abbrev pub parts : List (List A)
      parts = join_all ts (map one xs)

      pub among : (x : A) → T (is_in xs x) → Among parts x
      among x t = among_all ts (map one xs) x (among_one xs x t)

      pub counted : (x : A) → count x (flat parts) ≡ count x xs
      counted x = total_all (hit x) ts (map one xs) ∙ ap (count x) (flat_one xs)

      -- each element is in the group of its place
      pub in_some : (x : A) → T (is_in xs x) → group_of parts x < length parts
      in_some x t = among_group parts x (among x t)

      pub in_own : (x : A) → T (is_in xs x) → T (is_in (group_at parts (group_of parts x)) x)
      in_own x t = own parts x (among x t)

      -- no group has another member
      pub members_in : (x : A) (i : ℕ) → T (is_in (group_at parts i) x) → T (is_in xs x)
      members_in x i t = in_more x (flat parts) xs (let a = counted x in omega arith) (in_flat parts i x t)

      -- elements are in one group exactly if they belong together
      pub linked_same : Every (Inside xs) ts → Every (λ (t : L). group_of parts (from t) ≡ group_of parts (to t)) ts
      linked_same e = every_of (λ (t : L). group_of parts (from t) ≡ group_of parts (to t)) ts
          (λ t m. alike_group parts (from t) (to t) (every_at (λ (t : L). Alike parts (from t) (to t)) ts (join_all_lem ts (map one xs) ends) m))
        where
          ends : Every (Ends (map one xs)) ts
          ends = every_of (Ends (map one xs)) ts (λ t m. let i = every_at (Inside xs) ts e m in (among_one xs (from t) i.0, among_one xs (to t) i.1))

      pub together_same : Every (Inside xs) ts → {x y : A} → Together from to ts x y → group_of parts x ≡ group_of parts y
      together_same e (linked t m) = every_at (λ (t : L). group_of parts (from t) ≡ group_of parts (to t)) ts (linked_same e) m
      together_same e (itself x) = refl
      together_same e (back h) = sym (together_same e h)
      together_same e (chain h k) = together_same e h ∙ together_same e k

      -- members of one group belong together
      pub close : Decides same → Every (Close ts) parts
      close D = close_all ts ts (map one xs) (every_of (Link ts) ts linked) (close_one ts D xs)

      pub same_together : Decides same → (x y : A) → T (is_in xs x) → group_of parts x ≡ group_of parts y → Together from to ts x y
      same_together D x y t q = close_group ts parts x y (close D) (among x t) q

      -- where each element stands once
      module _ (D : Decides same) (once : (x : A) → count x xs ≤ 1) where
        sorted : Sorted (place_of xs) parts
        sorted = sorted_all (place_of xs) ts (map one xs) (sorted_one D (place_of xs) 0 xs (λ x t. omega arith) once)

        -- it is in no other group
        pub in_only : (x : A) (i : ℕ) → T (is_in (group_at parts i) x) → i ≡ group_of parts x
        in_only x i t = only parts x i (let a = counted x in let b = once x in omega arith) t

        -- no group is empty: its first member is in it
        pub none_empty : (d : A) (i : ℕ) → i < length parts → T (is_in (group_at parts i) (first_at d parts i))
        none_empty d i l = first_in_lem D d (place_of xs) parts i sorted l

        -- of a group's members the first stands earliest among the elements
        pub first_earliest : (d : A) (i : ℕ) (x : A) → T (is_in (group_at parts i) x) → place_of xs (first_at d parts i) ≤ place_of xs x
        first_earliest d i x t = earliest D d (place_of xs) parts i x sorted t

        -- the groups are in the order of their first members
        pub by_first : (d : A) (i j : ℕ) → i < j → j < length parts → place_of xs (first_at d parts i) < place_of xs (first_at d parts j)
        by_first d i j l m = ordered D d (place_of xs) parts i j sorted l m
