-- A search that follows links, and the groups that it numbers. Assumes nothing.
use Prim.Native.Nat.{ℕ, zero, suc, ◌+◌, ◌≤◌, ◌<◌}
use native.Mathlib.Omega.{arith}
use mathlib.Core.Path.{◌≡◌, refl, sym, ap, ◌∙◌, subst}
use mathlib.Core.Logic.{◌⊎◌, inl, inr}
use mathlib.Core.Bool.{Bool, true, false, not, cond, true≢false}
use mathlib.Core.List.{List, [], ◌∷◌}
use borrow.Author.Tests.{eqb-true, eqb-false, eq-eqb, ne_eqb, ltb-true, ltb-false}
use lib.Dec.{eqb, ltb}
use lib.ListN.{length, get_or, set, length-set}
use lib.Seq.{get_or-set_same, get_or-set_other}
use Rattle.complex.specs.Lists.{total}
use Rattle.rows_groups.specs.Search.{differs, FirstSplit, SameAlong, Reached, outside, Marked, Classes, Numbered, Sorting}

-- ---- one place set
module _ (G : List ℕ) (x a : ℕ) where
  pub at_set : x < length G → get_or (set G x a) x 0 ≡ a
  at_set h = get_or-set_same G x a 0 h

  pub off_set : (p : ℕ) → (p ≡ x) ⊎ (get_or (set G x a) p 0 ≡ get_or G p 0)
  off_set p = go (eqb p x) refl
    where
      go : (b : Bool) → eqb p x ≡ b → (p ≡ x) ⊎ (get_or (set G x a) p 0 ≡ get_or G p 0)
      go true e = inl (eqb-true p x e)
      go false e = inr (get_or-set_other G x p a 0 (eqb-false p x e))

total_set : (f : ℕ → ℕ) (l : List ℕ) (i a : ℕ) → i < length l → total f (set l i a) + f (get_or l i 0) ≡ total f l + f a
total_set f [] i a h = absurd (omega arith)
total_set f (x ∷ l) zero a h = omega arith
total_set f (x ∷ l) (suc i) a h = let r = total_set f l i a (omega arith) in omega arith

-- ---- the two places of a split link join the group
module _ (G : List ℕ) (g x y : ℕ) (hx : x < length G) (hy : y < length G) (d : differs (get_or G x 0) (get_or G y 0) g ≡ true) where
  abbrev joined : List ℕ
  joined = set (set G x g) y g

  hy' : y < length (set G x g)
  hy' = let e = length-set G x g in omega arith

  -- one of them was in it
  one_in : ((get_or G x 0 ≡ g) × (get_or G y 0 ≡ g → ⊥)) ⊎ ((get_or G x 0 ≡ g → ⊥) × (get_or G y 0 ≡ g))
  one_in = go (eqb (get_or G x 0) g) (eqb (get_or G y 0) g) refl refl d
    where
      go : (a b : Bool) → eqb (get_or G x 0) g ≡ a → eqb (get_or G y 0) g ≡ b → cond a (not b) b ≡ true → ((get_or G x 0 ≡ g) × (get_or G y 0 ≡ g → ⊥))
          ⊎ ((get_or G x 0 ≡ g → ⊥) × (get_or G y 0 ≡ g))
      go true true e f q = absurd (true≢false (sym q))
      go true false e f q = inl (eqb-true (get_or G x 0) g e, eqb-false (get_or G y 0) g f)
      go false true e f q = inr (eqb-false (get_or G x 0) g e, eqb-true (get_or G y 0) g f)
      go false false e f q = absurd (true≢false (sym q))

  joined_at : (p : ℕ) → (p ≡ x) ⊎ ((p ≡ y) ⊎ (get_or joined p 0 ≡ get_or G p 0))
  joined_at p = elim (off_set (set G x g) y g p) [
    | inl e ↦ inr (inl e)
    | inr e ↦ elim (off_set G x g p) [
      | inl f ↦ inl f
      | inr f ↦ inr (inr (e ∙ f))
    ]
  ]

  joined_y : get_or joined y 0 ≡ g
  joined_y = at_set (set G x g) y g hy'

  joined_x : get_or joined x 0 ≡ g
  joined_x = elim (off_set (set G x g) y g x) [
    | inl e ↦ subst (λ (p : ℕ). get_or joined p 0 ≡ g) (sym e) joined_y
    | inr e ↦ e ∙ at_set G x g hx
  ]

  joined_size : length joined ≡ length G
  joined_size = length-set (set G x g) y g ∙ length-set G x g

  abbrev outs : ℕ → ℕ
  outs a = cond (eqb a g) 0 1

  out_in : (a : ℕ) → a ≡ g → outs a ≡ 0
  out_in a e = ap (λ (b : Bool). cond b 0 1) (eq-eqb a g e)

  out_off : (a : ℕ) → (a ≡ g → ⊥) → outs a ≡ 1
  out_off a e = ap (λ (b : Bool). cond b 0 1) (ne_eqb a g e)

  pub fewer : outside g joined < outside g G
  fewer =
      let s = total_set outs G x g hx in
      let t = total_set outs (set G x g) y g hy' in
      let z = out_in g refl in
      elim one_in [
        | inl w ↦ elim (off_set G x g y) [
          | inl e ↦ absurd (w.1 (subst (λ (p : ℕ). get_or G p 0 ≡ g) (sym e) w.0))
          | inr e ↦ let q = ap outs e ∙ out_off (get_or G y 0) w.1 in omega arith
        ]
        | inr w ↦ let q = out_off (get_or G x 0) w.0 in omega arith
      ]

  -- what is reached from there is reached
  pub reached_more : (xs ys : List ℕ) (m i : ℕ) → i < m → x ≡ get_or xs i 0 → y ≡ get_or ys i 0 → (G' : List ℕ) → Reached xs ys m g joined G'
      → Reached xs ys m g G G'
  reached_more xs ys m i h ex ey G' r =
      record {
        size = r.size ∙ joined_size;
        closed = r.closed;
        kept = λ p n. elim (joined_at p) [
          | inl e ↦ absurd (n (r.held p (subst (λ (q : ℕ). get_or joined q 0 ≡ g) (sym e) joined_x)))
          | inr (inl e) ↦ absurd (n (r.held p (subst (λ (q : ℕ). get_or joined q 0 ≡ g) (sym e) joined_y)))
          | inr (inr e) ↦ r.kept p n ∙ e
        ];
        held = λ p e. elim (joined_at p) [
          | inl f ↦ r.held p (subst (λ (q : ℕ). get_or joined q 0 ≡ g) (sym f) joined_x)
          | inr (inl f) ↦ r.held p (subst (λ (q : ℕ). get_or joined q 0 ≡ g) (sym f) joined_y)
          | inr (inr f) ↦ r.held p (f ∙ e)
        ];
        only = λ H a n e. r.only H a n (from H a n e);
      }
    where
      from : (H : ℕ → ℕ) → SameAlong xs ys m H → (n : ℕ) → ((p : ℕ) → get_or G p 0 ≡ g → H p ≡ n) → (p : ℕ) → get_or joined p 0 ≡ g → H p ≡ n
      from H a n e p f =
          let xy : H x ≡ H y = ap H ex ∙ a i h ∙ ap H (sym ey) in
          let hx : H x ≡ n = elim one_in [
            | inl w ↦ e x w.0
            | inr w ↦ xy ∙ e y w.1
          ] in
          elim (joined_at p) [
            | inl q ↦ ap H q ∙ hx
            | inr (inl q) ↦ ap H q ∙ sym xy ∙ hx
            | inr (inr q) ↦ e p (sym q ∙ f)
          ]

-- no link is split: all is reached
pub reached_all : (xs ys : List ℕ) (m g r : ℕ) (G : List ℕ) → FirstSplit G xs ys m g r → m ≤ r → Reached xs ys m g G G
reached_all xs ys m g r G f h = record { size = refl; closed = λ i l. f.before i (omega arith); kept = λ p n. refl; held = λ p e. e; only = λ H a n e. e }

-- ---- the groups
same_or_off : (a b g : ℕ) → differs a b g ≡ false → a ≡ g → (b ≡ g → ⊥) → ⊥
same_or_off a b g d e n = true≢false (sym (ap (λ (t : Bool). cond t (not (eqb b g)) (eqb b g)) (eq-eqb a g e) ∙ ap not (ne_eqb b g n)) ∙ d)

same_or_off' : (a b g : ℕ) → differs a b g ≡ false → (a ≡ g → ⊥) → b ≡ g → ⊥
same_or_off' a b g d n e = true≢false (sym (ap (λ (t : Bool). cond t (not (eqb b g)) (eqb b g)) (ne_eqb a g n) ∙ eq-eqb b g e) ∙ d)

module _ (at : List Bool) (xs ys : List ℕ) (m : ℕ) (L : ℕ → ℕ) (C : Classes at xs ys m L) (p g : ℕ) (G : List ℕ) (N : Numbered at xs ys m L p g G) where
  -- nothing to do at p
  module _ (n : Marked at p → (get_or G p 0 ≡ 0 → ⊥)) where
    skipped : Numbered at xs ys m L (p + 1) g G
    skipped = record { most = N.most; done = done; along = N.along; label = N.label; found = N.found }
      where
        done : (q : ℕ) → q < p + 1 → Marked at q → (get_or G q 0 ≡ 0 → ⊥)
        done q l e = go (eqb q p) refl
          where
            go : (b : Bool) → eqb q p ≡ b → (get_or G q 0 ≡ 0 → ⊥)
            go true f = subst (λ (k : ℕ). get_or G k 0 ≡ 0 → ⊥) (sym (eqb-true q p f)) (n (subst (Marked at) (eqb-true q p f) e))
            go false f = N.done q (let u = eqb-false q p f in omega arith) e

  -- a new group at p
  module _ (e : Marked at p) (z : get_or G p 0 ≡ 0) (h : p < length G) where
    -- it is the next class
    class_is : L p ≡ g
    class_is = go (ltb (L p) g) (ltb g (L p)) refl refl
      where
        go : (a b : Bool) → ltb (L p) g ≡ a → ltb g (L p) ≡ b → L p ≡ g
        go true b u w =
            let f = N.found (L p) (ltb-true (L p) g u) in
            let l = N.label f.0 (λ k. let y = f.2 in omega arith) in
            let y = f.2 in
            let q = C.alike (λ (r : ℕ). get_or G r 0) N.along p f.0 e f.1 (omega arith) in
            absurd (omega arith)
        go false true u w =
            let f = C.earlier p e g (ltb-true g (L p) w) in
            let l = N.label f.0 (N.done f.0 f.2 f.1) in
            let y = f.3 in
            let t = N.most f.0 in
            absurd (omega arith)
        go false false u w = let x = ltb-false (L p) g u in let y = ltb-false g (L p) w in omega arith

    in_new : (q : ℕ) → get_or (set G p (g + 1)) q 0 ≡ g + 1 → q ≡ p
    in_new q f = elim (off_set G p (g + 1) q) [
      | inl k ↦ k
      | inr k ↦ absurd (let t = N.most q in omega arith)
    ]

    module _ (G' : List ℕ) (R : Reached xs ys m (g + 1) (set G p (g + 1)) G') where
      here : get_or G' p 0 ≡ g + 1
      here = R.held p (at_set G p (g + 1) h)

      step : (q : ℕ) → ((get_or G' q 0 ≡ g + 1) × (get_or G q 0 ≡ 0) × (L q ≡ g)) ⊎ (get_or G' q 0 ≡ get_or G q 0)
      step q = go (eqb (get_or G' q 0) (g + 1)) refl
        where
          go : (b : Bool) → eqb (get_or G' q 0) (g + 1) ≡ b → ((get_or G' q 0 ≡ g + 1) × (get_or G q 0 ≡ 0) × (L q ≡ g)) ⊎ (get_or G' q 0 ≡ get_or G q 0)
          go true f =
              let k = eqb-true (get_or G' q 0) (g + 1) f in
              inl (
                k,
                R.only (λ (r : ℕ). get_or G r 0) N.along 0 (λ r t. ap (λ (j : ℕ). get_or G j 0) (in_new r t) ∙ z) q k,
                R.only L C.along g (λ r t. ap L (in_new r t) ∙ class_is) q k,
              )
          go false f =
              let n = eqb-false (get_or G' q 0) (g + 1) f in
              elim (off_set G p (g + 1) q) [
                | inl k ↦ absurd (n (ap (λ (j : ℕ). get_or G' j 0) k ∙ here))
                | inr k ↦ inr (R.kept q n ∙ k)
              ]

      started : Numbered at xs ys m L (p + 1) (g + 1) G'
      started = record { most = most; done = done; along = along; label = label; found = found }
        where
          most : (q : ℕ) → get_or G' q 0 ≤ g + 1
          most q = elim (step q) [
            | inl w ↦ let k = w.0 in omega arith
            | inr k ↦ let t = N.most q in omega arith
          ]

          done : (q : ℕ) → q < p + 1 → Marked at q → (get_or G' q 0 ≡ 0 → ⊥)
          done q l f k = go (eqb q p) refl
            where
              go : (b : Bool) → eqb q p ≡ b → ⊥
              go true t = let y = ap (λ (j : ℕ). get_or G' j 0) (eqb-true q p t) in let w = here in omega arith
              go false t = elim (step q) [
                | inl w ↦ let y = w.0 in omega arith
                | inr y ↦ N.done q (let u = eqb-false q p t in omega arith) f (sym y ∙ k)
              ]

          along : SameAlong xs ys m (λ (q : ℕ). get_or G' q 0)
          along i l =
              let x = get_or xs i 0 in
              let y = get_or ys i 0 in
              elim (step x) [
                | inl a ↦ elim (step y) [
                  | inl b ↦ a.0 ∙ sym b.0
                  | inr b ↦ absurd (same_or_off (get_or G' x 0) (get_or G' y 0) (g + 1) (R.closed i l) a.0 (λ k. let t = N.most y in omega arith))
                ]
                | inr a ↦ elim (step y) [
                  | inl b ↦ absurd (same_or_off' (get_or G' x 0) (get_or G' y 0) (g + 1) (R.closed i l) (λ k. let t = N.most x in omega arith) b.0)
                  | inr b ↦ a ∙ N.along i l ∙ sym b
                ]
              ]

          label : (q : ℕ) → (get_or G' q 0 ≡ 0 → ⊥) → get_or G' q 0 ≡ suc (L q)
          label q n = elim (step q) [
            | inl w ↦ let k = w.0 in let t = w.2 in omega arith
            | inr k ↦ k ∙ N.label q (λ t. n (k ∙ t))
          ]

          found : (k : ℕ) → k < g + 1 → (q : ℕ) × Marked at q × (get_or G' q 0 ≡ suc k)
          found k l = go (eqb k g) refl
            where
              go : (b : Bool) → eqb k g ≡ b → (q : ℕ) × Marked at q × (get_or G' q 0 ≡ suc k)
              go true t = (p, e, let u = eqb-true k g t in let w = here in omega arith)
              go false t =
                  let f = N.found k (let u = eqb-false k g t in omega arith) in
                  elim (step f.0) [
                    | inl w ↦ absurd (let a = f.2 in let b = w.1 in omega arith)
                    | inr y ↦ (f.0, f.1, y ∙ f.2)
                  ]

-- ---- place by place
module _ (at : List Bool) (xs ys : List ℕ) (m : ℕ) where
  pub sorting_start : (G : List ℕ) → ((q : ℕ) → get_or G q 0 ≡ 0) → Sorting at xs ys m 0 0 G
  sorting_start G z =
      record {
        few = omega arith;
        right = λ L C. record {
          most = λ q. let t = z q in omega arith;
          done = λ q l. absurd (omega arith);
          along = λ i l. z (get_or xs i 0) ∙ sym (z (get_or ys i 0));
          label = λ q n. absurd (n (z q));
          found = λ k l. absurd (omega arith);
        };
      }

  module _ (p g : ℕ) (G : List ℕ) (S : Sorting at xs ys m p g G) where
    pub sorting_skip : (Marked at p → (get_or G p 0 ≡ 0 → ⊥)) → Sorting at xs ys m (p + 1) g G
    sorting_skip n = record { few = let f = S.few in omega arith; right = λ L C. skipped at xs ys m L C p g G (S.right L C) n }

    pub sorting_new : Marked at p → get_or G p 0 ≡ 0 → p < length G → (G' : List ℕ) → Reached xs ys m (g + 1) (set G p (g + 1)) G'
        → Sorting at xs ys m (p + 1) (g + 1) G'
    sorting_new e z h G' R = record { few = let f = S.few in omega arith; right = λ L C. started at xs ys m L C p g G (S.right L C) e z h G' R }
