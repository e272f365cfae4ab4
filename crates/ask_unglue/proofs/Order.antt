-- The ends at a vertex stand in the order of their places. Assumes nothing.
use Prim.Native.Nat.{ℕ, suc, ◌+◌, ◌≤◌, ◌<◌}
use native.Mathlib.Omega.{arith}
use mathlib.Core.Path.{◌≡◌, refl, sym, ap, subst}
use mathlib.Core.Logic.{inl, inr}
use mathlib.Core.Bool.{Bool, true, false, ◌&&◌, ◌||◌, cond}
use mathlib.Core.List.{List, [], ◌∷◌, ◌++◌}
use mathlib.Core.Option.{some}
use borrow.Author.Tests.{eq-eqb, ne_eqb}
use lib.Dec.{T, eqb, ltb, ltb→lt}
use lib.ListN.{length}
use Rattle.complex.specs.Lists.{cons_if, rising}
use Rattle.complex.specs.Cells.{Halfedge, Figure, vertex, open_edge, closed_edge, face, LiveCell, ids, along, against, same, some_if, lookup, is_open, tail_of}
use Rattle.complex.specs.Uses.{figure_ends, ends_at, is_in}
use Rattle.complex.proofs.Bools.{truth, true_of, both, pair, cases}
use Rattle.complex.proofs.Keep.{same_eq}
use Rattle.complex.proofs.Groups.{in_append}
use Rattle.complex.proofs.EndGroups.{place_of}
use Rattle.store.specs.Index.{row_of}
use Rattle.rows_links.specs.Links.{place_at}
use Rattle.ask_unglue.specs.Places.{is_end}

-- ---- the ends of one edge
figure_edge : (v i : ℕ) (t : Figure) (h : Halfedge) → T (is_in (figure_ends v i t) h) → (h.edge ≡ i) × T (is_open (some t)) × T (eqb (tail_of (λ j. some t) h) v)
figure_edge v i (vertex p) h m = absurd m
figure_edge v i (open_edge a b bs) h m = go (eqb a v) (eqb b v) refl refl m
  where
    first : same h (along i) ≡ true → eqb a v ≡ true → (h.edge ≡ i) × T true × T (eqb (tail_of (λ j. some (open_edge a b bs)) h) v)
    first s e =
        let q = same_eq h (along i) (truth s) in
        (ap (λ (k : Halfedge). k.edge) q, tt, subst (λ (k : Halfedge). T (eqb (tail_of (λ j. some (open_edge a b bs)) k) v)) (sym q) (truth e))

    second : same h (against i) ≡ true → eqb b v ≡ true → (h.edge ≡ i) × T true × T (eqb (tail_of (λ j. some (open_edge a b bs)) h) v)
    second s e =
        let q = same_eq h (against i) (truth s) in
        (ap (λ (k : Halfedge). k.edge) q, tt, subst (λ (k : Halfedge). T (eqb (tail_of (λ j. some (open_edge a b bs)) k) v)) (sym q) (truth e))

    last : eqb b v ≡ true → T (is_in (against i ∷ []) h) → (h.edge ≡ i) × T true × T (eqb (tail_of (λ j. some (open_edge a b bs)) h) v)
    last f m = elim (cases (same h (against i)) false m) [
      | inl s ↦ second (true_of (same h (against i)) s) f
      | inr n ↦ absurd n
    ]

    go : (x y : Bool) → eqb a v ≡ x → eqb b v ≡ y → T (is_in (cons_if x (along i) (cons_if y (against i) [])) h) → (h.edge ≡ i) × T true
        × T (eqb (tail_of (λ j. some (open_edge a b bs)) h) v)
    go true true e f m = elim (cases (same h (along i)) (is_in (against i ∷ []) h) m) [
      | inl s ↦ first (true_of (same h (along i)) s) e
      | inr n ↦ last f n
    ]
    go true false e f m = elim (cases (same h (along i)) false m) [
      | inl s ↦ first (true_of (same h (along i)) s) e
      | inr n ↦ absurd n
    ]
    go false true e f m = last f m
    go false false e f m = absurd m
figure_edge v i (closed_edge bs) h m = absurd m
figure_edge v i (face ks) h m = absurd m

-- ---- the listed ends are ends
pub listed : (lo : ℕ) (cs : List LiveCell) (hi v : ℕ) (h : Halfedge) → T (rising lo (ids cs) hi) → T (is_in (ends_at cs v) h) → T (is_end cs v h) × (lo < h.edge)
listed lo [] hi v h t m = absurd m
listed lo (c ∷ cs) hi v h t m =
    let b = both (ltb lo c.id) (rising c.id (ids cs) hi) t in
    let l = ltb→lt lo c.id b.0 in
    elim (cases (is_in (figure_ends v c.id c.figure) h) (is_in (ends_at cs v) h)
    (subst T (in_append same (figure_ends v c.id c.figure) (ends_at cs v) h) m)) [
      | inl k ↦ let f = figure_edge v c.id c.figure h k in (
        subst (λ (y : Bool). T (is_open (some_if y c.figure (lookup cs h.edge)) && eqb (tail_of (λ j. some_if y c.figure (lookup cs h.edge)) h) v))
            (sym (eq-eqb c.id h.edge (sym f.0))) (pair (is_open (some c.figure)) (eqb (tail_of (λ j. some c.figure) h) v) f.1 f.2),
        let e = f.0 in omega arith,
      )
      | inr k ↦ let r = listed c.id cs hi v h b.1 k in (
        subst (λ (y : Bool). T (is_open (some_if y c.figure (lookup cs h.edge)) && eqb (tail_of (λ j. some_if y c.figure (lookup cs h.edge)) h) v))
            (sym (ne_eqb c.id h.edge (λ e. let n = r.1 in omega arith))) r.0,
        let n = r.1 in omega arith,
      )
    ]

-- ---- order
place_left : (xs ys : List Halfedge) (x : Halfedge) → T (is_in xs x) → place_of (xs ++ ys) x ≡ place_of xs x
place_left [] ys x t = absurd t
place_left (a ∷ xs) ys x t = go (same x a) t (place_left xs ys x)
  where
    go : (b : Bool) → T (b || is_in xs x) → (T (is_in xs x) → place_of (xs ++ ys) x ≡ place_of xs x)
        → cond b 0 (suc (place_of (xs ++ ys) x)) ≡ cond b 0 (suc (place_of xs x))
    go true t r = refl
    go false t r = ap suc (r t)

place_right : (xs ys : List Halfedge) (x : Halfedge) → is_in xs x ≡ false → place_of (xs ++ ys) x ≡ length xs + place_of ys x
place_right [] ys x e = omega arith
place_right (a ∷ xs) ys x e = go (same x a) e (place_right xs ys x)
  where
    go : (b : Bool) → (b || is_in xs x) ≡ false → (is_in xs x ≡ false → place_of (xs ++ ys) x ≡ length xs + place_of ys x)
        → cond b 0 (suc (place_of (xs ++ ys) x)) ≡ suc (length xs) + place_of ys x
    go true e r = absurd (subst T e tt)
    go false e r = let h = r e in omega arith

place_in : (xs : List Halfedge) (x : Halfedge) → T (is_in xs x) → place_of xs x < length xs
place_in [] x t = absurd t
place_in (a ∷ xs) x t = go (same x a) t (place_in xs x)
  where
    go : (b : Bool) → T (b || is_in xs x) → (T (is_in xs x) → place_of xs x < length xs) → cond b 0 (suc (place_of xs x)) < suc (length xs)
    go true t r = omega arith
    go false t r = let h = r t in omega arith

abbrev side : Halfedge → ℕ
side h = cond h.backward 1 0

side_few : (h : Halfedge) → side h ≤ 1
side_few h = go h.backward
  where
    go : (b : Bool) → cond b 1 0 ≤ 1
    go true = omega arith
    go false = omega arith

near : (i e : ℕ) (is : List ℕ) → e ≡ i → row_of e (i ∷ is) ≡ 0
near i e is q = ap (λ (b : Bool). cond b 0 (suc (row_of e is))) (eq-eqb i e (sym q))

far : (i e : ℕ) (is : List ℕ) → i < e → row_of e (i ∷ is) ≡ suc (row_of e is)
far i e is q = ap (λ (b : Bool). cond b 0 (suc (row_of e is))) (ne_eqb i e (λ f. omega arith))

-- of one edge's ends the start is the first
figure_order : (v i : ℕ) (t : Figure) (x y : Halfedge) → T (is_in (figure_ends v i t) x) → T (is_in (figure_ends v i t) y)
    → place_of (figure_ends v i t) x < place_of (figure_ends v i t) y → cond x.backward 1 0 < cond y.backward 1 0
figure_order v i (vertex p) x y m n l = absurd m
figure_order v i (open_edge a b bs) x y m n l = go (eqb a v) (eqb b v) m n l
  where
    go : (p q : Bool) → T (is_in (cons_if p (along i) (cons_if q (against i) [])) x) → T (is_in (cons_if p (along i) (cons_if q (against i) [])) y)
        → place_of (cons_if p (along i) (cons_if q (against i) [])) x < place_of (cons_if p (along i) (cons_if q (against i) [])) y
        → cond x.backward 1 0 < cond y.backward 1 0
    go true true m n l = at (same x (along i)) (same y (along i)) refl refl m n l
      where
        at : (e f : Bool) → same x (along i) ≡ e → same y (along i) ≡ f → T (e || is_in (against i ∷ []) x) → T (f || is_in (against i ∷ []) y)
            → cond e 0 (suc (place_of (against i ∷ []) x)) < cond f 0 (suc (place_of (against i ∷ []) y)) → cond x.backward 1 0 < cond y.backward 1 0
        at e true u w m n l = absurd (omega arith)
        at true false u w m n l = elim (cases (same y (against i)) false n) [
          | inl s ↦ let p = ap side (same_eq x (along i) (truth u)) in let q = ap side (same_eq y (against i) s) in omega arith
          | inr z ↦ absurd z
        ]
        at false false u w m n l = let p = place_in (against i ∷ []) x m in let q = place_in (against i ∷ []) y n in absurd (omega arith)
    go true false m n l = let p = place_in (along i ∷ []) x m in let q = place_in (along i ∷ []) y n in absurd (omega arith)
    go false true m n l = let p = place_in (against i ∷ []) x m in let q = place_in (against i ∷ []) y n in absurd (omega arith)
    go false false m n l = absurd m
figure_order v i (closed_edge bs) x y m n l = absurd m
figure_order v i (face ks) x y m n l = absurd m

pub in_order : (lo : ℕ) (cs : List LiveCell) (hi v : ℕ) (x y : Halfedge) → T (rising lo (ids cs) hi) → T (is_in (ends_at cs v) x) → T (is_in (ends_at cs v) y)
    → place_of (ends_at cs v) x < place_of (ends_at cs v) y
    → place_at (ids cs) x < place_at (ids cs) y
in_order lo [] hi v x y t m n l = absurd m
in_order lo (c ∷ cs) hi v x y t m n l =
    let b = both (ltb lo c.id) (rising c.id (ids cs) hi) t in
    go b.1 (λ r i j k. in_order c.id cs hi v x y r i j k) (is_in (figure_ends v c.id c.figure) x) (is_in (figure_ends v c.id c.figure) y) refl
    refl
  where
    later : (h : Halfedge) → T (is_in ((figure_ends v c.id c.figure) ++ (ends_at cs v)) h) → is_in (figure_ends v c.id c.figure) h ≡ false
        → T (is_in (ends_at cs v) h)
    later h m e =
        elim (cases (is_in (figure_ends v c.id c.figure) h) (is_in (ends_at cs v) h)
        (subst T (in_append same (figure_ends v c.id c.figure) (ends_at cs v) h) m)) [
          | inl k ↦ absurd (subst T e k)
          | inr k ↦ k
        ]

    go : T (rising c.id (ids cs) hi)
        → (T (rising c.id (ids cs) hi) → T (is_in (ends_at cs v) x) → T (is_in (ends_at cs v) y) → place_of (ends_at cs v) x < place_of (ends_at cs v) y
        → place_at (ids cs) x < place_at (ids cs) y)
        → (e f : Bool) → is_in (figure_ends v c.id c.figure) x ≡ e → is_in (figure_ends v c.id c.figure) y ≡ f
        → place_at (c.id ∷ ids cs) x < place_at (c.id ∷ ids cs) y
    go r rec true true u w =
        let a = near c.id x.edge (ids cs) (figure_edge v c.id c.figure x (truth u)).0 in
        let b = near c.id y.edge (ids cs) (figure_edge v c.id c.figure y (truth w)).0 in
        let p = place_left (figure_ends v c.id c.figure) (ends_at cs v) x (truth u) in
        let q = place_left (figure_ends v c.id c.figure) (ends_at cs v) y (truth w) in
        let o = figure_order v c.id c.figure x y (truth u) (truth w) (omega arith) in
        omega arith
    go r rec true false u w =
        let a = near c.id x.edge (ids cs) (figure_edge v c.id c.figure x (truth u)).0 in
        let b = far c.id y.edge (ids cs) (listed c.id cs hi v y r (later y n w)).1 in
        let k = side_few x in
        omega arith
    go r rec false true u w =
        let p = place_right (figure_ends v c.id c.figure) (ends_at cs v) x u in
        let q = place_left (figure_ends v c.id c.figure) (ends_at cs v) y (truth w) in
        let o = place_in (figure_ends v c.id c.figure) y (truth w) in
        absurd (omega arith)
    go r rec false false u w =
        let a = far c.id x.edge (ids cs) (listed c.id cs hi v x r (later x m u)).1 in
        let b = far c.id y.edge (ids cs) (listed c.id cs hi v y r (later y n w)).1 in
        let p = place_right (figure_ends v c.id c.figure) (ends_at cs v) x u in
        let q = place_right (figure_ends v c.id c.figure) (ends_at cs v) y w in
        let o = rec r (later x m u) (later y n w) (omega arith) in
        omega arith
