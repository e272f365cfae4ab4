-- Ends, one after another. Assumes nothing.
use Prim.Native.Nat.{ℕ, suc, ◌+◌, ◌*◌, ◌<◌, ◌≤◌}
use mathlib.Core.Path.{◌≡◌, refl, ap, ap₂, sym, ◌∙◌}
use mathlib.Core.Bool.{Bool, true, false, cond}
use mathlib.Core.List.{List, [], ◌∷◌, foldl, foldl-append}
use native.Mathlib.Omega.{arith}
use lib.Dec.{eqb}
use lib.ListN.{length, take, drop, get_or}
use borrow.Author.Tests.{eqb-true, eq-eqb, ne_eqb}
use Rattle.complex.specs.Lists.{cons_if}
use Rattle.complex.specs.Cells.{Halfedge, along, against}
use Rattle.sound.proofs.Testing.{left_cons, left_none}
use Rattle.ask_uncut_ends.specs.declared.Ends.{Ends}
use Rattle.ask_uncut_ends.specs.Ends.{edge_ends, row_ends, ends_in, no_ends, one_end, two_ends}

-- ---- one end more
module _ (x : Ends) (h : Halfedge) where
  abbrev first : Ends
  first = record { count = 1; one = h.edge; back1 = h.backward; two = 0; back2 = false }

  abbrev second : Ends
  second = record { count = 2; one = x.one; back1 = x.back1; two = h.edge; back2 = h.backward }

  abbrev later : Ends
  later = record { count = suc x.count; one = x.one; back1 = x.back1; two = x.two; back2 = x.back2 }

  pub end_later : (x.count ≡ 0 → ⊥) → (x.count ≡ 1 → ⊥)
      → record { count = suc x.count; one = x.one; back1 = x.back1; two = x.two; back2 = x.back2 } ≡ one_end x h
  end_later e g = sym (ap₂ (λ (b c : Bool). cond b first (cond c second later)) (ne_eqb x.count 0 e) (ne_eqb x.count 1 g))

  pub end_count : (one_end x h).count ≡ suc x.count
  end_count = go (eqb x.count 0) (eqb x.count 1) refl refl
    where
      go : (b c : Bool) → eqb x.count 0 ≡ b → eqb x.count 1 ≡ c → (cond b first (cond c second later)).count ≡ suc x.count
      go true c e g = ap suc (sym (eqb-true x.count 0 e))
      go false true e g = ap suc (sym (eqb-true x.count 1 g))
      go false false e g = refl

pub ends_count : (x : Ends) (l : List Halfedge) → (foldl one_end x l).count ≡ x.count + length l
ends_count x [] = omega arith
ends_count x (h ∷ l) = let e = end_count x h in let g = ends_count (one_end x h) l in omega arith

if_count : (b c : Bool) (x y : Halfedge) → length (cons_if b x (cons_if c y [])) ≤ 2
if_count true true x y = omega arith
if_count true false x y = omega arith
if_count false true x y = omega arith
if_count false false x y = omega arith

pub row_count : (v i k s e : ℕ) → length (row_ends v i k s e) ≤ 2
row_count v i k s e = go (eqb k 1)
  where
    go : (b : Bool) → length (cond b (cons_if (eqb s v) (along i) (cons_if (eqb e v) (against i) [])) []) ≤ 2
    go true = if_count (eqb s v) (eqb e v) (along i) (against i)
    go false = omega arith

-- ---- a row
module _ (x : Ends) (v i k s e : ℕ) where
  pub row_open : k ≡ 1 → (r : Ends) → r ≡ foldl one_end x (edge_ends v i s e) → r ≡ foldl one_end x (row_ends v i k s e)
  row_open h r g = g ∙ sym (ap (λ (b : Bool). foldl one_end x (cond b (edge_ends v i s e) [])) (eq-eqb k 1 h))

  pub row_none : (k ≡ 1 → ⊥) → x ≡ foldl one_end x (row_ends v i k s e)
  row_none h = sym (ap (λ (b : Bool). foldl one_end x (cond b (edge_ends v i s e) [])) (ne_eqb k 1 h))

-- ---- the rows: the ends of the first i are in x
module _ (v n : ℕ) (is ks ss es : List ℕ) where
  abbrev left : ℕ → List Halfedge
  left i = ends_in v (drop i (take n is)) (drop i (take n ks)) (drop i (take n ss)) (drop i (take n es))

  pub record Ending (x : Ends) (i : ℕ) : Type 0 where
    pub few : x.count ≤ 2 * i
    pub rest : foldl one_end no_ends (ends_in v (take n is) (take n ks) (take n ss) (take n es)) ≡ foldl one_end x (left i)

  pub ending_start : Ending no_ends 0
  ending_start = record { few = omega arith; rest = refl }

  module _ (hi : n ≤ length is) (hk : n ≤ length ks) (hs : n ≤ length ss) (he : n ≤ length es) where
    pub ending_turn : (x y : Ends) (i : ℕ) → i < n → Ending x i → y ≡ foldl one_end x (row_ends v (get_or is i 0) (get_or ks i 0) (get_or ss i 0) (get_or es i 0))
        → Ending y (i + 1)
    ending_turn x y i h t e =
        let r = row_ends v (get_or is i 0) (get_or ks i 0) (get_or ss i 0) (get_or es i 0) in
        let c = ap (λ (z : Ends). z.count) e ∙ ends_count x r in
        let w = row_count v (get_or is i 0) (get_or ks i 0) (get_or ss i 0) (get_or es i 0) in
        let q = t.few in
        record {
          few = omega arith;
          rest =
              t.rest
              ∙ ap₂ (λ (a b : List ℕ). foldl one_end x (ends_in v a b (drop i (take n ss)) (drop i (take n es)))) (left_cons is n i 0 hi h)
              (left_cons ks n i 0 hk h)
              ∙ ap₂ (λ (a b : List ℕ). foldl one_end x (ends_in v (get_or is i 0 ∷ drop (i + 1) (take n is)) (get_or ks i 0 ∷ drop (i + 1) (take n ks)) a b))
              (left_cons ss n i 0 hs h) (left_cons es n i 0 he h)
              ∙ foldl-append one_end x r (left (i + 1))
              ∙ ap (λ (z : Ends). foldl one_end z (left (i + 1))) (sym e);
        }

    pub ending_end : (x : Ends) (i : ℕ) → i ≡ n → Ending x i → x ≡ foldl one_end no_ends (ends_in v (take n is) (take n ks) (take n ss) (take n es))
    ending_end x i h t =
        sym (t.rest ∙ ap (λ (a : List ℕ). foldl one_end x (ends_in v a (drop i (take n ks)) (drop i (take n ss)) (drop i (take n es)))) (left_none is n i hi h))

-- ---- how many, and the first two
two_on : (k : ℕ) (a : ℕ) (b : Bool) (c : ℕ) (d : Bool) (l : List Halfedge)
    → foldl one_end (record { count = suc (suc k); one = a; back1 = b; two = c; back2 = d }) l
    ≡ record { count = suc (suc (k + length l)); one = a; back1 = b; two = c; back2 = d }
two_on k a b c d [] = let e : k ≡ k + 0 = omega arith in ap (λ (n : ℕ). record { count = suc (suc n); one = a; back1 = b; two = c; back2 = d }) e
two_on k a b c d (h ∷ l) =
    let e : suc k + length l ≡ k + suc (length l) = omega arith in
    ap (λ (x : Ends). foldl one_end x l)
    (sym (end_later (record { count = suc (suc k); one = a; back1 = b; two = c; back2 = d }) h (λ z. omega arith) (λ z. omega arith)))
    ∙ two_on (suc k) a b c d l
    ∙ ap (λ (n : ℕ). record { count = suc (suc n); one = a; back1 = b; two = c; back2 = d }) e

pub folded : (l : List Halfedge) → foldl one_end no_ends l ≡ two_ends l
folded [] = refl
folded (x ∷ []) = refl
folded (x ∷ y ∷ l) =
    let e : 0 + length l ≡ length l = omega arith in
    two_on 0 x.edge x.backward y.edge y.backward l
    ∙ ap (λ (n : ℕ). record { count = suc (suc n); one = x.edge; back1 = x.backward; two = y.edge; back2 = y.backward }) e
