-- A link more is joined: the tops tell who belongs together, and how many groups there are. Assumes nothing.
use Prim.Native.Nat.{ℕ, suc, ◌-◌, ◌<◌, ◌≤◌}
use native.Mathlib.Omega.{arith}
use mathlib.Core.Path.{◌≡◌, refl, sym, ap, ◌∙◌, subst}
use mathlib.Core.Logic.{◌⊎◌, inl, inr}
use mathlib.Core.Bool.{Bool, true, false, ◌||◌, cond}
use mathlib.Core.List.Memᴰ
use mathlib.Core.List.{List, [], ◌∷◌, ◌++◌}
use lib.ListN.{length, get_or, length-map}
use lib.Dec.{T, eqb, ltb}
use borrow.Author.Tests.{eqb-true, eqb-false, eq-eqb, ne_eqb}
use Rattle.complex.specs.Lists.{one}
use Rattle.complex.specs.Groups.{is_in, linked, itself, back, chain}
use Rattle.complex.specs.Pieces.{Link, cell_of, bound_of, link, joined}
use Rattle.complex.proofs.Every.{Every, every_both, every_at, every_of, every_more}
use Rattle.complex.proofs.Groups.{count}
use Rattle.complex.proofs.Merges
use Rattle.complex.proofs.Pieces.{numbers}
use Rattle.complex.proofs.Ties.{Inside, Tied}
use Rattle.store.specs.Index.{row_of}
use Rattle.rows_pieces.specs.Ways.{Owns, lower, higher, merged, Joins}
use Rattle.rows_pieces.specs.Merging.{top_of, Merged}

-- ---- the row of an id that is there
pub row_in : (is : List ℕ) (i : ℕ) → T (is_in eqb is i) → (row_of i is < length is) × (get_or is (row_of i is) 0 ≡ i)
row_in [] i t = absurd t
row_in (j ∷ is) i t = go (eqb j i) refl t (row_in is i)
  where
    go : (b : Bool) → eqb j i ≡ b → T (eqb i j || is_in eqb is i) → (T (is_in eqb is i) → (row_of i is < length is) × (get_or is (row_of i is) 0 ≡ i))
        → (cond b 0 (suc (row_of i is)) < suc (length is)) × (get_or (j ∷ is) (cond b 0 (suc (row_of i is))) 0 ≡ i)
    go true e u r = (omega arith, eqb-true j i e)
    go false e u r =
        let n = eqb-false j i e in
        let h = r (subst (λ (b : Bool). T (b || is_in eqb is i)) (ne_eqb i j (λ z. n (sym z))) u) in
        (omega (arith, h.0), h.1)

-- ---- every row by itself
pub merged_none : (is up : List ℕ) → Owns (length is) up → Merged is up [] (length is)
merged_none is up O =
    record {
      size = O.size;
      leads = λ r h. let e = O.own r h in omega arith;
      top = λ r. r;
      tops = record { along = O.own; ends = λ r h e. refl };
      inside = tt;
      same = tt;
      tied = λ i j a b e. subst (Tied [] i) (sym (row_in is i a).1 ∙ ap (λ (r : ℕ). get_or is r 0) e ∙ (row_in is j b).1) (itself i);
      number = sym (length-map is one);
    }

-- ---- tops of which the higher gives way to the lower
module _ (a b : ℕ) where
  -- both become one
  give_both : cond (eqb a (higher a b)) (lower a b) a ≡ cond (eqb b (higher a b)) (lower a b) b
  give_both = go (ltb a b) refl
    where
      go : (c : Bool) → ltb a b ≡ c → cond (eqb a (cond c b a)) (cond c a b) a ≡ cond (eqb b (cond c b a)) (cond c a b) b
      go true e = same_choice (eqb a b) ∙ sym (ap (λ (d : Bool). cond d a b) (eq-eqb b b refl))
        where
          same_choice : (d : Bool) → cond d a a ≡ a
          same_choice true = refl
          same_choice false = refl
      go false e = ap (λ (d : Bool). cond d b a) (eq-eqb a a refl) ∙ sym (same_choice (eqb b a))
        where
          same_choice : (d : Bool) → cond d b b ≡ b
          same_choice true = refl
          same_choice false = refl

  -- what becomes the same was the same, or both were one of the two
  give_same : (p q : ℕ) → cond (eqb p (higher a b)) (lower a b) p ≡ cond (eqb q (higher a b)) (lower a b) q
      → (p ≡ q) ⊎ ((p ≡ a) ⊎ (p ≡ b)) × ((q ≡ a) ⊎ (q ≡ b))
  give_same p q e = go (eqb p (higher a b)) (eqb q (higher a b)) refl refl e
    where
      of_higher : (r : ℕ) → eqb r (higher a b) ≡ true → (r ≡ a) ⊎ (r ≡ b)
      of_higher r z = pick (ltb a b) (eqb-true r (higher a b) z)
        where
          pick : (c : Bool) → r ≡ cond c b a → (r ≡ a) ⊎ (r ≡ b)
          pick true y = inr y
          pick false y = inl y

      of_lower : (r : ℕ) → lower a b ≡ r → (r ≡ a) ⊎ (r ≡ b)
      of_lower r z = pick (ltb a b) z
        where
          pick : (c : Bool) → cond c a b ≡ r → (r ≡ a) ⊎ (r ≡ b)
          pick true y = inl (sym y)
          pick false y = inr (sym y)

      go : (c d : Bool) → eqb p (higher a b) ≡ c → eqb q (higher a b) ≡ d → cond c (lower a b) p ≡ cond d (lower a b) q
          → (p ≡ q) ⊎ ((p ≡ a) ⊎ (p ≡ b)) × ((q ≡ a) ⊎ (q ≡ b))
      go true true y z h = inr (of_higher p y, of_higher q z)
      go true false y z h = inr (of_higher p y, of_lower q h)
      go false true y z h = inr (of_lower p (sym h), of_higher q z)
      go false false y z h = inl h

-- what is the same along every link is the same of all that they tie
along_links : (f : ℕ → ℕ) (ls : List Link) → Every (λ (l : Link). f l.cell ≡ f l.bound) ls → {i j : ℕ} → Tied ls i j → f i ≡ f j
along_links f ls e (linked l m) = every_at (λ (l : Link). f l.cell ≡ f l.bound) ls e m
along_links f ls e (itself i) = refl
along_links f ls e (back h) = sym (along_links f ls e h)
along_links f ls e (chain h k) = along_links f ls e h ∙ along_links f ls e k

-- ---- one link more
module _ (is up : List ℕ) (ls : List Link) (n : ℕ) (M : Merged is up ls n) (once : (x : ℕ) → count eqb x is ≤ 1) where
  module _ (i j : ℕ) (a : T (is_in eqb is i)) (b : T (is_in eqb is j)) (c : ℕ) (up' : List ℕ) (J : Joins (row_of i is) (row_of j is) up c up') where
    abbrev more : List Link
    more = ls ++ one (link i j)

    abbrev top' : ℕ → ℕ
    top' = merged (top_of M.top is i) (top_of M.top is j) M.top

    still_tied : {p q : ℕ} → Tied ls p q → Tied more p q
    still_tied h =
        Merges.through eqb cell_of bound_of ls more
        (every_of (λ (l : Link). Tied more l.cell l.bound) ls (λ l m. linked l (Memᴰ.append_left (one (link i j)) m))) h

    now_tied : Tied more i j
    now_tied = linked (link i j) (Memᴰ.append_right ls (Memᴰ.head refl))

    -- who has the top of i or of j is tied to i
    near : (p : ℕ) → T (is_in eqb is p) → (top_of M.top is p ≡ top_of M.top is i) ⊎ (top_of M.top is p ≡ top_of M.top is j) → Tied more p i
    near p t (inl e) = still_tied (M.tied p i t a e)
    near p t (inr e) = chain (still_tied (M.tied p j t b e)) (back now_tied)

    tied' : (p q : ℕ) → T (is_in eqb is p) → T (is_in eqb is q) → top_of top' is p ≡ top_of top' is q → Tied more p q
    tied' p q t u e = elim (give_same (top_of M.top is i) (top_of M.top is j) (top_of M.top is p) (top_of M.top is q) e) [
      | inl h ↦ still_tied (M.tied p q t u h)
      | inr h ↦ chain (near p t h.0) (back (near q u h.1))
    ]

    same' : Every (λ (l : Link). top_of top' is l.cell ≡ top_of top' is l.bound) more
    same' =
        every_both (λ (l : Link). top_of top' is l.cell ≡ top_of top' is l.bound) ls (one (link i j))
        (every_more (λ (l : Link). top_of M.top is l.cell ≡ top_of M.top is l.bound)
        (λ (l : Link). top_of top' is l.cell ≡ top_of top' is l.bound)
        (λ l e. ap (λ (w : ℕ). cond (eqb w (higher (top_of M.top is i) (top_of M.top is j))) (lower (top_of M.top is i) (top_of M.top is j)) w) e)
        ls M.same)
        (give_both (top_of M.top is i) (top_of M.top is j), tt)

    number' : (c ≤ n) × (n - c ≡ length (joined more is))
    number' = go (eqb (top_of M.top is i) (top_of M.top is j)) refl (J.count (length is) M.top (row_in is i a).0 (row_in is j b).0 M.tops)
      where
        go : (y : Bool) → eqb (top_of M.top is i) (top_of M.top is j) ≡ y → c ≡ cond y 0 1 → (c ≤ n) × (n - c ≡ length (joined more is))
        go true q e =
            let h = Merges.join_same eqb numbers cell_of bound_of is once ls (link i j) M.inside (M.tied i j a b (eqb-true _ _ q)) in
            (omega arith, omega (arith, h, M.number))
        go false q e =
            let h = Merges.join_less eqb numbers cell_of bound_of is once ls (link i j) (a, b)
            (λ t. eqb-false _ _ q (along_links (top_of M.top is) ls M.same t)) in
            (omega (arith, h, M.number), omega (arith, h, M.number))

    pub merged_more : Merged is up' (ls ++ one (link i j)) (n - c)
    merged_more =
        record {
          size = J.size;
          leads = J.leads (length is) M.leads;
          top = top';
          tops = J.tops (length is) M.top (row_in is i a).0 (row_in is j b).0 M.tops;
          inside = every_both (Inside is) ls (one (link i j)) M.inside ((a, b), tt);
          same = same';
          tied = tied';
          number = number'.1;
        }

    pub merged_enough : c ≤ n
    merged_enough = number'.0
