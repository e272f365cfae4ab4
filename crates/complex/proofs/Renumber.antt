-- 0F: what the new ids stand for, that they keep the order, and that a second 0F changes nothing. Assumes nothing.
use Prim.Native.Nat.{ℕ, suc, ◌+◌, ◌≤◌, ◌<◌}
use native.Mathlib.Nat.{zero-add}
use native.Mathlib.Omega.{arith}
use mathlib.Core.Path.{◌≡◌, refl, sym, ap, ◌∙◌}
use mathlib.Core.Bool.{Bool, true, false, cond}
use mathlib.Core.List.{List, [], ◌∷◌, map}
use mathlib.Core.Option.{Option, some}
use lib.ListN.{length, length-map}
use lib.Dec.{T, eqb, ltb, ltb→lt}
use borrow.Author.Tests.{eq-eqb, ne_eqb, eqb-true, eqb-false}
use Rattle.number.specs.Readers.{spread}
use Rattle.complex.specs.Lists.{cons_if, filter, rising}
use Rattle.complex.specs.Cells.{Halfedge, Cycle, lone, path, Figure, vertex, open_edge, closed_edge, face, LiveCell, Sheet}
use Rattle.complex.specs.Cells.{some_if, lookup, cell_at, ids, is_live}
use Rattle.complex.specs.Sound.{sound}
use Rattle.complex.specs.Edits.{numbered, rewired_cycle, rewired}
use Rattle.complex.specs.Renumber.{rank, renamed_step, renamed_figure, renumbered}
use Rattle.complex.proofs.Bools.{both}
use Rattle.complex.proofs.Lookup.{changed, kept_all, rising_filter}
use Rattle.complex.proofs.Keep.{sound_parts}

-- ---- the new id of an old one: 1 to n, or n + 1 where no cell has it
pub rank_within : (cs : List LiveCell) (i : ℕ) → (0 < rank cs i) × (rank cs i ≤ suc (length cs))
rank_within [] i = (omega arith, omega arith)
rank_within (c ∷ cs) i = go (eqb c.id i) (rank_within cs i).1
  where
    go : (y : Bool) → rank cs i ≤ suc (length cs) → (0 < cond y 1 (suc (rank cs i))) × (cond y 1 (suc (rank cs i)) ≤ suc (suc (length cs)))
    go true l = (omega arith, omega arith)
    go false l = (omega arith, omega arith)

-- a live id's is no other id's
pub rank_apart : (cs : List LiveCell) (i j : ℕ) → T (is_live (lookup cs i)) → rank cs i ≡ rank cs j → i ≡ j
rank_apart [] i j t e = absurd t
rank_apart (c ∷ cs) i j t e =
    go (eqb c.id i) (eqb c.id j) refl refl (rank_within cs i).0 (rank_within cs j).0 (λ u q. rank_apart cs i j u q) t e
  where
    go : (x y : Bool) → eqb c.id i ≡ x → eqb c.id j ≡ y → 0 < rank cs i → 0 < rank cs j
        → (T (is_live (lookup cs i)) → rank cs i ≡ rank cs j → i ≡ j)
        → T (is_live (some_if x c.figure (lookup cs i))) → cond x 1 (suc (rank cs i)) ≡ cond y 1 (suc (rank cs j)) → i ≡ j
    go true true p q l m k t e = sym (eqb-true c.id i p) ∙ eqb-true c.id j q
    go true false p q l m k t e = absurd (omega arith)
    go false true p q l m k t e = absurd (omega arith)
    go false false p q l m k t e = k t (omega arith)

-- it stands for what the old one did, changed by f
lookup_rank : (f : ℕ → Figure → Figure) (n : ℕ) (cs : List LiveCell) (i : ℕ)
    → lookup (numbered (suc n) (map (λ (c : LiveCell). f c.id c.figure) cs)) (n + rank cs i) ≡ changed (f i) (lookup cs i)
lookup_rank f n [] i = refl
lookup_rank f n (c ∷ cs) i = go (eqb c.id i) refl (rank_within cs i).0 (lookup_rank f (suc n) cs i)
  where
    past : ℕ → Option Figure
    past = lookup (numbered (suc (suc n)) (map (λ (d : LiveCell). f d.id d.figure) cs))

    go : (y : Bool) → eqb c.id i ≡ y → 0 < rank cs i → past (suc n + rank cs i) ≡ changed (f i) (lookup cs i)
        → some_if (eqb (suc n) (n + cond y 1 (suc (rank cs i)))) (f c.id c.figure) (past (n + cond y 1 (suc (rank cs i))))
        ≡ changed (f i) (some_if y c.figure (lookup cs i))
    go true e l h = rw (eq-eqb (suc n) (n + 1) (omega arith)) (ap (λ (j : ℕ). some (f j c.figure)) (eqb-true c.id i e))
    go false e l h =
        let z : n + suc (rank cs i) ≡ suc n + rank cs i = omega arith in
        rw (ne_eqb (suc n) (n + suc (rank cs i)) (λ q. omega arith), z) h

pub renumber_at : (s : Sheet) (i : ℕ)
    → cell_at (renumbered s) (rank s.cells i) ≡ changed (rewired (rank s.cells) (renamed_step (rank s.cells)) i) (cell_at s i)
unfolding renumbered
renumber_at s i =
    let r = rank s.cells in
    ap (lookup (numbered 1 (map (renamed_figure r) s.cells))) (sym (zero-add (r i))) ∙ lookup_rank (rewired r (renamed_step r)) 0 s.cells i

pub renumber_cells : (s : Sheet) (i : ℕ) (x : Figure) → cell_at s i ≡ some x
    → cell_at (renumbered s) (rank s.cells i) ≡ some (rewired (rank s.cells) (renamed_step (rank s.cells)) i x)
renumber_cells s i x e = renumber_at s i ∙ ap (changed (rewired (rank s.cells) (renamed_step (rank s.cells)) i)) e

-- ---- the order
-- two functions that are one above lo
map_above : (f g : ℕ → ℕ) (lo : ℕ) (ns : List ℕ) (hi : ℕ) → T (rising lo ns hi) → ((i : ℕ) → lo < i → f i ≡ g i) → map f ns ≡ map g ns
map_above f g lo [] hi t h = refl
map_above f g lo (n ∷ ns) hi t h =
    let b = both (ltb lo n) (rising n ns hi) t in
    let l = ltb→lt lo n b.0 in
    λ i. h n l i ∷ map_above f g n ns hi b.1 (λ m k. h m (omega arith)) i

-- the cells that p chooses, where q chooses their new figures
module _ (g : LiveCell → Figure) (p : LiveCell → Bool) (q : Figure → Bool) (alike : (c : LiveCell) → q (g c) ≡ p c) where
  chosen_from : (n lo : ℕ) (cs : List LiveCell) (hi : ℕ) → T (rising lo (ids cs) hi)
      → ids (filter (λ (c : LiveCell). q c.figure) (numbered (suc n) (map g cs))) ≡ map (λ (i : ℕ). n + rank cs i) (ids (filter p cs))
  chosen_from n lo [] hi r = refl
  chosen_from n lo (c ∷ cs) hi r =
      let b = both (ltb lo c.id) (rising c.id (ids cs) hi) r in
      let later = map_above (λ (i : ℕ). suc n + rank cs i) (λ (i : ℕ). n + rank (c ∷ cs) i) c.id (ids (filter p cs)) hi
      (rising_filter p c.id cs hi b.1) past in
      rw (alike c) (go (p c) (chosen_from (suc n) c.id cs hi b.1 ∙ later))
    where
      rest : List LiveCell
      rest = filter (λ (d : LiveCell). q d.figure) (numbered (suc (suc n)) (map g cs))

      here : suc n ≡ n + rank (c ∷ cs) c.id
      here = rw (eq-eqb c.id c.id refl) (omega arith)

      past : (i : ℕ) → c.id < i → suc n + rank cs i ≡ n + rank (c ∷ cs) i
      past i l = rw (ne_eqb c.id i (λ e. omega arith)) (omega arith)

      go : (y : Bool) → ids rest ≡ map (λ (i : ℕ). n + rank (c ∷ cs) i) (ids (filter p cs))
          → ids (cons_if y (record { id = suc n; figure = g c }) rest) ≡ map (λ (i : ℕ). n + rank (c ∷ cs) i) (ids (cons_if y c (filter p cs)))
      go true h = λ i. here i ∷ h i
      go false h = h

  pub chosen_renamed : (cs : List LiveCell) (hi : ℕ) → T (rising 0 (ids cs) hi)
      → ids (filter (λ (c : LiveCell). q c.figure) (numbered 1 (map g cs))) ≡ map (rank cs) (ids (filter p cs))
  chosen_renamed cs hi r =
      chosen_from 0 0 cs hi r
      ∙ map_above (λ (i : ℕ). 0 + rank cs i) (rank cs) 0 (ids (filter p cs)) hi (rising_filter p 0 cs hi r) (λ i l. zero-add (rank cs i))

pub renumber_order : (s : Sheet) → T (sound s) → map (rank s.cells) (ids s.cells) ≡ ids (renumbered s).cells
unfolding renumbered
renumber_order s t =
    let r = rank s.cells in
    ap (λ (cs : List LiveCell). map r (ids cs)) (sym (kept_all s.cells))
    ∙ sym (chosen_renamed (renamed_figure r) (λ (c : LiveCell). true) (λ (x : Figure). true) (λ c. refl) s.cells s.next (sound_parts s t).rises)
    ∙ ap ids (kept_all (numbered 1 (map (renamed_figure r) s.cells)))

-- ---- twice
-- names that r' leaves as they are
module _ (r r' : ℕ → ℕ) (stays : (i : ℕ) → r' (r i) ≡ r i) where
  steps_stay : (hs : List Halfedge) → spread (renamed_step r') (spread (renamed_step r) hs) ≡ spread (renamed_step r) hs
  steps_stay [] = refl
  steps_stay (h ∷ hs) = λ i. record { edge = stays h.edge i; backward = h.backward } ∷ steps_stay hs i

  cycles_stay : (ks : List Cycle)
      → map (rewired_cycle r' (renamed_step r')) (map (rewired_cycle r (renamed_step r)) ks) ≡ map (rewired_cycle r (renamed_step r)) ks
  cycles_stay [] = refl
  cycles_stay (lone v ∷ ks) = λ i. lone (stays v i) ∷ cycles_stay ks i
  cycles_stay (path hs ∷ ks) = λ i. path (steps_stay hs i) ∷ cycles_stay ks i

  figure_stays : (i j : ℕ) (x : Figure) → rewired r' (renamed_step r') j (rewired r (renamed_step r) i x) ≡ rewired r (renamed_step r) i x
  figure_stays i j (vertex p) = refl
  figure_stays i j (open_edge a b bs) = λ k. open_edge (stays a k) (stays b k) bs
  figure_stays i j (closed_edge bs) = refl
  figure_stays i j (face ks) = ap face (cycles_stay ks)

  figures_stay : (n : ℕ) (cs : List LiveCell) → map (renamed_figure r') (numbered n (map (renamed_figure r) cs)) ≡ map (renamed_figure r) cs
  figures_stay n [] = refl
  figures_stay n (c ∷ cs) = λ i. figure_stays c.id n c.figure i ∷ figures_stay (suc n) cs i

pub length_numbered : (n : ℕ) (xs : List Figure) → length (numbered n xs) ≡ length xs
length_numbered n [] = refl
length_numbered n (x ∷ xs) = ap suc (length_numbered (suc n) xs)

-- where the ids are 1 to n, each of them and n + 1 is its own new id
rank_numbered : (n : ℕ) (xs : List Figure) (i : ℕ) → n < i → i ≤ suc (n + length xs) → n + rank (numbered (suc n) xs) i ≡ i
rank_numbered n [] i l h = omega arith
rank_numbered n (x ∷ xs) i l h = go (eqb (suc n) i) refl (λ k. rank_numbered (suc n) xs i k (omega arith))
  where
    go : (y : Bool) → eqb (suc n) i ≡ y → (suc n < i → suc n + rank (numbered (suc (suc n)) xs) i ≡ i)
        → n + cond y 1 (suc (rank (numbered (suc (suc n)) xs) i)) ≡ i
    go true e k = let q = eqb-true (suc n) i e in omega arith
    go false e k = let q = eqb-false (suc n) i e in let z = k (omega arith) in omega arith

pub renumber_twice : (s : Sheet) → renumbered (renumbered s) ≡ renumbered s
unfolding renumbered
renumber_twice s =
    λ i. record { next = suc ((length_numbered 1 new ∙ same_length) i); cells = numbered 1 (figures_stay r (rank (numbered 1 new)) stays 1 s.cells i) }
  where
    r : ℕ → ℕ
    r = rank s.cells

    new : List Figure
    new = map (renamed_figure r) s.cells

    same_length : length new ≡ length s.cells
    same_length = length-map s.cells (renamed_figure r)

    stays : (i : ℕ) → rank (numbered 1 new) (r i) ≡ r i
    stays i =
        let a = (rank_within s.cells i).0 in
        let b = (rank_within s.cells i).1 in
        let l = same_length in
        let z = rank_numbered 0 new (r i) a (omega arith) in
        omega arith
