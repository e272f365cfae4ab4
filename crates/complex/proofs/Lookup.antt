-- What an id stands for after a change, and that ids stay rising. Assumes nothing.
use Prim.Native.Nat.{ℕ, suc, ◌+◌, ◌≤◌, ◌<◌}
use native.Mathlib.Omega.{arith}
use mathlib.Core.Path.{◌≡◌, refl, sym, ap, ◌∙◌, subst}
use mathlib.Core.Bool.{Bool, true, false, cond}
use mathlib.Core.List.{List, [], ◌∷◌, ◌++◌, append-nil, Memᴰ}
use mathlib.Core.Option.{Option, none, some}
use lib.ListN.{length}
use lib.Dec.{T, eqb, ltb, ltb→lt, lt→ltb}
use borrow.Author.Tests.{eq-eqb, ne_eqb, eqb-true}
use Rattle.complex.specs.Lists.{all, cons_if, filter, rising}
use Rattle.complex.specs.Cells.{Figure, LiveCell, Sheet, some_if, lookup, ids}
use Rattle.complex.specs.Edits.{keep_ids, reshape, numbered, rebuild, every_id, as_it_is}
use Rattle.complex.proofs.Bools.{both, pair}
use Rattle.complex.proofs.Every.{Every}

-- ---- a change that changes nothing
pub kept_all : (cs : List LiveCell) → keep_ids every_id cs ≡ cs
kept_all [] = refl
kept_all (c ∷ cs) = ap (λ (ds : List LiveCell). c ∷ ds) (kept_all cs)

pub reshaped_none : (cs : List LiveCell) → reshape as_it_is cs ≡ cs
reshaped_none [] = refl
reshaped_none (c ∷ cs) = ap (λ (ds : List LiveCell). c ∷ ds) (reshaped_none cs)

pub rebuild_none : (s : Sheet) → rebuild every_id as_it_is [] s ≡ s
rebuild_none s =
    let n : s.next + 0 ≡ s.next = omega arith in
    let e = append-nil (reshape as_it_is (keep_ids every_id s.cells)) ∙ reshaped_none (keep_ids every_id s.cells) ∙ kept_all s.cells in
    λ i. record { next = n i; cells = e i }

-- ---- lookup through the three changes
abbrev pub or_else : Option Figure → Option Figure → Option Figure
or_else none o = o
or_else (some t) o = some t

abbrev pub changed : (Figure → Figure) → Option Figure → Option Figure
changed f none = none
changed f (some t) = some (f t)

none_either : (b : Bool) → ◌≡◌ {A = Option Figure} none (cond b none none)
none_either true = refl
none_either false = refl

pub lookup_keep : (p : ℕ → Bool) (cs : List LiveCell) (i : ℕ) → lookup (keep_ids p cs) i ≡ cond (p i) (lookup cs i) none
lookup_keep p [] i = none_either (p i)
lookup_keep p (c ∷ cs) i = go (p c.id) (eqb c.id i) refl refl (lookup_keep p cs i)
  where
    go : (x y : Bool) → p c.id ≡ x → eqb c.id i ≡ y → lookup (keep_ids p cs) i ≡ cond (p i) (lookup cs i) none
        → lookup (cons_if x c (keep_ids p cs)) i ≡ cond (p i) (some_if y c.figure (lookup cs i)) none
    go true true e f h = rw (f, ← ap p (eqb-true c.id i f), e)
    go true false e f h = rw (f) h
    go false true e f h = h ∙ rw (← ap p (eqb-true c.id i f), e)
    go false false e f h = h

pub lookup_reshape : (f : ℕ → Figure → Figure) (cs : List LiveCell) (i : ℕ) → lookup (reshape f cs) i ≡ changed (f i) (lookup cs i)
lookup_reshape f [] i = refl
lookup_reshape f (c ∷ cs) i = go (eqb c.id i) refl (lookup_reshape f cs i)
  where
    go : (y : Bool) → eqb c.id i ≡ y → lookup (reshape f cs) i ≡ changed (f i) (lookup cs i)
        → some_if y (f c.id c.figure) (lookup (reshape f cs) i) ≡ changed (f i) (some_if y c.figure (lookup cs i))
    go true e h = ap (λ (j : ℕ). some (f j c.figure)) (eqb-true c.id i e)
    go false e h = h

pub lookup_append : (cs ds : List LiveCell) (i : ℕ) → lookup (cs ++ ds) i ≡ or_else (lookup cs i) (lookup ds i)
lookup_append [] ds i = refl
lookup_append (c ∷ cs) ds i = go (eqb c.id i) (lookup_append cs ds i)
  where
    go : (y : Bool) → lookup (cs ++ ds) i ≡ or_else (lookup cs i) (lookup ds i)
        → some_if y c.figure (lookup (cs ++ ds) i) ≡ or_else (some_if y c.figure (lookup cs i)) (lookup ds i)
    go true h = refl
    go false h = h

pub lookup_rebuild : (p : ℕ → Bool) (f : ℕ → Figure → Figure) (new : List Figure) (s : Sheet) (i : ℕ)
    → lookup (rebuild p f new s).cells i ≡ or_else (changed (f i) (cond (p i) (lookup s.cells i) none)) (lookup (numbered s.next new) i)
lookup_rebuild p f new s i =
    lookup_append (reshape f (keep_ids p s.cells)) (numbered s.next new) i
    ∙ ap (λ (o : Option Figure). or_else o (lookup (numbered s.next new) i))
    (lookup_reshape f (keep_ids p s.cells) i ∙ ap (changed (f i)) (lookup_keep p s.cells i))

-- ---- rising ids
pub rising_lt : (lo : ℕ) (ns : List ℕ) (hi : ℕ) → T (rising lo ns hi) → lo < hi
rising_lt lo [] hi t = ltb→lt lo hi t
rising_lt lo (n ∷ ns) hi t =
    let b = both (ltb lo n) (rising n ns hi) t in
    let l = ltb→lt lo n b.0 in
    let r = rising_lt n ns hi b.1 in
    omega arith

pub rising_from : (lo lo' : ℕ) (ns : List ℕ) (hi : ℕ) → lo ≤ lo' → T (rising lo' ns hi) → T (rising lo ns hi)
rising_from lo lo' [] hi h t = lt→ltb lo hi (let l = ltb→lt lo' hi t in omega arith)
rising_from lo lo' (n ∷ ns) hi h t =
    let b = both (ltb lo' n) (rising n ns hi) t in
    let l = ltb→lt lo' n b.0 in
    pair (ltb lo n) (rising n ns hi) (lt→ltb lo n (omega arith)) b.1

pub rising_filter : (p : LiveCell → Bool) (lo : ℕ) (cs : List LiveCell) (hi : ℕ) → T (rising lo (ids cs) hi) → T (rising lo (ids (filter p cs)) hi)
rising_filter p lo [] hi t = t
rising_filter p lo (c ∷ cs) hi t =
    let b = both (ltb lo c.id) (rising c.id (ids cs) hi) t in
    go (p c) b.0 (rising_filter p c.id cs hi b.1)
  where
    go : (x : Bool) → T (ltb lo c.id) → T (rising c.id (ids (filter p cs)) hi) → T (rising lo (ids (cons_if x c (filter p cs))) hi)
    go true l r = pair (ltb lo c.id) (rising c.id (ids (filter p cs)) hi) l r
    go false l r = rising_from lo c.id (ids (filter p cs)) hi (let k = ltb→lt lo c.id l in omega arith) r

pub ids_reshape : (f : ℕ → Figure → Figure) (cs : List LiveCell) → ids (reshape f cs) ≡ ids cs
ids_reshape f [] = refl
ids_reshape f (c ∷ cs) = ap (λ (ns : List ℕ). c.id ∷ ns) (ids_reshape f cs)

rising_new : (lo hi : ℕ) (new : List Figure) → lo < hi → T (rising lo (ids (numbered hi new)) (hi + length new))
rising_new lo hi [] h = lt→ltb lo (hi + 0) (omega arith)
rising_new lo hi (t ∷ ts) h =
    pair (ltb lo hi) (rising hi (ids (numbered (suc hi) ts)) (hi + suc (length ts))) (lt→ltb lo hi h)
    (subst (λ (k : ℕ). T (rising hi (ids (numbered (suc hi) ts)) k)) (omega arith) (rising_new hi (suc hi) ts (omega arith)))

rising_more : (lo : ℕ) (cs : List LiveCell) (hi : ℕ) (new : List Figure) → T (rising lo (ids cs) hi)
    → T (rising lo (ids (cs ++ numbered hi new)) (hi + length new))
rising_more lo [] hi new t = rising_new lo hi new (ltb→lt lo hi t)
rising_more lo (c ∷ cs) hi new t =
    let b = both (ltb lo c.id) (rising c.id (ids cs) hi) t in
    pair (ltb lo c.id) (rising c.id (ids (cs ++ numbered hi new)) (hi + length new)) b.0 (rising_more c.id cs hi new b.1)

pub rising_rebuild : (p : ℕ → Bool) (f : ℕ → Figure → Figure) (new : List Figure) (s : Sheet) → T (rising 0 (ids s.cells) s.next)
    → T (rising 0 (ids (rebuild p f new s).cells) (rebuild p f new s).next)
rising_rebuild p f new s t =
    rising_more 0 (reshape f (keep_ids p s.cells)) s.next new
    (subst (λ (ns : List ℕ). T (rising 0 ns s.next)) (sym (ids_reshape f (keep_ids p s.cells)))
    (rising_filter (λ (c : LiveCell). p c.id) 0 s.cells s.next t))

-- ---- ids that stand for nothing
pub lookup_from : (lo : ℕ) (cs : List LiveCell) (hi i : ℕ) → T (rising lo (ids cs) hi) → hi ≤ i → lookup cs i ≡ none
lookup_from lo [] hi i t h = refl
lookup_from lo (c ∷ cs) hi i t h =
    let b = both (ltb lo c.id) (rising c.id (ids cs) hi) t in
    let l = rising_lt c.id (ids cs) hi b.1 in
    rw (ne_eqb c.id i (λ e. omega arith)) (lookup_from c.id cs hi i b.1 h)

pub lookup_upto : (lo : ℕ) (cs : List LiveCell) (hi i : ℕ) → T (rising lo (ids cs) hi) → i ≤ lo → lookup cs i ≡ none
lookup_upto lo [] hi i t h = refl
lookup_upto lo (c ∷ cs) hi i t h =
    let b = both (ltb lo c.id) (rising c.id (ids cs) hi) t in
    let l = ltb→lt lo c.id b.0 in
    rw (ne_eqb c.id i (λ e. omega arith)) (lookup_upto c.id cs hi i b.1 (omega arith))

-- ---- all cells, by their ids
pub all_at : (P : Figure → Bool) (cs : List LiveCell) (i : ℕ) (t : Figure) → T (all (λ (c : LiveCell). P c.figure) cs) → lookup cs i ≡ some t → T (P t)
all_at P [] i t h e = absurd (let z : ◌≡◌ {A = ℕ} 0 1 = cc in omega arith)
all_at P (c ∷ cs) i t h e =
    let b = both (P c.figure) (all (λ (d : LiveCell). P d.figure) cs) h in
    go (eqb c.id i) b.0 (λ g. all_at P cs i t b.1 g) e
  where
    go : (y : Bool) → T (P c.figure) → (lookup cs i ≡ some t → T (P t)) → some_if y c.figure (lookup cs i) ≡ some t → T (P t)
    go true u k g = let z : c.figure ≡ t = cc in subst (λ (x : Figure). T (P x)) z u
    go false u k g = k g

-- what is found past the first cell is found
pub later : (c : LiveCell) (cs : List LiveCell) (hi : ℕ) → T (rising c.id (ids cs) hi)
    → (i : ℕ) (t : Figure) → lookup cs i ≡ some t → lookup (c ∷ cs) i ≡ some t
later c cs hi r i t e = go (eqb c.id i) refl
  where
    go : (y : Bool) → eqb c.id i ≡ y → some_if y c.figure (lookup cs i) ≡ some t
    go false f = e
    go true f = let n = lookup_upto c.id cs hi i r (let q = eqb-true c.id i f in omega arith) in cc

pub all_from : (P : Figure → Bool) (lo : ℕ) (cs : List LiveCell) (hi : ℕ) → T (rising lo (ids cs) hi) → ((i : ℕ) (t : Figure) → lookup cs i ≡ some t → T (P t))
    → T (all (λ (c : LiveCell). P c.figure) cs)
all_from P lo [] hi r h = tt
all_from P lo (c ∷ cs) hi r h =
    let b = both (ltb lo c.id) (rising c.id (ids cs) hi) r in
    pair (P c.figure) (all (λ (d : LiveCell). P d.figure) cs)
    (h c.id c.figure (rw (eq-eqb c.id c.id refl)))
    (all_from P c.id cs hi b.1 (λ i t e. h i t (later c cs hi b.1 i t e)))

pub every_cell : (Q : LiveCell → Type 0) (lo : ℕ) (cs : List LiveCell) (hi : ℕ) → T (rising lo (ids cs) hi)
    → ((c : LiveCell) → lookup cs c.id ≡ some c.figure → Q c) → Every Q cs
every_cell Q lo [] hi r h = tt
every_cell Q lo (c ∷ cs) hi r h =
    let b = both (ltb lo c.id) (rising c.id (ids cs) hi) r in
    (h c (rw (eq-eqb c.id c.id refl)), every_cell Q c.id cs hi b.1 (λ d e. h d (later c cs hi b.1 d.id d.figure e)))

-- ---- what is found is one of the cells
abbrev pub cell_with : ℕ → Figure → LiveCell
cell_with i x = record { id = i; figure = x }

pub found_member : (cs : List LiveCell) (i : ℕ) (x : Figure) → lookup cs i ≡ some x → Memᴰ (cell_with i x) cs
found_member [] i x e = absurd (let z : ◌≡◌ {A = ℕ} 0 1 = cc in omega arith)
found_member (c ∷ cs) i x e = go (eqb c.id i) refl e (found_member cs i x)
  where
    go : (y : Bool) → eqb c.id i ≡ y → some_if y c.figure (lookup cs i) ≡ some x → (lookup cs i ≡ some x → Memᴰ (cell_with i x) cs)
        → Memᴰ (cell_with i x) (c ∷ cs)
    go true q g r =
        let n = eqb-true c.id i q in
        let z : c.figure ≡ x = cc in
        Memᴰ.head (λ k. cell_with (sym n k) (sym z k))
    go false q g r = Memᴰ.tail (r g)
