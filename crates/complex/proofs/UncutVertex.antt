-- 0E at a vertex: soundness and shift. Assumes nothing.
use Prim.Native.Nat.{ℕ, zero, ◌+◌, ◌-◌, ◌≤◌, ◌<◌}
use native.Mathlib.Omega.{arith}
use mathlib.Core.Path.{◌≡◌, refl, sym, ap, ◌∙◌, subst}
use mathlib.Core.Logic.{◌⊎◌, inl, inr}
use mathlib.Core.Bool.{Bool, true, false, not, ◌&&◌, ◌||◌, cond, beq, true≢false, false≢true}
use mathlib.Core.List.{List, [], ◌∷◌, ◌++◌, map, reverse, reverse_aux}
use mathlib.Core.Option.{Option, none, some}
use lib.ListN.{length, get_or, drop}
use lib.Dec.{T, eqb, ltb, leb, eqb→eq, eqb_refl, ltb→lt}
use borrow.Author.Tests.{eq-eqb, ne_eqb, eqb-true, eqb-false}
use Rattle.number.specs.Readers.{spread}
use Rattle.coordinate.specs.declared.Position.{Position}
use Rattle.coordinate.specs.Bounds.{within}
use Rattle.complex.specs.Lists.{all, any, filter, cons_if, total, one, is_empty, rising}
use Rattle.complex.specs.Cells.{Halfedge, Cycle, lone, path, Figure, vertex, open_edge, closed_edge, face, LiveCell, Sheet, Look, some_if, lookup, ids}
use Rattle.complex.specs.Cells.{is_vertex, is_open, is_closed, is_edge, start_of, end_of, bends_of, cycles_of, position_of, steps_of, along, against, flipped, same}
use Rattle.complex.specs.Cells.{tail_of, head_of, cell_at}
use Rattle.complex.specs.Sound.{Walk, ids_end, cycle_ok, figure_ok, ceilings, joins, step_count, over}
use Rattle.complex.specs.Edits.{keep_ids, numbered, rebuild, rewired, rewired_cycle, same_vertex, others, neither, in_place_of}
use Rattle.complex.specs.Uses.{figure_ends, ends_at, Passage, passage, passages_from, passages, all_cycles, passages_at, is_in, lone_use, uses_by}
use Rattle.complex.specs.Uncut.{ends_of_one_edge, is_lone, without_lone, in_one, bends_along, joined}
use Rattle.complex.proofs.Gains.{gain, loss, Even}
use Rattle.complex.proofs.Bools.{truth, true_of, either, pair, cases, or_left, or_right, equal, all_map, all_append}
use Rattle.complex.proofs.Bools.{both as parts}
use Rattle.complex.proofs.Walks.{Round, Ring, Some, joins_cases, round_joins, ring_joins}
use Rattle.complex.proofs.Keep.{Sound, Look', rebuild_sound, same_eq, same_refl, ring_carried, round_carried}
use Rattle.complex.proofs.Adds.{stays_at, new_at}
use Rattle.complex.proofs.Split.{apart}
use Rattle.complex.proofs.Delete.{Edges, joins_edges}
use Rattle.complex.proofs.Sums.{total_zero, total_ones}
use Rattle.complex.proofs.Euler.{over_reshaped, over_rebuild, over_kept}
use Rattle.complex.proofs.Faces.{Without, without_one, without_more, gain_rewired, loss_rewired}
use Rattle.complex.proofs.Unglue.{over_at}
use Rattle.complex.proofs.Every.{Every, every_left, every_right, every_both, every_more, filter_append}
use Rattle.complex.proofs.UnglueVertex.{end_in, open_at, turns_of, passages_in}
use Rattle.complex.proofs.Edges.{edge_of}
use Rattle.complex.proofs.UncutFaces.{head_vertex}
use Rattle.complex.proofs.UncutEdge.{own_cells, walk_stays, joins_stay}

-- halfedges of one edge
turned : (h k : Halfedge) → h.edge ≡ k.edge → (k ≡ h) ⊎ (k ≡ flipped h)
turned h k z = go h.backward k.backward refl refl
  where
    go : (a b : Bool) → h.backward ≡ a → k.backward ≡ b → (k ≡ h) ⊎ (k ≡ flipped h)
    go true true p q = inl (λ i. record { edge = sym z i; backward = (q ∙ sym p) i })
    go true false p q = inr (λ i. record { edge = sym z i; backward = (q ∙ ap not (sym p)) i })
    go false true p q = inr (λ i. record { edge = sym z i; backward = (q ∙ ap not (sym p)) i })
    go false false p q = inl (λ i. record { edge = sym z i; backward = (q ∙ sym p) i })

-- ---- a vertex's ends, as they are listed
ends_real : (look : Look) (v : ℕ) (cs : List LiveCell) → Every (λ (c : LiveCell). look c.id ≡ some c.figure) cs
    → Every (λ (h : Halfedge). T (is_open (look h.edge)) × (tail_of look h ≡ v)) (ends_at cs v)
ends_real look v [] h = tt
ends_real look v (c ∷ cs) h = every_both (λ (x : Halfedge). T (is_open (look x.edge)) × (tail_of look x ≡ v)) (figure_ends v c.id c.figure) (ends_at cs v)
    (go c.figure h.0) (ends_real look v cs h.1)
  where
    go : (t : Figure) → look c.id ≡ some t → Every (λ (x : Halfedge). T (is_open (look x.edge)) × (tail_of look x ≡ v)) (figure_ends v c.id t)
    go (vertex p) q = tt
    go (open_edge a b bs) q = first (eqb a v) refl (second (eqb b v) refl)
      where
        second : (y : Bool) → eqb b v ≡ y → Every (λ (x : Halfedge). T (is_open (look x.edge)) × (tail_of look x ≡ v)) (cons_if y (against c.id) [])
        second true z = ((rw q tt, ap end_of q ∙ eqb-true b v z), tt)
        second false z = tt

        first : (y : Bool) → eqb a v ≡ y → Every (λ (x : Halfedge). T (is_open (look x.edge)) × (tail_of look x ≡ v)) (cons_if (eqb b v) (against c.id) [])
            → Every (λ (x : Halfedge). T (is_open (look x.edge)) × (tail_of look x ≡ v)) (cons_if y (along c.id) (cons_if (eqb b v) (against c.id) []))
        first true z r = ((rw q tt, ap start_of q ∙ eqb-true a v z), r)
        first false z r = r
    go (closed_edge bs) q = tt
    go (face ks) q = tt

-- they are of edges above lo
ends_above : (lo : ℕ) (cs : List LiveCell) (hi v : ℕ) → T (rising lo (ids cs) hi) → Every (λ (h : Halfedge). lo < h.edge) (ends_at cs v)
ends_above lo [] hi v t = tt
ends_above lo (c ∷ cs) hi v t =
    let b = parts (ltb lo c.id) (rising c.id (ids cs) hi) t in
    let l = ltb→lt lo c.id b.0 in
    every_both (λ (h : Halfedge). lo < h.edge) (figure_ends v c.id c.figure) (ends_at cs v) (own c.figure l)
    (every_more (λ (h : Halfedge). c.id < h.edge) (λ (h : Halfedge). lo < h.edge) (λ h m. omega arith) (ends_at cs v) (ends_above c.id cs hi v b.1))
  where
    own : (t : Figure) → lo < c.id → Every (λ (h : Halfedge). lo < h.edge) (figure_ends v c.id t)
    own (vertex p) l = tt
    own (open_edge a b bs) l = go (eqb a v) (eqb b v)
      where
        go : (y z : Bool) → Every (λ (h : Halfedge). lo < h.edge) (cons_if y (along c.id) (cons_if z (against c.id) []))
        go true true = (l, (l, tt))
        go true false = (l, tt)
        go false true = (l, tt)
        go false false = tt
    own (closed_edge bs) l = tt
    own (face ks) l = tt

-- two ends of a vertex that are of one edge are that edge's two ends
pub ends_of_one : (lo : ℕ) (cs : List LiveCell) (hi v : ℕ) (x y : Halfedge) → T (rising lo (ids cs) hi) → ends_at cs v ≡ x ∷ y ∷ [] → x.edge ≡ y.edge
    → T (ends_of_one_edge x y)
ends_of_one lo [] hi v x y t e q = absurd (let z : ◌≡◌ {A = ℕ} 0 2 = ap length e in omega arith)
ends_of_one lo (c ∷ cs) hi v x y t e q =
    let b = parts (ltb lo c.id) (rising c.id (ids cs) hi) t in
    go (ends_above c.id cs hi v b.1) (λ e. ends_of_one c.id cs hi v x y b.1 e q) c.figure e
  where
    -- after one end of c the next is of a later edge
    later : Every (λ (k : Halfedge). c.id < k.edge) (ends_at cs v) → (h : Halfedge) → h.edge ≡ c.id → h ∷ ends_at cs v ≡ x ∷ y ∷ [] → ⊥
    later r h i e =
        let z : h ≡ x = cc in
        let w = ap (λ (k : Halfedge). k.edge) z in
        let m = (subst (Every (λ (k : Halfedge). c.id < k.edge)) (ap (drop 1) e) r).0 in
        omega arith

    two : Every (λ (k : Halfedge). c.id < k.edge) (ends_at cs v) → (ends_at cs v ≡ x ∷ y ∷ [] → T (ends_of_one_edge x y))
        → (m n : Bool) → cons_if m (along c.id) (cons_if n (against c.id) []) ++ ends_at cs v ≡ x ∷ y ∷ [] → T (ends_of_one_edge x y)
    two r rec true true e =
        let z : along c.id ≡ x = cc in
        let w : against c.id ≡ y = cc in
        subst (λ (h : Halfedge). T (ends_of_one_edge h y)) z (subst (λ (h : Halfedge). T (ends_of_one_edge (along c.id) h)) w (same_refl (against c.id)))
    two r rec true false e = absurd (later r (along c.id) refl e)
    two r rec false true e = absurd (later r (against c.id) refl e)
    two r rec false false e = rec e

    go : Every (λ (k : Halfedge). c.id < k.edge) (ends_at cs v) → (ends_at cs v ≡ x ∷ y ∷ [] → T (ends_of_one_edge x y))
        → (t : Figure) → figure_ends v c.id t ++ ends_at cs v ≡ x ∷ y ∷ [] → T (ends_of_one_edge x y)
    go r rec (vertex p) e = rec e
    go r rec (open_edge a b bs) e = two r rec (eqb a v) (eqb b v) e
    go r rec (closed_edge bs) e = rec e
    go r rec (face ks) e = rec e

pub end_listed : (s : Sheet) (v : ℕ) (h : Halfedge) → T (is_open (cell_at s h.edge)) → tail_of (cell_at s) h ≡ v → T (is_in (ends_at s.cells v) h)
end_listed s v h o q =
    let k = open_at (cell_at s) h.edge o in
    end_in s.cells v h k.0 k.1 k.2 k.3 (ap (λ (x : Option Figure). cond h.backward (end_of x) (start_of x)) (sym k.3) ∙ q)

flip_tail : (look : Look) (h : Halfedge) → tail_of look (flipped h) ≡ head_of look h
flip_tail look h = go h.backward
  where
    go : (b : Bool) → cond (not b) (end_of (look h.edge)) (start_of (look h.edge)) ≡ cond b (start_of (look h.edge)) (end_of (look h.edge))
    go true = refl
    go false = refl

-- no face has v alone in a cycle
no_lone : (s : Sheet) (v : ℕ) → uses_by (lone_use v) s.cells ≡ 0 → (j : ℕ) (ks : List Cycle) → cell_at s j ≡ some (face ks) → total (lone_use v) ks ≡ 0
no_lone s v z j ks q = let l = over_at (λ (t : Figure). total (lone_use v) (cycles_of (some t))) s.cells j (face ks) q in omega arith

pub all_filter : {A : Type 0} (p p' q : A → Bool) → ((x : A) → T (q x) → T (p x) → T (p' x)) → (xs : List A) → T (all p xs) → T (all p' (filter q xs))
all_filter p p' q h [] t = tt
all_filter p p' q h (x ∷ xs) t = let b = parts (p x) (all p xs) t in go (q x) refl b.0 (all_filter p p' q h xs b.1)
  where
    go : (y : Bool) → q x ≡ y → T (p x) → T (all p' (filter q xs)) → T (all p' (cons_if y x (filter q xs)))
    go true z a r = pair (p' x) (all p' (filter q xs)) (h x (truth z) a) r
    go false z a r = r

-- ---- alone in one cycle
module _ (s : Sheet) (S : Sound s) (v : ℕ) (p : Position) (at : cell_at s v ≡ some (vertex p)) (none_end : ends_at s.cells v ≡ []) where
  abbrev lookˡ : Look
  lookˡ = Look' (others v) (without_lone v) [] s

  no_end : (h : Halfedge) → T (is_open (cell_at s h.edge)) → tail_of (cell_at s) h ≡ v → ⊥
  no_end h o q = subst (λ (hs : List Halfedge). T (is_in hs h)) none_end (end_listed s v h o q)

  same_shape : (x : ℕ) (t : Figure) → cell_at s x ≡ some t → (x ≡ v → ⊥) → (T (is_vertex (some t)) ⊎ T (is_edge (some t))) → lookˡ x ≡ cell_at s x
  same_shape x t q n k = stays_at (others v) (without_lone v) [] s x t (rw (ne_eqb v x (λ z. n (sym z))) tt) q ∙ ap some (go t k) ∙ sym q
    where
      go : (t : Figure) → (T (is_vertex (some t)) ⊎ T (is_edge (some t))) → without_lone v x t ≡ t
      go (vertex r) k = refl
      go (open_edge a b bs) k = refl
      go (closed_edge bs) k = refl
      go (face ks) (inl k) = absurd k
      go (face ks) (inr k) = absurd k

  stays : (x : ℕ) → (x ≡ v → ⊥) → (T (is_vertex (cell_at s x)) ⊎ T (is_edge (cell_at s x))) → lookˡ x ≡ cell_at s x
  stays x n k = go (cell_at s x) refl k
    where
      go : (o : Option Figure) → cell_at s x ≡ o → (T (is_vertex o) ⊎ T (is_edge o)) → lookˡ x ≡ cell_at s x
      go none q (inl k) = absurd k
      go none q (inr k) = absurd k
      go (some t) q k = same_shape x t q n k

  vertex_stays : (x : ℕ) → (x ≡ v → ⊥) → T (is_vertex (cell_at s x)) → T (is_vertex (lookˡ x))
  vertex_stays x n t = subst (λ (o : Option Figure). T (is_vertex o)) (sym (stays x n (inl t))) t

  edge_not_v : (e : ℕ) → T (is_edge (cell_at s e)) → e ≡ v → ⊥
  edge_not_v e t z = subst (λ (o : Option Figure). T (is_edge o)) (ap (cell_at s) z ∙ at) t

  steps_stay : (hs : List Halfedge) → Edges s S hs → Every (λ (h : Halfedge). lookˡ h.edge ≡ cell_at s h.edge) hs
  steps_stay [] a = tt
  steps_stay (h ∷ hs) a = let k = edge_of (cell_at s h.edge) a.0 in (stays h.edge (edge_not_v h.edge k) (inr k), steps_stay hs a.1)

  cycle_stays : (k : Cycle) → T (not (is_lone v k)) → T (cycle_ok (cell_at s) k) → T (cycle_ok lookˡ k)
  cycle_stays (lone w) n t = vertex_stays w (λ z. lib.Dec.T_not (eqb v w) n (equal (sym z))) t
  cycle_stays (path hs) n t = joins_stay (cell_at s) lookˡ hs (steps_stay hs (joins_edges s S hs t)) t

  old : (j : ℕ) (t : Figure) → cell_at s j ≡ some t → T (figure_ok (cell_at s) t) → T (figure_ok lookˡ (without_lone v j t))
  old j (vertex r) q o = o
  old j (open_edge a b bs) q o =
      let x = parts (is_vertex (cell_at s a)) (is_vertex (cell_at s b) && all within bs) o in
      let y = parts (is_vertex (cell_at s b)) (all within bs) x.1 in
      let e : T (is_open (cell_at s j)) = rw q tt in
      pair (is_vertex (lookˡ a)) (is_vertex (lookˡ b) && all within bs) (vertex_stays a (λ z. no_end (along j) e (ap start_of q ∙ z)) x.0)
      (pair (is_vertex (lookˡ b)) (all within bs) (vertex_stays b (λ z. no_end (against j) e (ap end_of q ∙ z)) y.0) y.1)
  old j (closed_edge bs) q o = o
  old j (face ks) q o = all_filter (cycle_ok (cell_at s)) (cycle_ok lookˡ) (λ (k : Cycle). not (is_lone v k)) cycle_stays ks o

  pub lonely_sound : T (leb (rebuild (others v) (without_lone v) [] s).next ids_end) → T (ceilings (rebuild (others v) (without_lone v) [] s).cells)
      → Sound (rebuild (others v) (without_lone v) [] s)
  lonely_sound seven eight = rebuild_sound (others v) (without_lone v) [] s S seven eight (λ j t k q. old j t q (S.figures j t q)) tt

  gain_same : (j : ℕ) (t : Figure) → gain (without_lone v j t) ≡ gain t
  gain_same j (vertex r) = refl
  gain_same j (open_edge a b bs) = refl
  gain_same j (closed_edge bs) = refl
  gain_same j (face ks) = refl

  lone_less : (f : Cycle → ℕ) → ((w : ℕ) → f (lone w) ≡ 1) → (ks : List Cycle)
      → total f (filter (λ (k : Cycle). not (is_lone v k)) ks) + total (lone_use v) ks ≡ total f ks
  lone_less f n [] = refl
  lone_less f n (lone w ∷ ks) = go (eqb v w) (n w) (lone_less f n ks)
    where
      go : (b : Bool) → f (lone w) ≡ 1 → total f (filter (λ (k : Cycle). not (is_lone v k)) ks) + total (lone_use v) ks ≡ total f ks
          → total f (cons_if (not b) (lone w) (filter (λ (k : Cycle). not (is_lone v k)) ks)) + (cond b 1 0 + total (lone_use v) ks) ≡ f (lone w) + total f ks
      go true e h = omega arith
      go false e h = omega arith
  lone_less f n (path hs ∷ ks) = let h = lone_less f n ks in omega arith

  pub cycles_less : (ks : List Cycle) → length (filter (λ (k : Cycle). not (is_lone v k)) ks) + total (lone_use v) ks ≡ length ks
  cycles_less ks = let h = lone_less (λ (k : Cycle). 1) (λ w. refl) ks in let a = total_ones (filter (λ (k : Cycle). not (is_lone v k)) ks) in
      let b = total_ones ks in omega arith

  pub steps_less : (ks : List Cycle) → total step_count (filter (λ (k : Cycle). not (is_lone v k)) ks) + total (lone_use v) ks ≡ total step_count ks
  steps_less ks = lone_less step_count (λ w. refl) ks

  -- sums that lose one with each lone cycle, and sums that do not
  pub lonely_less : (g : Figure → ℕ) → ((j : ℕ) (t : Figure) → g (without_lone v j t) + total (lone_use v) (cycles_of (some t)) ≡ g t)
      → over g (rebuild (others v) (without_lone v) [] s).cells + uses_by (lone_use v) s.cells + g (vertex p) ≡ over g s.cells
  lonely_less g h =
      let a = over_rebuild g (others v) (without_lone v) [] s in
      let b = over_reshaped g (λ (t : Figure). total (lone_use v) (cycles_of (some t))) (λ (t : Figure). 0) (without_lone v) (λ j t. let e = h j t in omega arith)
      (keep_ids (others v) s.cells) in
      let z = total_zero (keep_ids (others v) s.cells) in
      let c = without_one v (vertex p) s S at g in
      let d = without_one v (vertex p) s S at (λ (t : Figure). total (lone_use v) (cycles_of (some t))) in
      omega arith

  pub lonely_same : (g : Figure → ℕ) → ((j : ℕ) (t : Figure) → g (without_lone v j t) ≡ g t)
      → over g (rebuild (others v) (without_lone v) [] s).cells + g (vertex p) ≡ over g s.cells
  lonely_same g h = let a = over_kept g (without_lone v) h (others v) [] s in let b = without_one v (vertex p) s S at g in omega arith

  loss_less : (j : ℕ) (t : Figure) → loss (without_lone v j t) + total (lone_use v) (cycles_of (some t)) ≡ loss t
  loss_less j (vertex r) = refl
  loss_less j (open_edge a b bs) = refl
  loss_less j (closed_edge bs) = refl
  loss_less j (face ks) = cycles_less ks

  pub lonely_over : uses_by (lone_use v) s.cells ≡ 1 → Even s (rebuild (others v) (without_lone v) [] s)
  lonely_over n = let a = lonely_same gain gain_same in let b = lonely_less loss loss_less in omega arith

pub all_reverse : {A : Type 0} (q : A → Bool) (xs : List A) → T (all q xs) → T (all q (reverse xs))
all_reverse q xs t = go xs [] t tt
  where
    go : (xs ys : List _) → T (all q xs) → T (all q ys) → T (all q (reverse_aux xs ys))
    go [] ys t u = u
    go (x ∷ xs) ys t u = let b = parts (q x) (all q xs) t in go xs (x ∷ ys) b.1 (pair (q x) (all q ys) b.0 u)

-- ---- exactly two ends, and no lone cycle
every_of_any : {A : Type 0} (q : A → Bool) (xs : List A) → any q xs ≡ false → Every (λ (x : A). q x ≡ false) xs
every_of_any q [] z = tt
every_of_any q (x ∷ xs) z = go (q x) refl z (λ w. every_of_any q xs w)
  where
    go : (b : Bool) → q x ≡ b → (b || any q xs) ≡ false → (any q xs ≡ false → Every (λ (y : _). q y ≡ false) xs) → Every (λ (y : _). q y ≡ false) (x ∷ xs)
    go true w z r = absurd (true≢false z)
    go false w z r = (w, r z)

module _ (s : Sheet) (S : Sound s) (v : ℕ) (p : Position) (at : cell_at s v ≡ some (vertex p)) (x y : Halfedge) (two : ends_at s.cells v ≡ x ∷ y ∷ [])
    (alone : uses_by (lone_use v) s.cells ≡ 0) where
  pub real_ends : (T (is_open (cell_at s x.edge)) × (tail_of (cell_at s) x ≡ v)) × ((T (is_open (cell_at s y.edge)) × (tail_of (cell_at s) y ≡ v)) × Unit {0})
  real_ends = subst (Every (λ (h : Halfedge). T (is_open (cell_at s h.edge)) × (tail_of (cell_at s) h ≡ v))) two
      (ends_real (cell_at s) v s.cells (own_cells (cell_at s) 0 s.cells s.next S.rises (λ i t q. q)))

  pub is_end_lem : (h : Halfedge) → T (is_open (cell_at s h.edge)) → tail_of (cell_at s) h ≡ v → (h ≡ x) ⊎ (h ≡ y)
  is_end_lem h o q = elim (cases (same h x) (same h y || false) (subst (λ (hs : List Halfedge). T (is_in hs h)) two (end_listed s v h o q))) [
    | inl a ↦ inl (same_eq h x a)
    | inr b ↦ elim (cases (same h y) false b) [ inl c ↦ inr (same_eq h y c) | inr c ↦ absurd c ]
  ]

  abbrev Here : Passage → Bool
  Here t = is_open (cell_at s t.leaves.edge) && eqb (tail_of (cell_at s) t.leaves) v

  module _ (keep : ℕ → Bool) (σ : Halfedge → List Halfedge) (t : Figure) (Q : Passage → Type 0)
      (gone : (j : ℕ) → T (keep j) → (j ≡ x.edge → ⊥) × (j ≡ y.edge → ⊥)) (kept : (j : ℕ) → (j ≡ v → ⊥) → (j ≡ x.edge → ⊥) → (j ≡ y.edge → ⊥)
      → T (keep j)) where
    abbrev pub look² : Look
    look² = Look' keep (rewired same_vertex σ) (t ∷ []) s

    pub stays² : (z : ℕ) → (z ≡ v → ⊥) → (z ≡ x.edge → ⊥) → (z ≡ y.edge → ⊥) → (T (is_vertex (cell_at s z)) ⊎ T (is_edge (cell_at s z))) → look² z ≡ cell_at s z
    stays² z a b c k = go (cell_at s z) refl k
      where
        plain : (u : Figure) → (T (is_vertex (some u)) ⊎ T (is_edge (some u))) → rewired same_vertex σ z u ≡ u
        plain (vertex r) k = refl
        plain (open_edge d e bs) k = refl
        plain (closed_edge bs) k = refl
        plain (face ks) (inl k) = absurd k
        plain (face ks) (inr k) = absurd k

        go : (o : Option Figure) → cell_at s z ≡ o → (T (is_vertex o) ⊎ T (is_edge o)) → look² z ≡ cell_at s z
        go none q (inl k) = absurd k
        go none q (inr k) = absurd k
        go (some u) q k = stays_at keep (rewired same_vertex σ) (t ∷ []) s z u (kept z a b c) q ∙ ap some (plain u k) ∙ sym q

    open_no_vertex : (e z : ℕ) → T (is_open (cell_at s e)) → T (is_vertex (cell_at s z)) → z ≡ e → ⊥
    open_no_vertex e z o w q = go (cell_at s e) o (subst (λ (i : ℕ). T (is_vertex (cell_at s i))) q w)
      where
        go : (r : Option Figure) → T (is_open r) → T (is_vertex r) → ⊥
        go none a b = b
        go (some (vertex r)) a b = a
        go (some (open_edge c d bs)) a b = b
        go (some (closed_edge bs)) a b = b
        go (some (face ks)) a b = b

    pub vertex² : (z : ℕ) → (z ≡ v → ⊥) → T (is_vertex (cell_at s z)) → T (is_vertex (look² z))
    vertex² z n w = subst (λ (o : Option Figure). T (is_vertex o))
        (sym (stays² z n (open_no_vertex x.edge z real_ends.0.0 w) (open_no_vertex y.edge z real_ends.1.0.0 w) (inl w))) w

    pub edge-not-v² : (e : ℕ) → T (is_edge (cell_at s e)) → e ≡ v → ⊥
    edge-not-v² e k z = subst (λ (o : Option Figure). T (is_edge o)) (ap (cell_at s) z ∙ at) k

    -- the ends of an edge that stays are not v
    pub ends² : (h : Halfedge) → T (is_open (cell_at s h.edge)) → (h.edge ≡ x.edge → ⊥) → (h.edge ≡ y.edge → ⊥) → tail_of (cell_at s) h ≡ v → ⊥
    ends² h o a b q = elim (is_end_lem h o q) [ inl z ↦ a (ap (λ (k : Halfedge). k.edge) z) | inr z ↦ b (ap (λ (k : Halfedge). k.edge) z) ]

    module _ (path-ok : (hs : List Halfedge) → T (joins (cell_at s) hs) → Every Q (filter Here (passages hs))
        → T (joins look² (spread σ hs))) (all_pass : Every Q (passages_at s.cells v)) where
      cycles² : (ks : List Cycle) → total (lone_use v) ks ≡ 0 → T (all (cycle_ok (cell_at s)) ks) → Every Q (filter Here (turns_of ks))
          → T (all (cycle_ok look²) (map (rewired_cycle same_vertex σ) ks))
      cycles² [] z o e = tt
      cycles² (k ∷ ks) z o e =
          let b = parts (cycle_ok (cell_at s) k) (all (cycle_ok (cell_at s)) ks) o in
          let d = subst (Every Q) (filter_append Here (passages (steps_of k)) (turns_of ks)) e in
          pair (cycle_ok look² (rewired_cycle same_vertex σ k)) (all (cycle_ok look²) (map (rewired_cycle same_vertex σ) ks))
          (one_of k (omega arith) b.0 (every_left Q (filter Here (passages (steps_of k))) (filter Here (turns_of ks)) d))
          (cycles² ks (omega arith) b.1 (every_right Q (filter Here (passages (steps_of k))) (filter Here (turns_of ks)) d))
        where
          one_of : (k : Cycle) → lone_use v k ≡ 0 → T (cycle_ok (cell_at s) k) → Every Q (filter Here (passages (steps_of k)))
              → T (cycle_ok look² (rewired_cycle same_vertex σ k))
          one_of (lone w) z o e = vertex² w (λ q. let r : ◌≡◌ {A = ℕ} (lone_use v (lone w)) 1 = rw (eq-eqb v w (sym q)) in omega arith) o
          one_of (path hs) z o e = path-ok hs o e

      old² : (j : ℕ) (u : Figure) → T (keep j) → cell_at s j ≡ some u → T (figure_ok (cell_at s) u) → T (figure_ok look² (rewired same_vertex σ j u))
      old² j (vertex r) k q o = o
      old² j (open_edge a b bs) k q o =
          let m = parts (is_vertex (cell_at s a)) (is_vertex (cell_at s b) && all within bs) o in
          let n = parts (is_vertex (cell_at s b)) (all within bs) m.1 in
          let e : T (is_open (cell_at s j)) = rw q tt in
          let g = gone j k in
          pair (is_vertex (look² a)) (is_vertex (look² b) && all within bs) (vertex² a (λ z. ends² (along j) e g.0 g.1 (ap start_of q ∙ z)) m.0)
          (pair (is_vertex (look² b)) (all within bs) (vertex² b (λ z. ends² (against j) e g.0 g.1 (ap end_of q ∙ z)) n.0) n.1)
      old² j (closed_edge bs) k q o = o
      old² j (face ks) k q o = cycles² ks (no_lone s v alone j ks q) o (passages_in Q Here s.cells all_pass j (face ks) q)

      pub two_sound : T (leb (rebuild keep (rewired same_vertex σ) (t ∷ []) s).next ids_end)
          → T (ceilings (rebuild keep (rewired same_vertex σ) (t ∷ []) s).cells) → T (figure_ok look² t) → Sound (rebuild keep (rewired same_vertex σ) (t ∷ []) s)
      two_sound seven eight o = rebuild_sound keep (rewired same_vertex σ) (t ∷ []) s S seven eight (λ j u k q. old² j u k q (S.figures j u q))
          (pair (figure_ok look² t) true o tt)

  -- ---- the two ends of one edge
  module _ (fl : T (same (flipped x) y)) (no-turn : any (λ (t : Passage). same t.arrives t.leaves) (passages_at s.cells v) ≡ false) where
    abbrev eˡ : ℕ
    eˡ = x.edge

    y_is : y ≡ flipped x
    y_is = sym (same_eq (flipped x) y fl)

    ye : y.edge ≡ eˡ
    ye = ap (λ (h : Halfedge). h.edge) y_is

    abbrev keepˡ : ℕ → Bool
    keepˡ = neither v eˡ

    abbrev σˡ : Halfedge → List Halfedge
    σˡ = in_place_of eˡ s.next false

    abbrev tˡ : Figure
    tˡ = closed_edge (position_of (cell_at s v) ∷ bends_of (cell_at s eˡ))

    abbrev Qˡ : Passage → Type 0
    Qˡ t = same t.arrives t.leaves ≡ false

    goneˡ : (j : ℕ) → T (keepˡ j) → (j ≡ x.edge → ⊥) × (j ≡ y.edge → ⊥)
    goneˡ j k =
        let b = parts (others v j) (others eˡ j) k in
        ((λ z. lib.Dec.T_not (eqb eˡ j) b.1 (equal (sym z))), (λ z. lib.Dec.T_not (eqb eˡ j) b.1 (equal (sym (z ∙ ye)))))

    keptˡ : (j : ℕ) → (j ≡ v → ⊥) → (j ≡ x.edge → ⊥) → (j ≡ y.edge → ⊥) → T (keepˡ j)
    keptˡ j a b c = pair (others v j) (others eˡ j) (rw (ne_eqb v j (λ z. a (sym z))) tt) (rw (ne_eqb eˡ j (λ z. b (sym z))) tt)

    abbrev lookᵖ : Look
    lookᵖ = look² keepˡ σˡ tˡ Qˡ goneˡ keptˡ

    head_v : (h : Halfedge) → h.edge ≡ eˡ → head_of (cell_at s) h ≡ v
    head_v h z = elim (turned x h (sym z)) [
      | inl q ↦ ap (head_of (cell_at s)) q ∙ sym (flip_tail (cell_at s) x) ∙ ap (tail_of (cell_at s)) (sym y_is) ∙ real_ends.1.0.1
      | inr q ↦ sym (flip_tail (cell_at s) h) ∙ ap (λ (k : Halfedge). tail_of (cell_at s) (flipped k)) q ∙ twice ∙ real_ends.0.1
    ]
      where
        twice : tail_of (cell_at s) (flipped (flipped x)) ≡ tail_of (cell_at s) x
        twice = ap (λ (b : Bool). tail_of (cell_at s) (record { edge = x.edge; backward = b })) (mathlib.Core.Bool.not-not x.backward)

    e_end : (k : Halfedge) → T (is_open (cell_at s k.edge)) → tail_of (cell_at s) k ≡ v → k.edge ≡ eˡ
    e_end k o q = elim (is_end_lem k o q) [ inl z ↦ ap (λ (h : Halfedge). h.edge) z | inr z ↦ ap (λ (h : Halfedge). h.edge) z ∙ ye ]

    -- after a step of the edge comes the same step; before one, too, comes one
    next_same : (h k : Halfedge) (ts : List Passage) → T (is_open (cell_at s k.edge)) → head_of (cell_at s) h ≡ tail_of (cell_at s) k
        → Every Qˡ (cons_if (Here (passage h k)) (passage h k) ts) → h.edge ≡ eˡ → k ≡ h
    next_same h k ts o m e z =
        let q : tail_of (cell_at s) k ≡ v = sym m ∙ head_v h z in
        let here : Here (passage h k) ≡ true = true_of (Here (passage h k)) (pair (is_open (cell_at s k.edge)) (eqb (tail_of (cell_at s) k) v) o (equal q)) in
        let r : Every Qˡ (passage h k ∷ ts) = subst (λ (b : Bool). Every Qˡ (cons_if b (passage h k) ts)) here e in
        elim (turned h k (z ∙ sym (e_end k o q))) [
          | inl w ↦ w
          | inr w ↦ absurd (false≢true
              (sym r.0 ∙ true_of (same (flipped h) k) (subst (λ (j : Halfedge). T (same (flipped h) j)) (sym w) (same_refl (flipped h)))))
        ]

    rest : (h k : Halfedge) (ts : List Passage) → Every Qˡ (cons_if (Here (passage h k)) (passage h k) ts) → Every Qˡ ts
    rest h k ts e = go (Here (passage h k)) e
      where
        go : (b : Bool) → Every Qˡ (cons_if b (passage h k) ts) → Every Qˡ ts
        go true r = r.1
        go false r = r

    all_same : (f h₀ h : Halfedge) (hs : List Halfedge) → Walk (cell_at s) (head_of (cell_at s) h) hs (tail_of (cell_at s) f)
        → Every Qˡ (filter Here (passages_from f h hs)) → h₀ ≡ h → h.edge ≡ eˡ → T (all (same h₀) hs)
    all_same f h₀ h [] w e q z = tt
    all_same f h₀ h (k ∷ ks) w e q z =
        let i = next_same h k (filter Here (passages_from f k ks)) w.0 w.1 e z in
        pair (same h₀ k) (all (same h₀) ks) (subst (λ (j : Halfedge). T (same h₀ j)) (q ∙ sym i) (same_refl h₀))
        (all_same f h₀ k ks w.2 (rest h k (filter Here (passages_from f k ks)) e) (q ∙ sym i) (ap (λ (j : Halfedge). j.edge) i ∙ z))

    none_of_lem : (h : Halfedge) (hs : List Halfedge) (u : ℕ) → T (is_open (cell_at s h.edge)) → Walk (cell_at s) (head_of (cell_at s) h) hs u → (h.edge ≡ eˡ → ⊥)
        → Every (λ (k : Halfedge). k.edge ≡ eˡ → ⊥) hs
    none_of_lem h [] u o w n = tt
    none_of_lem h (k ∷ ks) u o w n =
        let m : k.edge ≡ eˡ → ⊥ = λ z. n (e_end (flipped h) o (flip_tail (cell_at s) h ∙ w.1 ∙ tail_v k z)) in
        (m, none_of_lem k ks u w.0 w.2 m)
      where
        tail_v : (k : Halfedge) → k.edge ≡ eˡ → tail_of (cell_at s) k ≡ v
        tail_v k z = ap (λ (b : Bool). tail_of (cell_at s) (record { edge = k.edge; backward = b })) (sym (mathlib.Core.Bool.not-not k.backward))
            ∙ flip_tail (cell_at s) (flipped k) ∙ head_v (flipped k) z

    new_closed : T (is_closed (lookᵖ s.next))
    new_closed = let e = new_at keepˡ (rewired same_vertex σˡ) (tˡ ∷ []) s S s.next (omega arith) in rw (e, eq-eqb s.next s.next refl) tt

    spread_none : (hs : List Halfedge) → Every (λ (k : Halfedge). k.edge ≡ eˡ → ⊥) hs → spread σˡ hs ≡ hs
    spread_none [] a = refl
    spread_none (h ∷ hs) a = rw (ne_eqb eˡ h.edge (λ z. a.0 (sym z))) (ap (λ (ks : List Halfedge). h ∷ ks) (spread_none hs a.1))

    stay_all : (hs : List Halfedge) → Edges s S hs → Every (λ (k : Halfedge). k.edge ≡ eˡ → ⊥) hs
        → Every (λ (h : Halfedge). lookᵖ h.edge ≡ cell_at s h.edge) hs
    stay_all [] a b = tt
    stay_all (h ∷ hs) a b =
        let k = edge_of (cell_at s h.edge) a.0 in (
          stays² keepˡ σˡ tˡ Qˡ goneˡ keptˡ h.edge (edge-not-v² keepˡ σˡ tˡ Qˡ goneˡ keptˡ h.edge k) b.0 (λ z. b.0
              (z ∙ ye)) (inr k),
          stay_all hs a.1 b.1,
        )

    path-okˡ : (hs : List Halfedge) → T (joins (cell_at s) hs) → Every Qˡ (filter Here (passages hs)) → T (joins lookᵖ (spread σˡ hs))
    path-okˡ [] t e = t
    path-okˡ (h ∷ hs) t e = elim (joins_cases (cell_at s) (h ∷ hs) t) [
      | inl w ↦ let k = w.1.1 in go k.0 (subst (λ (u : ℕ). Walk (cell_at s) (head_of (cell_at s) h) hs u) k.1 k.2) (eqb eˡ h.edge) refl
      | inr g ↦ untouched (ring_none h.edge g.0, rings hs g.1 g.0)
    ]
      where
        untouched : Every (λ (k : Halfedge). k.edge ≡ eˡ → ⊥) (h ∷ hs) → T (joins lookᵖ (spread σˡ (h ∷ hs)))
        untouched a = subst (λ (ks : List Halfedge). T (joins lookᵖ ks)) (sym (spread_none (h ∷ hs) a))
            (joins_stay (cell_at s) lookᵖ (h ∷ hs) (stay_all (h ∷ hs) (joins_edges s S (h ∷ hs) t) a) t)

        ring_none : (j : ℕ) → T (is_closed (cell_at s j)) → j ≡ eˡ → ⊥
        ring_none j c z = apart (cell_at s j) c (subst (λ (i : ℕ). T (is_open (cell_at s i))) (sym z) real_ends.0.0)

        rings : (ks : List Halfedge) → T (all (same h) ks) → T (is_closed (cell_at s h.edge)) → Every (λ (k : Halfedge). k.edge ≡ eˡ → ⊥) ks
        rings [] a c = tt
        rings (k ∷ ks) a c = let b = parts (same h k) (all (same h) ks) a in
            (ring_none k.edge (subst (λ (j : Halfedge). T (is_closed (cell_at s j.edge))) (same_eq h k b.0) c), rings ks b.1 c)

        go : T (is_open (cell_at s h.edge)) → Walk (cell_at s) (head_of (cell_at s) h) hs (tail_of (cell_at s) h) → (b : Bool) → eqb eˡ h.edge ≡ b
            → T (joins lookᵖ (spread σˡ (h ∷ hs)))
        go k w true q =
            let z : h.edge ≡ eˡ = sym (eqb-true eˡ h.edge q) in
            ring_carried (cell_at s) lookᵖ σˡ h hs (record { edge = s.next; backward = h.backward }) (rw q) new_closed (all_same h h h hs w e refl z)
        go k w false q = let n : h.edge ≡ eˡ → ⊥ = λ z. eqb-false eˡ h.edge q (sym z) in untouched (n, none_of_lem h hs (tail_of (cell_at s) h) k w n)

    new-okˡ : T (figure_ok lookᵖ tˡ)
    new-okˡ =
        let k = open_at (cell_at s) eˡ real_ends.0.0 in
        let b = parts (is_vertex (cell_at s k.0)) (is_vertex (cell_at s k.1) && all within k.2) (S.figures eˡ (open_edge k.0 k.1 k.2) k.3) in
        let c = parts (is_vertex (cell_at s k.1)) (all within k.2) b.1 in
        rw (at, k.3) (pair (within p) (all within k.2) (S.figures v (vertex p) at) c.1)

    pub loop_sound : T (leb (rebuild keepˡ (rewired same_vertex σˡ) (tˡ ∷ []) s).next ids_end)
        → T (ceilings (rebuild keepˡ (rewired same_vertex σˡ) (tˡ ∷ []) s).cells) → Sound (rebuild keepˡ (rewired same_vertex σˡ) (tˡ ∷ []) s)
    loop_sound seven eight = two_sound keepˡ σˡ tˡ Qˡ goneˡ keptˡ path-okˡ
        (every_of_any (λ (t : Passage). same t.arrives t.leaves) (passages_at s.cells v) no-turn) seven eight new-okˡ

    -- the vertex and the edge go
    pub loop_gone : (t : Figure) → cell_at s eˡ ≡ some t → Without s keepˡ (vertex p ∷ t ∷ [])
    loop_gone t k =
        let n : T (others eˡ v) = rw
        (ne_eqb eˡ v (λ z. edge-not-v² keepˡ σˡ tˡ Qˡ goneˡ keptˡ eˡ (or_left (is_open (cell_at s eˡ)) (is_closed (cell_at s eˡ)) real_ends.0.0) z)) tt in
        without_more v (vertex p) (others eˡ) (one t) s S at n (without_one eˡ t s S k)

    pub loop_over : Even s (rebuild keepˡ (rewired same_vertex σˡ) (tˡ ∷ []) s)
    loop_over =
        let k = open_at (cell_at s) eˡ real_ends.0.0 in
        let a = over_kept gain (rewired same_vertex σˡ) (gain_rewired same_vertex σˡ) keepˡ (tˡ ∷ []) s in
        let b = over_kept loss (rewired same_vertex σˡ) (loss_rewired same_vertex σˡ) keepˡ (tˡ ∷ []) s in
        let c = loop_gone (open_edge k.0 k.1 k.2) k.3 gain in
        let d = loop_gone (open_edge k.0 k.1 k.2) k.3 loss in
        omega arith

  -- ---- one end each of two edges
  module _ (ne : eqb x.edge y.edge ≡ false) (no_self : any (λ (t : Passage). eqb t.arrives.edge t.leaves.edge) (passages_at s.cells v)
      ≡ false) where
    abbrev a : ℕ
    a = x.edge

    abbrev b : ℕ
    b = y.edge

    abbrev far : ℕ
    far = head_of (cell_at s) y

    abbrev keepʲ : ℕ → Bool
    keepʲ j = others v j && neither a b j

    abbrev σʲ : Halfedge → List Halfedge
    σʲ = in_one a b s.next

    abbrev tʲ : Figure
    tʲ = joined (cell_at s) (position_of (cell_at s v)) x y

    abbrev Qʲ : Passage → Type 0
    Qʲ t = eqb t.arrives.edge t.leaves.edge ≡ false

    apart_ab : a ≡ b → ⊥
    apart_ab = eqb-false a b ne

    goneʲ : (j : ℕ) → T (keepʲ j) → (j ≡ x.edge → ⊥) × (j ≡ y.edge → ⊥)
    goneʲ j k =
        let m = parts (others a j) (others b j) (parts (others v j) (neither a b j) k).1 in
        ((λ z. lib.Dec.T_not (eqb a j) m.0 (equal (sym z))), (λ z. lib.Dec.T_not (eqb b j) m.1 (equal (sym z))))

    keptʲ : (j : ℕ) → (j ≡ v → ⊥) → (j ≡ x.edge → ⊥) → (j ≡ y.edge → ⊥) → T (keepʲ j)
    keptʲ j m n o = pair (others v j) (neither a b j) (rw (ne_eqb v j (λ z. m (sym z))) tt)
        (pair (others a j) (others b j) (rw (ne_eqb a j (λ z. n (sym z))) tt) (rw (ne_eqb b j (λ z. o (sym z))) tt))

    abbrev lookʲ : Look
    lookʲ = look² keepʲ σʲ tʲ Qʲ goneʲ keptʲ

    flip_not : (h : Halfedge) → flipped h ≡ h → ⊥
    flip_not h z = go h.backward (ap (λ (k : Halfedge). k.backward) z)
      where
        go : (c : Bool) → not c ≡ c → ⊥
        go true q = false≢true q
        go false q = true≢false q

    -- the other ends are not at the vertex
    far_not : far ≡ v → ⊥
    far_not z = elim (is_end_lem (flipped y) real_ends.1.0.0 (flip_tail (cell_at s) y ∙ z))
        [ inl q ↦ apart_ab (sym (ap (λ (h : Halfedge). h.edge) q)) | inr q ↦ flip_not y q ]

    near_not : head_of (cell_at s) x ≡ v → ⊥
    near_not z = elim (is_end_lem (flipped x) real_ends.0.0 (flip_tail (cell_at s) x ∙ z))
        [ inl q ↦ flip_not x q | inr q ↦ apart_ab (ap (λ (h : Halfedge). h.edge) q) ]

    -- the vertex goes to the far end of b
    abbrev r : ℕ → ℕ
    r z = cond (eqb v z) far z

    r_v : (z : ℕ) → z ≡ v → r z ≡ far
    r_v z q = rw (eq-eqb v z (sym q))

    r_else : (z : ℕ) → (z ≡ v → ⊥) → r z ≡ z
    r_else z q = rw (ne_eqb v z (λ w. q (sym w)))

    flip_head : (look : Look) (h : Halfedge) → head_of look (flipped h) ≡ tail_of look h
    flip_head look h = go h.backward
      where
        go : (c : Bool) → cond (not c) (start_of (look h.edge)) (end_of (look h.edge)) ≡ cond c (end_of (look h.edge)) (start_of (look h.edge))
        go true = refl
        go false = refl

    new_at_next : lookʲ s.next ≡ some tʲ
    new_at_next = new_at keepʲ (rewired same_vertex σʲ) (tʲ ∷ []) s S s.next (omega arith) ∙ rw (eq-eqb s.next s.next refl)

    -- the new edge, passed as x is: from the far end of b to the other end of a
    new_ends_lem : T (is_open (some tʲ)) × (far ≡ cond x.backward (end_of (some tʲ)) (start_of (some tʲ)))
        × (head_of (cell_at s) x ≡ cond x.backward (start_of (some tʲ)) (end_of (some tʲ)))
    new_ends_lem = go x.backward
      where
        go : (c : Bool) → T (is_open
            (some (cond c (open_edge (start_of (cell_at s a)) far (bends_of (cell_at s a) ++ (position_of (cell_at s v) ∷ bends_along (cell_at s) y)))
            (open_edge far (end_of (cell_at s a)) (reverse (bends_along (cell_at s) y) ++ (position_of (cell_at s v) ∷ bends_of (cell_at s a)))))))
            × (far ≡ cond c (end_of (some
            (cond c (open_edge (start_of (cell_at s a)) far (bends_of (cell_at s a) ++ (position_of (cell_at s v) ∷ bends_along (cell_at s) y)))
            (open_edge far (end_of (cell_at s a)) (reverse (bends_along (cell_at s) y) ++ (position_of (cell_at s v) ∷ bends_of (cell_at s a)))))))
            (start_of (some (cond c (open_edge (start_of (cell_at s a)) far (bends_of (cell_at s a) ++ (position_of (cell_at s v) ∷ bends_along (cell_at s) y)))
            (open_edge far (end_of (cell_at s a)) (reverse (bends_along (cell_at s) y) ++ (position_of (cell_at s v) ∷ bends_of (cell_at s a))))))))
            × (cond c (start_of (cell_at s a)) (end_of (cell_at s a))
            ≡ cond c (start_of (some (cond c
            (open_edge (start_of (cell_at s a)) far (bends_of (cell_at s a) ++ (position_of (cell_at s v) ∷ bends_along (cell_at s) y)))
            (open_edge far (end_of (cell_at s a)) (reverse (bends_along (cell_at s) y) ++ (position_of (cell_at s v) ∷ bends_of (cell_at s a)))))))
            (end_of (some (cond c (open_edge (start_of (cell_at s a)) far (bends_of (cell_at s a) ++ (position_of (cell_at s v) ∷ bends_along (cell_at s) y)))
            (open_edge far (end_of (cell_at s a)) (reverse (bends_along (cell_at s) y) ++ (position_of (cell_at s v) ∷ bends_of (cell_at s a))))))))
        go true = (tt, refl, refl)
        go false = (tt, refl, refl)

    along_new : Walk lookʲ far (one (record { edge = s.next; backward = x.backward })) (head_of (cell_at s) x)
    along_new = rw new_at_next (new_ends_lem.0, new_ends_lem.1, sym new_ends_lem.2)

    against_new : Walk lookʲ (head_of (cell_at s) x) (one (record { edge = s.next; backward = not x.backward })) far
    against_new =
        let h : Halfedge = record { edge = s.next; backward = x.backward } in
        let w = along_new in
        (w.0, sym w.2 ∙ sym (flip_tail lookʲ h), flip_head lookʲ h ∙ sym w.1)

    walksʲ : (h : Halfedge) → T (is_open (cell_at s h.edge)) → Walk lookʲ (r (tail_of (cell_at s) h)) (σʲ h) (r (head_of (cell_at s) h))
    walksʲ h o = go (eqb b h.edge) (eqb a h.edge) refl refl
      where
        hb : h.edge ≡ b → r (tail_of (cell_at s) h) ≡ r (head_of (cell_at s) h)
        hb z = elim (turned y h (sym z)) [
          | inl q ↦ r_v (tail_of (cell_at s) h) (ap (tail_of (cell_at s)) q ∙ real_ends.1.0.1) ∙ sym (r_else far far_not) ∙ ap r (ap (head_of (cell_at s)) (sym q))
          | inr q ↦ ap r (ap (tail_of (cell_at s)) q ∙ flip_tail (cell_at s) y) ∙ r_else far far_not
              ∙ sym (r_v (head_of (cell_at s) h) (ap (head_of (cell_at s)) q ∙ flip_head (cell_at s) y ∙ real_ends.1.0.1))
        ]

        ha : h.edge ≡ a → Walk lookʲ (r (tail_of (cell_at s) h)) (one (record { edge = s.next; backward = h.backward })) (r (head_of (cell_at s) h))
        ha z = elim (turned x h (sym z)) [
          | inl q ↦ shift far (head_of (cell_at s) x) x.backward (r_v (tail_of (cell_at s) h) (ap (tail_of (cell_at s)) q ∙ real_ends.0.1))
              (ap r (ap (head_of (cell_at s)) q) ∙ r_else (head_of (cell_at s) x) near_not) (ap (λ (k : Halfedge). k.backward) q) along_new
          | inr q ↦ shift (head_of (cell_at s) x) far (not x.backward)
              (ap r (ap (tail_of (cell_at s)) q ∙ flip_tail (cell_at s) x) ∙ r_else (head_of (cell_at s) x) near_not)
              (r_v (head_of (cell_at s) h) (ap (head_of (cell_at s)) q ∙ flip_head (cell_at s) x ∙ real_ends.0.1))
              (ap (λ (k : Halfedge). k.backward) q) against_new
        ]
          where
            shift : (m n : ℕ) (c : Bool) → r (tail_of (cell_at s) h) ≡ m → r (head_of (cell_at s) h) ≡ n → h.backward ≡ c
                → Walk lookʲ m (one (record { edge = s.next; backward = c })) n
                → Walk lookʲ (r (tail_of (cell_at s) h)) (one (record { edge = s.next; backward = h.backward })) (r (head_of (cell_at s) h))
            shift m n c p q t w =
                subst (λ (i : ℕ). Walk lookʲ i (one (record { edge = s.next; backward = h.backward })) (r (head_of (cell_at s) h))) (sym p)
                (subst (λ (i : ℕ). Walk lookʲ m (one (record { edge = s.next; backward = h.backward })) i) (sym q)
                (subst (λ (i : Bool). Walk lookʲ m (one (record { edge = s.next; backward = i })) n) (sym t) w))

        hn : (h.edge ≡ a → ⊥) → (h.edge ≡ b → ⊥) → Walk lookʲ (r (tail_of (cell_at s) h)) (one h) (r (head_of (cell_at s) h))
        hn m n =
            let k : T (is_edge (cell_at s h.edge)) = or_left (is_open (cell_at s h.edge)) (is_closed (cell_at s h.edge)) o in
            let q = stays² keepʲ σʲ tʲ Qʲ goneʲ keptʲ h.edge (edge-not-v² keepʲ σʲ tʲ Qʲ goneʲ keptʲ h.edge k) m n (inr k) in (
              subst (λ (z : Option Figure). T (is_open z)) (sym q) o,
              r_else (tail_of (cell_at s) h) (ends² keepʲ σʲ tʲ Qʲ goneʲ keptʲ h o m n) ∙ ap (λ (z : Option Figure). cond h.backward (end_of z) (start_of z))
                  (sym q),
              ap (λ (z : Option Figure). cond h.backward (start_of z) (end_of z)) q
                  ∙ sym (r_else (head_of (cell_at s) h) (λ w. ends² keepʲ σʲ tʲ Qʲ goneʲ keptʲ (flipped h) o m n (flip_tail (cell_at s) h ∙ w))),
            )

        go : (c d : Bool) → eqb b h.edge ≡ c → eqb a h.edge ≡ d
            → Walk lookʲ (r (tail_of (cell_at s) h)) (cond c [] (one (cond d (record { edge = s.next; backward = h.backward }) h))) (r (head_of (cell_at s) h))
        go true d p q = hb (sym (eqb-true b h.edge p))
        go false true p q = ha (sym (eqb-true a h.edge q))
        go false false p q = hn (λ z. eqb-false a h.edge q (sym z)) (λ z. eqb-false b h.edge p (sym z))

    -- ---- a cycle of b alone would turn at the vertex
    turn_at : (h k : Halfedge) (ts : List Passage) → T (is_open (cell_at s k.edge)) → tail_of (cell_at s) k ≡ v → h.edge ≡ b → k.edge ≡ b
        → Every Qʲ (cons_if (Here (passage h k)) (passage h k) ts) → ⊥
    turn_at h k ts o q z w e =
        let here : Here (passage h k) ≡ true = true_of (Here (passage h k)) (pair (is_open (cell_at s k.edge)) (eqb (tail_of (cell_at s) k) v) o (equal q)) in
        let m : Every Qʲ (passage h k ∷ ts) = subst (λ (c : Bool). Every Qʲ (cons_if c (passage h k) ts)) here e in
        false≢true (sym m.0 ∙ eq-eqb h.edge k.edge (z ∙ sym w))

    restʲ : (h k : Halfedge) (ts : List Passage) → Every Qʲ (cons_if (Here (passage h k)) (passage h k) ts) → Every Qʲ ts
    restʲ h k ts e = go (Here (passage h k)) e
      where
        go : (c : Bool) → Every Qʲ (cons_if c (passage h k) ts) → Every Qʲ ts
        go true m = m.1
        go false m = m

    last_turn : (f h : Halfedge) (hs : List Halfedge) → T (is_open (cell_at s f.edge)) → tail_of (cell_at s) f ≡ v → f.edge ≡ b → h.edge ≡ b
        → Every (λ (k : Halfedge). k.edge ≡ b) hs → Every Qʲ (filter Here (passages_from f h hs)) → ⊥
    last_turn f h [] o q z w m e = turn_at h f [] o q w z e
    last_turn f h (k ∷ ks) o q z w m e = last_turn f k ks o q z m.0 m.1 (restʲ h k (filter Here (passages_from f k ks)) e)

    first_turn : (f h : Halfedge) (hs : List Halfedge) → T (is_open (cell_at s f.edge)) → head_of (cell_at s) h ≡ v → f.edge ≡ b → h.edge ≡ b
        → Every (λ (k : Halfedge). k.edge ≡ b) hs → Walk (cell_at s) (head_of (cell_at s) h) hs (tail_of (cell_at s) f)
        → Every Qʲ (filter Here (passages_from f h hs)) → ⊥
    first_turn f h [] o q z w m k e = turn_at h f [] o (sym k ∙ q) w z e
    first_turn f h (g ∷ gs) o q z w m k e = turn_at h g (filter Here (passages_from f g gs)) k.0 (sym k.1 ∙ q) w m.0 e

    some_or_b : (hs : List Halfedge) → Some (spread σʲ hs) ⊎ Every (λ (k : Halfedge). k.edge ≡ b) hs
    some_or_b [] = inr tt
    some_or_b (h ∷ hs) = go (eqb b h.edge) refl (some_or_b hs)
      where
        go : (c : Bool) → eqb b h.edge ≡ c → Some (spread σʲ hs) ⊎ Every (λ (k : Halfedge). k.edge ≡ b) hs
            → Some (cond c [] (one (cond (eqb a h.edge) (record { edge = s.next; backward = h.backward }) h)) ++ spread σʲ hs)
            ⊎ Every (λ (k : Halfedge). k.edge ≡ b) (h ∷ hs)
        go true q (inl t) = inl t
        go true q (inr t) = inr (sym (eqb-true b h.edge q), t)
        go false q t = inl tt

    path-okʲ : (hs : List Halfedge) → T (joins (cell_at s) hs) → Every Qʲ (filter Here (passages hs)) → T (joins lookʲ (spread σʲ hs))
    path-okʲ [] t e = t
    path-okʲ (h ∷ hs) t e = elim (joins_cases (cell_at s) (h ∷ hs) t) [
      | inl w ↦ elim (some_or_b (h ∷ hs)) [
        | inl m ↦ round_carried (cell_at s) lookʲ r σʲ walksʲ (h ∷ hs) m w.1
        | inr m ↦ absurd (let k = w.1.1 in turns k.0 (subst (λ (u : ℕ). Walk (cell_at s) (head_of (cell_at s) h) hs u) k.1 k.2) m)
      ]
      | inr g ↦ ring_carried (cell_at s) lookʲ σʲ h hs h (stay_one h g.0) (closed_left h.edge g.0) g.1
    ]
      where
        turns : T (is_open (cell_at s h.edge)) → Walk (cell_at s) (head_of (cell_at s) h) hs (tail_of (cell_at s) h)
            → Every (λ (k : Halfedge). k.edge ≡ b) (h ∷ hs) → ⊥
        turns o w m = elim (turned y h (sym m.0)) [
          | inl q ↦ last_turn h h hs o (ap (tail_of (cell_at s)) q ∙ real_ends.1.0.1) m.0 m.0 m.1 e
          | inr q ↦ first_turn h h hs o (ap (head_of (cell_at s)) q ∙ flip_head (cell_at s) y ∙ real_ends.1.0.1) m.0 m.0 m.1 w e
        ]

        not_open : (j i : ℕ) → T (is_closed (cell_at s j)) → T (is_open (cell_at s i)) → j ≡ i → ⊥
        not_open j i c o z = apart (cell_at s j) c (subst (λ (k : ℕ). T (is_open (cell_at s k))) (sym z) o)

        stay_one : (k : Halfedge) → T (is_closed (cell_at s k.edge)) → σʲ k ≡ one k
        stay_one k c = rw (
          ne_eqb b k.edge (λ z. not_open k.edge b c real_ends.1.0.0 (sym z)),
          ne_eqb a k.edge (λ z. not_open k.edge a c
              real_ends.0.0 (sym z)),
        )

        closed_left : (j : ℕ) → T (is_closed (cell_at s j)) → T (is_closed (lookʲ j))
        closed_left j c =
            let k : T (is_edge (cell_at s j)) = or_right (is_open (cell_at s j)) (is_closed (cell_at s j)) c in
            subst (λ (z : Option Figure). T (is_closed z))
            (sym (stays² keepʲ σʲ tʲ Qʲ goneʲ keptʲ j (edge-not-v² keepʲ σʲ tʲ Qʲ goneʲ keptʲ j k) (not_open j a c real_ends.0.0)
            (not_open j b c real_ends.1.0.0) (inr k))) c

    bends_ok : (e : ℕ) → T (is_open (cell_at s e)) → T (all within (bends_of (cell_at s e)))
    bends_ok e o =
        let k = open_at (cell_at s) e o in
        let c = parts (is_vertex (cell_at s k.0)) (is_vertex (cell_at s k.1) && all within k.2) (S.figures e (open_edge k.0 k.1 k.2) k.3) in
        rw k.3 (parts (is_vertex (cell_at s k.1)) (all within k.2) c.1).1

    along_ok : T (all within (bends_along (cell_at s) y))
    along_ok = go y.backward
      where
        go : (c : Bool) → T (all within (cond c (reverse (bends_of (cell_at s b))) (bends_of (cell_at s b))))
        go true = all_reverse within (bends_of (cell_at s b)) (bends_ok b real_ends.1.0.0)
        go false = bends_ok b real_ends.1.0.0

    new-okʲ : T (figure_ok lookʲ tʲ)
    new-okʲ = go x.backward refl
      where
        far_ok : T (is_vertex (lookʲ far))
        far_ok = vertex² keepʲ σʲ tʲ Qʲ goneʲ keptʲ far far_not (head_vertex s S y real_ends.1.0.0)

        near_ok : T (is_vertex (lookʲ (head_of (cell_at s) x)))
        near_ok = vertex² keepʲ σʲ tʲ Qʲ goneʲ keptʲ (head_of (cell_at s) x) near_not (head_vertex s S x real_ends.0.0)

        here : T (within (position_of (cell_at s v)))
        here = rw at (S.figures v (vertex p) at)

        go : (c : Bool) → x.backward ≡ c → T
            (figure_ok lookʲ (cond c (open_edge (start_of (cell_at s a)) far (bends_of (cell_at s a) ++ (position_of (cell_at s v) ∷ bends_along (cell_at s) y)))
            (open_edge far (end_of (cell_at s a)) (reverse (bends_along (cell_at s) y) ++ (position_of (cell_at s v) ∷ bends_of (cell_at s a))))))
        go true q =
            let l = bends_of (cell_at s a) ++ (position_of (cell_at s v) ∷ bends_along (cell_at s) y) in
            let m : T (is_vertex (lookʲ (start_of (cell_at s a)))) =
            subst (λ (d : Bool). T (is_vertex (lookʲ (cond d (start_of (cell_at s a)) (end_of (cell_at s a)))))) q near_ok in
            pair (is_vertex (lookʲ (start_of (cell_at s a)))) (is_vertex (lookʲ far) && all within l) m
            (pair (is_vertex (lookʲ far)) (all within l) far_ok
            (all_append within (bends_of (cell_at s a)) (position_of (cell_at s v) ∷ bends_along (cell_at s) y) (bends_ok a real_ends.0.0)
            (pair (within (position_of (cell_at s v))) (all within (bends_along (cell_at s) y)) here along_ok)))
        go false q =
            let l = reverse (bends_along (cell_at s) y) ++ (position_of (cell_at s v) ∷ bends_of (cell_at s a)) in
            let m : T (is_vertex (lookʲ (end_of (cell_at s a)))) =
            subst (λ (d : Bool). T (is_vertex (lookʲ (cond d (start_of (cell_at s a)) (end_of (cell_at s a)))))) q near_ok in
            pair (is_vertex (lookʲ far)) (is_vertex (lookʲ (end_of (cell_at s a))) && all within l) far_ok
            (pair (is_vertex (lookʲ (end_of (cell_at s a)))) (all within l) m
            (all_append within (reverse (bends_along (cell_at s) y)) (position_of (cell_at s v) ∷ bends_of (cell_at s a))
            (all_reverse within (bends_along (cell_at s) y) along_ok)
            (pair (within (position_of (cell_at s v))) (all within (bends_of (cell_at s a))) here (bends_ok a real_ends.0.0))))

    pub joint_sound : T (leb (rebuild keepʲ (rewired same_vertex σʲ) (tʲ ∷ []) s).next ids_end)
        → T (ceilings (rebuild keepʲ (rewired same_vertex σʲ) (tʲ ∷ []) s).cells) → Sound (rebuild keepʲ (rewired same_vertex σʲ) (tʲ ∷ []) s)
    joint_sound seven eight = two_sound keepʲ σʲ tʲ Qʲ goneʲ keptʲ path-okʲ
        (every_of_any (λ (t : Passage). eqb t.arrives.edge t.leaves.edge) (passages_at s.cells v) no_self) seven eight new-okʲ

    new_share : (gain tʲ ≡ 0) × (loss tʲ ≡ 1)
    new_share = go x.backward
      where
        go : (c : Bool) → (gain (cond c (open_edge (start_of (cell_at s a)) far (bends_of (cell_at s a) ++ (position_of (cell_at s v) ∷ bends_along (cell_at s) y)))
            (open_edge far (end_of (cell_at s a)) (reverse (bends_along (cell_at s) y) ++ (position_of (cell_at s v) ∷ bends_of (cell_at s a))))) ≡ 0)
            × (loss (cond c (open_edge (start_of (cell_at s a)) far (bends_of (cell_at s a) ++ (position_of (cell_at s v) ∷ bends_along (cell_at s) y)))
            (open_edge far (end_of (cell_at s a)) (reverse (bends_along (cell_at s) y) ++ (position_of (cell_at s v) ∷ bends_of (cell_at s a))))) ≡ 1)
        go true = (refl, refl)
        go false = (refl, refl)

    -- the vertex and both edges go
    pub joint_gone : (ta tb : Figure) → cell_at s a ≡ some ta → cell_at s b ≡ some tb → Without s keepʲ (vertex p ∷ ta ∷ tb ∷ [])
    joint_gone ta tb ka kb =
        let va : a ≡ v → ⊥ = edge-not-v² keepʲ σʲ tʲ Qʲ goneʲ keptʲ a (or_left (is_open (cell_at s a)) (is_closed (cell_at s a)) real_ends.0.0) in
        let vb : b ≡ v → ⊥ = edge-not-v² keepʲ σʲ tʲ Qʲ goneʲ keptʲ b (or_left (is_open (cell_at s b)) (is_closed (cell_at s b)) real_ends.1.0.0) in
        let nv : T (neither a b v) = pair (others a v) (others b v) (rw (ne_eqb a v va) tt) (rw (ne_eqb b v vb) tt) in
        let na : T (others b a) = rw (ne_eqb b a (λ z. apart_ab (sym z))) tt in
        without_more v (vertex p) (neither a b) (ta ∷ tb ∷ []) s S at nv (without_more a ta (others b) (one tb) s S ka na (without_one b tb s S kb))

    pub joint_over : Even s (rebuild keepʲ (rewired same_vertex σʲ) (tʲ ∷ []) s)
    joint_over =
        let ka = open_at (cell_at s) a real_ends.0.0 in
        let kb = open_at (cell_at s) b real_ends.1.0.0 in
        let c = over_kept gain (rewired same_vertex σʲ) (gain_rewired same_vertex σʲ) keepʲ (tʲ ∷ []) s in
        let d = over_kept loss (rewired same_vertex σʲ) (loss_rewired same_vertex σʲ) keepʲ (tʲ ∷ []) s in
        let gone = joint_gone (open_edge ka.0 ka.1 ka.2) (open_edge kb.0 kb.1 kb.2) ka.3 kb.3 in
        let e = gone gain in
        let f = gone loss in
        let k = new_share.0 in
        let l = new_share.1 in
        omega arith
