-- 0B, 0D and 0C between two cycles: soundness and shift; the shares of 05 and 07. Assumes nothing.
use Prim.Native.Nat.{ℕ, zero, suc, ◌+◌, ◌-◌, ◌≤◌, ◌<◌}
use native.Mathlib.Omega.{arith}
use mathlib.Core.Path.{◌≡◌, refl, sym, ap, ◌∙◌, subst}
use mathlib.Core.Logic.{◌⊎◌, inl, inr}
use mathlib.Core.Bool.{Bool, true, false, not, ◌&&◌, ◌||◌, cond}
use mathlib.Core.List.{List, [], ◌∷◌, ◌++◌, map}
use mathlib.Core.Option.{Option, none, some}
use lib.ListN.{length, get_or, take, drop, set, length-append, length-set, length-map}
use lib.Seq.{drop-cons}
use lib.Dec.{T, eqb, ltb, leb, ltb→lt, leb→le}
use borrow.Author.Tests.{eq-eqb, ne_eqb, eqb-true, eqb-false}
use Rattle.coordinate.specs.declared.Position.{Position}
use Rattle.coordinate.specs.Bounds.{within}
use Rattle.complex.specs.Lists.{all, is_empty, cons_if, total, holds, rising, places, one, rotated, without, chosen}
use Rattle.complex.specs.Cells.{Halfedge, Cycle, lone, path, Figure, vertex, open_edge, closed_edge, face, LiveCell, Sheet, Look, some_if, lookup, ids}
use Rattle.complex.specs.Cells.{is_vertex, is_open, is_closed, is_face, start_of, end_of, cycles_of, steps_of, along, against, same, tail_of, head_of, cell_at}
use Rattle.complex.specs.Sound.{Walk, ids_end, cycle_ok, figure_ok, ceilings, joins, over}
use Rattle.complex.specs.Decode.{Command, move, glue_vertices, cut_face_vertex, cut_face_open, cut_face_closed}
use Rattle.complex.specs.Edits.{keep_ids, reshape, rebuild, every_id, as_it_is, replaced, rewired, others}
use Rattle.complex.specs.Delete.{moved}
use Rattle.complex.specs.Glue.{renamed, glued_vertices}
use Rattle.complex.specs.Cut.{face_cut_at, no_cycle, no_step, corner, bridged, face_cut_along, face_cut_round, corner_exists}
use Rattle.complex.specs.Commands.{question3, question4, question5, question6, result}
use Rattle.complex.proofs.Gains.{gain, loss, Shift, shift}
use Rattle.complex.proofs.Bools.{truth, true_of, both, pair, all_append, all_more}
use Rattle.complex.proofs.Lookup.{lookup_keep, rising_filter}
use Rattle.complex.proofs.Walks.{walk_append, Round, round_rotated, Ring, Some, joins_cases, round_joins, ring_joins}
use Rattle.complex.proofs.Keep.{Sound, Look', Keeps, walk_kept, cycle_kept}
use Rattle.complex.proofs.Passes.{Passes, KeepsSound}
use Rattle.complex.proofs.Adds.{Alike, new_at, replaced_keeps, replaced_sound, face_serves}
use Rattle.complex.proofs.Split.{all_get_d, all_set, all_without, all_chosen, ring_no_corner, corner_vertex_lem, is_face_lem}
use Rattle.complex.proofs.Sums.{length_left, length_but_one}
use Rattle.complex.proofs.Euler.{over_keep, over_kept, over_changed, Balanced}

-- ---- sums without a cell
module _ (g : Figure → ℕ) where
  over_nowhere : (i lo : ℕ) (cs : List LiveCell) (hi : ℕ) → T (rising lo (ids cs) hi) → i ≤ lo → over g (keep_ids (eqb i) cs) ≡ 0
  over_nowhere i lo [] hi r h = refl
  over_nowhere i lo (c ∷ cs) hi r h =
      let b = both (ltb lo c.id) (rising c.id (ids cs) hi) r in
      let l = ltb→lt lo c.id b.0 in
      rw (ne_eqb i c.id (λ e. omega arith)) (over_nowhere i c.id cs hi b.1 (omega arith))

  over_only : (i : ℕ) (u : Figure) (lo : ℕ) (cs : List LiveCell) (hi : ℕ) → T (rising lo (ids cs) hi) → lookup cs i ≡ some u → over g (keep_ids (eqb i) cs) ≡ g u
  over_only i u lo [] hi r e = absurd (let z : ◌≡◌ {A = ℕ} 0 1 = cc in omega arith)
  over_only i u lo (c ∷ cs) hi r e =
      let b = both (ltb lo c.id) (rising c.id (ids cs) hi) r in
      go (eqb c.id i) refl b.1 (λ q. over_only i u c.id cs hi b.1 q) e
    where
      go : (y : Bool) → eqb c.id i ≡ y → T (rising c.id (ids cs) hi) → (lookup cs i ≡ some u → over g (keep_ids (eqb i) cs) ≡ g u)
          → some_if y c.figure (lookup cs i) ≡ some u → over g (cons_if (eqb i c.id) c (keep_ids (eqb i) cs)) ≡ g u
      go true q r k e =
          let w : c.figure ≡ u = cc in
          let n : c.id ≡ i = eqb-true c.id i q in
          let o = over_nowhere i c.id cs hi r (omega arith) in
          rw (eq-eqb i c.id (sym n), o, w) (omega arith)
      go false q r k e = rw (ne_eqb i c.id (λ z. eqb-false c.id i q (sym z))) (k e)

  pub over_others : (i : ℕ) (u : Figure) (lo : ℕ) (cs : List LiveCell) (hi : ℕ) → T (rising lo (ids cs) hi) → lookup cs i ≡ some u
      → over g (keep_ids (others i) cs) + g u ≡ over g cs
  over_others i u lo cs hi r e = let a = over_keep g (eqb i) cs in let b = over_only i u lo cs hi r e in omega arith

pub keep_keep : (p q : ℕ → Bool) (cs : List LiveCell) → keep_ids (λ (j : ℕ). p j && q j) cs ≡ keep_ids p (keep_ids q cs)
keep_keep p q [] = refl
keep_keep p q (c ∷ cs) = go (q c.id) (p c.id) refl (keep_keep p q cs)
  where
    go : (y x : Bool) → p c.id ≡ x → keep_ids (λ (j : ℕ). p j && q j) cs ≡ keep_ids p (keep_ids q cs)
        → cons_if (x && y) c (keep_ids (λ (j : ℕ). p j && q j) cs) ≡ keep_ids p (cons_if y c (keep_ids q cs))
    go true true e h = rw e (ap (λ (ds : List LiveCell). c ∷ ds) h)
    go true false e h = rw e h
    go false true e h = h
    go false false e h = h

-- one cell more taken away
pub over_less : (g : Figure → ℕ) (i : ℕ) (u : Figure) (p : ℕ → Bool) (s : Sheet) → Sound s → lookup s.cells i ≡ some u → T (p i)
    → over g (keep_ids (λ (j : ℕ). others i j && p j) s.cells) + g u ≡ over g (keep_ids p s.cells)
over_less g i u p s S e k =
    ap (λ (cs : List LiveCell). over g cs + g u) (keep_keep (others i) p s.cells)
    ∙ over_others g i u 0 (keep_ids p s.cells) s.next (rising_filter (λ (c : LiveCell). p c.id) 0 s.cells s.next S.rises)
    (lookup_keep p s.cells i ∙ rw (true_of (p i) k) e)

-- the cells that p keeps are all but us, whatever is summed
abbrev pub Without : Sheet → (ℕ → Bool) → List Figure → Type 0
Without s p us = (g : Figure → ℕ) → over g (keep_ids p s.cells) + total g us ≡ over g s.cells

pub without_one : (i : ℕ) (u : Figure) (s : Sheet) → Sound s → lookup s.cells i ≡ some u → Without s (others i) (one u)
without_one i u s S e g = let a = over_others g i u 0 s.cells s.next S.rises e in omega arith

pub without_more : (i : ℕ) (u : Figure) (p : ℕ → Bool) (us : List Figure) (s : Sheet) → Sound s → lookup s.cells i ≡ some u → T (p i) → Without s p us
    → Without s (λ (j : ℕ). others i j && p j) (u ∷ us)
without_more i u p us s S e k w g = let a = over_less g i u p s S e k in let b = w g in omega arith

pub gain_rewired : (r : ℕ → ℕ) (σ : Halfedge → List Halfedge) (i : ℕ) (t : Figure) → gain (rewired r σ i t) ≡ gain t
gain_rewired r σ i (vertex p) = refl
gain_rewired r σ i (open_edge a b bs) = refl
gain_rewired r σ i (closed_edge bs) = refl
gain_rewired r σ i (face ks) = refl

pub loss_rewired : (r : ℕ → ℕ) (σ : Halfedge → List Halfedge) (i : ℕ) (t : Figure) → loss (rewired r σ i t) ≡ loss t
loss_rewired r σ i (vertex p) = refl
loss_rewired r σ i (open_edge a b bs) = refl
loss_rewired r σ i (closed_edge bs) = refl
loss_rewired r σ i (face ks) = length-map ks _

-- ---- 05 and 07
pub vertex_at : (s : Sheet) (v : ℕ) → T (is_vertex (cell_at s v)) → (p : Position) × (cell_at s v ≡ some (vertex p))
vertex_at s v t = go (cell_at s v) refl t
  where
    go : (o : Option Figure) → cell_at s v ≡ o → T (is_vertex o) → (p : Position) × (cell_at s v ≡ some (vertex p))
    go none e t = absurd t
    go (some (vertex p)) e t = (p, e)
    go (some (open_edge a b bs)) e t = absurd t
    go (some (closed_edge bs)) e t = absurd t
    go (some (face ks)) e t = absurd t

pub move_balanced : (v : ℕ) (p : Position) (s : Sheet) → Sound s → Passes s (move v p) → Balanced s (move v p)
unfolding question4 result moved
move_balanced v p s S q =
    let u = vertex_at s v q.four in
    let a = over_changed gain v (vertex p) (vertex u.0) [] s S u.1 in
    let b = over_changed loss v (vertex p) (vertex u.0) [] s S u.1 in
    omega arith

pub glue_balanced : (a b : ℕ) (s : Sheet) → Sound s → Passes s (glue_vertices a b) → Balanced s (glue_vertices a b)
unfolding question4 result glued_vertices
glue_balanced a b s S q =
    let v = vertex_at s b (both (is_vertex (cell_at s a)) (is_vertex (cell_at s b)) q.four).1 in
    let x = over_kept gain (rewired (renamed a b) one) (gain_rewired (renamed a b) one) (others b) [] s in
    let y = over_kept loss (rewired (renamed a b) one) (loss_rewired (renamed a b) one) (others b) [] s in
    let m = over_others gain b (vertex v.0) 0 s.cells s.next S.rises v.1 in
    let n = over_others loss b (vertex v.0) 0 s.cells s.next S.rises v.1 in
    omega arith

-- ---- a face with other cycles, and new cells
module _ (s : Sheet) (S : Sound s) (f : ℕ) (is_f : T (is_face (cell_at s f))) (ks' : List Cycle) (new : List Figure) where
  abbrev refaced : Look
  refaced = Look' every_id (replaced f (face ks')) new s

  pub refaced_keeps : Keeps (cell_at s) refaced
  refaced_keeps = replaced_keeps f (face ks') new s S (λ t q. face_serves (cell_at s f) is_f t q ks')

  pub cycles_ok : T (all (cycle_ok (cell_at s)) (cycles_of (cell_at s f)))
  cycles_ok = S.figures f (face (cycles_of (cell_at s f))) (is_face_lem s f is_f)

  pub cycles_ok' : T (all (cycle_ok refaced) (cycles_of (cell_at s f)))
  cycles_ok' = all_more (cycle_ok (cell_at s)) (cycle_ok refaced) (cycle_kept (cell_at s) refaced refaced_keeps) (cycles_of (cell_at s f)) cycles_ok

  pub refaced_sound : T (leb (rebuild every_id (replaced f (face ks')) new s).next ids_end) → T (ceilings (rebuild every_id (replaced f (face ks')) new s).cells)
      → T (all (cycle_ok refaced) ks') → T (all (figure_ok refaced) new) → Sound (rebuild every_id (replaced f (face ks')) new s)
  refaced_sound seven eight here there = replaced_sound f (face ks') new s S (λ t q. face_serves (cell_at s f) is_f t q ks') seven eight here there

  pub refaced_over : (g : Figure → ℕ) → over g (rebuild every_id (replaced f (face ks')) new s).cells + g (face (cycles_of (cell_at s f))) ≡ over g s.cells
      + g (face ks') + total g new
  refaced_over g = over_changed g f (face ks') (face (cycles_of (cell_at s f))) new s S (is_face_lem s f is_f)

-- the first new cell
pub first_new : (f : ℕ) (ks' : List Cycle) (t : Figure) (ts : List Figure) (s : Sheet) → Sound s
    → Look' every_id (replaced f (face ks')) (t ∷ ts) s s.next ≡ some t
first_new f ks' t ts s S = new_at every_id (replaced f (face ks')) (t ∷ ts) s S s.next (omega arith) ∙ rw (eq-eqb s.next s.next refl)

-- ---- 0B
pub dot_sound : (f : ℕ) (p : Position) → KeepsSound (cut_face_vertex f p)
unfolding question3 question4 result face_cut_at
dot_sound f p s S q =
    let ks = cycles_of (cell_at s f) in
    let ks' = ks ++ one (lone s.next) in
    let look' = Look' every_id (replaced f (face ks')) (vertex p ∷ []) s in
    let v : T (is_vertex (look' s.next)) = rw (first_new f ks' (vertex p) [] s S) tt in
    refaced_sound s S f q.four ks' (vertex p ∷ []) q.seven q.eight
    (all_append (cycle_ok look') ks (one (lone s.next)) (cycles_ok' s S f q.four ks' (vertex p ∷ [])) (pair (is_vertex (look' s.next)) true v tt))
    q.three

pub dot_balanced : (f : ℕ) (p : Position) (s : Sheet) → Sound s → Passes s (cut_face_vertex f p) → Balanced s (cut_face_vertex f p)
unfolding question4 result face_cut_at
dot_balanced f p s S q =
    let ks = cycles_of (cell_at s f) in
    let ks' = ks ++ one (lone s.next) in
    let a = refaced_over s S f q.four ks' (vertex p ∷ []) gain in
    let b = refaced_over s S f q.four ks' (vertex p ∷ []) loss in
    let l = length-append ks (one (lone s.next)) in
    omega arith

-- ---- 0D
module _ (f : ℕ) (bs : List Position) (ms : List ℕ) (s : Sheet) (S : Sound s) (q : Passes s (cut_face_closed f bs ms)) where
  abbrev rks : List Cycle
  rks = cycles_of (cell_at s f)

  abbrev rks' : List Cycle
  rks' = without ms 0 rks ++ one (path (one (along s.next)))

  abbrev rnew : List Figure
  rnew = closed_edge bs ∷ face (path (one (against s.next)) ∷ chosen no_cycle ms rks) ∷ []

  is_f : T (is_face (cell_at s f))
  unfolding question4
  is_f = q.four

  counts : T (not (is_empty bs)) × T (places 0 ms (length rks))
  unfolding question5
  counts = both (not (is_empty bs)) (places 0 ms (length rks)) q.five

  bends : T (all within bs)
  unfolding question3
  bends = q.three

  ring : (h : Halfedge) → h.edge ≡ s.next → T (joins (Look' every_id (replaced f (face rks')) rnew s) (one h))
  ring h e = ring_joins (Look' every_id (replaced f (face rks')) rnew s) (one h)
      (rw (e, first_new f rks' (closed_edge bs) (face (path (one (against s.next)) ∷ chosen no_cycle ms rks) ∷ []) s S) tt, tt)

  pub round_sound : Sound (result s (cut_face_closed f bs ms))
  unfolding result face_cut_round
  round_sound =
      let look' = Look' every_id (replaced f (face rks')) rnew s in
      let old = cycles_ok' s S f is_f rks' rnew in
      refaced_sound s S f is_f rks' rnew q.seven q.eight
      (all_append (cycle_ok look') (without ms 0 rks) (one (path (one (along s.next)))) (all_without (cycle_ok look') ms 0 rks old)
      (pair (joins look' (one (along s.next))) true (ring (along s.next) refl) tt))
      (pair (not (is_empty bs) && all within bs) _ (pair (not (is_empty bs)) (all within bs) counts.0 bends)
      (pair (joins look' (one (against s.next)) && all (cycle_ok look') (chosen no_cycle ms rks)) true
      (pair (joins look' (one (against s.next))) (all (cycle_ok look') (chosen no_cycle ms rks)) (ring (against s.next) refl)
      (all_chosen (cycle_ok look') no_cycle 0 ms rks old counts.1)) tt))

  pub round_balanced : Balanced s (cut_face_closed f bs ms)
  unfolding result face_cut_round
  round_balanced =
      let a = refaced_over s S f is_f rks' rnew gain in
      let b = refaced_over s S f is_f rks' rnew loss in
      let l = length-append (without ms 0 rks) (one (path (one (along s.next)))) in
      let n = length_left no_cycle ms rks counts.1 in
      let r : length (chosen no_cycle ms rks) ≡ length ms = length-map ms _ in
      omega arith

-- ---- 0C with c1 ≠ c2
-- a cycle from a corner on leads back to the corner
pub corner_round : (look : Look) (k : Cycle) (n : ℕ) → T (cycle_ok look k) → T (corner_exists look k n)
    → Walk look (corner look k n) (rotated n (steps_of k)) (corner look k n)
corner_round look (lone v) n c h = nothing n
  where
    nothing : (n : ℕ) → Walk look v (rotated n []) v
    nothing zero = refl
    nothing (suc n) = refl
corner_round look (path hs) n c h =
    let x = both (ltb n (length hs)) (is_open (look (get_or hs n no_step).edge)) h in
    let l = ltb→lt n (length hs) x.0 in
    elim (joins_cases look hs c) [
      | inl w ↦ go l (round_rotated look n hs w.1)
      | inr g ↦ absurd (ring_no_corner look hs n g l x.1)
    ]
  where
    go : n < length hs → Round look (rotated n hs) → Walk look (tail_of look (get_or hs n no_step)) (rotated n hs) (tail_of look (get_or hs n no_step))
    go l r =
        let e : r.0 ≡ tail_of look (get_or hs n no_step) =
        (subst (λ (ks : List Halfedge). Walk look r.0 (ks ++ take n hs) r.0) (drop-cons hs n no_step l) r.1).1 in
        subst (λ (u : ℕ). Walk look u (rotated n hs) u) e r.1

module _ (f c1 s1 c2 s2 : ℕ) (bs : List Position) (ms : List ℕ) (s : Sheet) (S : Sound s) (q : Passes s (cut_face_open f c1 s1 c2 s2 bs ms))
    (ne : eqb c1 c2 ≡ false) where
  abbrev bks : List Cycle
  bks = cycles_of (cell_at s f)

  abbrev k1 : Cycle
  k1 = get_or bks c1 no_cycle

  abbrev k2 : Cycle
  k2 = get_or bks c2 no_cycle

  abbrev joined_path : List Halfedge
  joined_path = rotated s1 (steps_of k1) ++ (along s.next ∷ rotated s2 (steps_of k2) ++ one (against s.next))

  abbrev bks' : List Cycle
  bks' = without (one c2) 0 (set bks c1 (path joined_path))

  abbrev bnew : List Figure
  bnew = open_edge (corner (cell_at s) k1 s1) (corner (cell_at s) k2 s2) bs ∷ []

  abbrev blook : Look
  blook = Look' every_id (replaced f (face bks')) bnew s

  bis_f : T (is_face (cell_at s f))
  unfolding question4
  bis_f = q.four

  corners : (c1 < length bks) × (c2 < length bks) × T (corner_exists (cell_at s) k1 s1) × T (corner_exists (cell_at s) k2 s2)
  unfolding question5
  corners =
      let a = both (ltb c1 (length bks)) _ q.five in
      let b = both (ltb c2 (length bks)) _ a.1 in
      let d = both (corner_exists (cell_at s) k1 s1) _ b.1 in
      let g = both (corner_exists (cell_at s) k2 s2) _ d.1 in
      (ltb→lt c1 (length bks) a.0, ltb→lt c2 (length bks) b.0, d.0, g.0)

  bbends : T (all within bs)
  unfolding question3
  bbends = q.three

  ok1 : T (cycle_ok (cell_at s) k1)
  ok1 = all_get_d (cycle_ok (cell_at s)) bks c1 no_cycle (cycles_ok s S f bis_f bks' bnew) corners.0

  ok2 : T (cycle_ok (cell_at s) k2)
  ok2 = all_get_d (cycle_ok (cell_at s)) bks c2 no_cycle (cycles_ok s S f bis_f bks' bnew) corners.1

  bridge_walk : T (joins blook joined_path)
  bridge_walk =
      let u = corner (cell_at s) k1 s1 in
      let w = corner (cell_at s) k2 s2 in
      let K = refaced_keeps s S f bis_f bks' bnew in
      let e : blook s.next ≡ some (open_edge u w bs) = first_new f bks' (open_edge u w bs) [] s S in
      let a = walk_kept (cell_at s) blook K u (rotated s1 (steps_of k1)) u (corner_round (cell_at s) k1 s1 ok1 corners.2) in
      let b = walk_kept (cell_at s) blook K w (rotated s2 (steps_of k2)) w (corner_round (cell_at s) k2 s2 ok2 corners.3) in
      let o : T (is_open (blook s.next)) = rw e tt in
      let back : Walk blook w (one (against s.next)) u = (o, ap end_of (sym e), ap start_of e) in
      let tail : Walk blook w (rotated s2 (steps_of k2) ++ one (against s.next)) u =
      walk_append blook w (rotated s2 (steps_of k2)) w (one (against s.next)) u b back in
      let over-e : Walk blook u (along s.next ∷ rotated s2 (steps_of k2) ++ one (against s.next)) u =
      (o, ap start_of (sym e), subst (λ (v : ℕ). Walk blook v (rotated s2 (steps_of k2) ++ one (against s.next)) u) (ap end_of (sym e)) tail) in
      round_joins blook joined_path (some_middle (rotated s1 (steps_of k1)))
      (u, walk_append blook u (rotated s1 (steps_of k1)) u (along s.next ∷ rotated s2 (steps_of k2) ++ one (against s.next)) u a over-e)
    where
      some_middle : (hs : List Halfedge) → Some (hs ++ (along s.next ∷ rotated s2 (steps_of k2) ++ one (against s.next)))
      some_middle [] = tt
      some_middle (h ∷ hs) = tt

  cut_two : result s (cut_face_open f c1 s1 c2 s2 bs ms) ≡ bridged s f c1 s1 c2 s2 bs bks
  unfolding result face_cut_along
  cut_two = rw ne

  pub bridge_sound : Sound (result s (cut_face_open f c1 s1 c2 s2 bs ms))
  bridge_sound =
      let K = refaced_keeps s S f bis_f bks' bnew in
      let u = corner (cell_at s) k1 s1 in
      let w = corner (cell_at s) k2 s2 in
      rw cut_two (refaced_sound s S f bis_f bks' bnew (rw cut_two at q.seven) (rw cut_two at q.eight)
      (all_without (cycle_ok blook) (one c2) 0 (set bks c1 (path joined_path))
      (all_set (cycle_ok blook) bks c1 (path joined_path) (cycles_ok' s S f bis_f bks' bnew) bridge_walk))
      (pair (is_vertex (blook u) && (is_vertex (blook w) && all within bs)) true
      (pair (is_vertex (blook u)) (is_vertex (blook w) && all within bs) (K.vertices u (corner_vertex_lem s S k1 s1 ok1 corners.2))
      (pair (is_vertex (blook w)) (all within bs) (K.vertices w (corner_vertex_lem s S k2 s2 ok2 corners.3)) bbends)) tt))

  pub bridge_balanced : Balanced s (cut_face_open f c1 s1 c2 s2 bs ms)
  bridge_balanced =
      let a = refaced_over s S f bis_f bks' bnew gain in
      let b = refaced_over s S f bis_f bks' bnew loss in
      let x = set bks c1 (path joined_path) in
      let l : length x ≡ length bks = length-set bks c1 _ in
      let h : c2 < length x = let z = corners.1 in omega arith in
      let n = length_but_one no_cycle c2 x h in
      rw cut_two (omega arith)
