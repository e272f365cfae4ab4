-- Cutting a face along an open edge between two corners of one cycle keeps a drawing sound (0C with c1 = c2). Assumes nothing.
use Prim.Native.Nat.{ℕ, zero, suc, ◌+◌, ◌-◌, ◌≤◌, ◌<◌}
use native.Mathlib.Omega.{arith}
use mathlib.Core.Path.{◌≡◌, refl, sym, ap, ◌∙◌, subst}
use mathlib.Core.Logic.{◌⊎◌, inl, inr}
use mathlib.Core.Bool.{Bool, true, false, not, ◌&&◌, ◌||◌, cond}
use mathlib.Core.List.{List, [], ◌∷◌, ◌++◌, map}
use mathlib.Core.Option.{Option, none, some}
use lib.ListN.{length, get_or, take, drop, set, take-append-drop, length-append, length-take, length-drop, get_or-append}
use lib.Seq.{drop-cons, get_or-append-add, get_or-drop, get_or-take}
use lib.Dec.{T, eqb, ltb, leb, ltb→lt, leb→le}
use borrow.Author.Tests.{eq-eqb, eqb-true, eqb-false, le-leb, lt-leb, leb-true, leb-false}
use Rattle.coordinate.specs.declared.Position.{Position}
use Rattle.coordinate.specs.Bounds.{within}
use Rattle.complex.specs.Lists.{all, is_empty, cons_if, holds, places, one, rotated, without, chosen, distance}
use Rattle.complex.specs.Cells.{Halfedge, Cycle, lone, path, Figure, vertex, open_edge, closed_edge, face, LiveCell, Sheet, Look, lookup, is_vertex, is_open}
use Rattle.complex.specs.Cells.{is_closed, is_face, start_of, end_of, cycles_of, steps_of, along, against, same, tail_of, head_of, cell_at}
use Rattle.complex.specs.Sound.{Walk, ids_end, cycle_ok, figure_ok, ceilings, joins}
use Rattle.complex.specs.Decode.{Command, cut_face_open}
use Rattle.complex.specs.Edits.{rebuild, every_id, replaced}
use Rattle.complex.specs.Cut.{no_cycle, no_step, corner, stretch, remainder, split_in_two, face_cut_along, corner_exists, cut_corners}
use Rattle.complex.specs.Commands.{question3, question4, question5, result}
use Rattle.complex.proofs.Bools.{truth, true_of, both, pair, false_not, all_more}
use Rattle.complex.proofs.Walks.{walk_append, walk_split, Round, round_rotated, Ring, Some, joins_cases, round_joins}
use Rattle.complex.proofs.Keep.{Sound, Look', Keeps, walk_kept, cycle_kept, same_eq}
use Rattle.complex.proofs.Passes.{Passes}
use Rattle.complex.proofs.Adds.{Alike, new_at, replaced_keeps, replaced_sound, face_serves}

-- ---- all the elements, after a choice
module _ {A : Type 0} (p : A → Bool) where
  pub all_get_d : (xs : List A) (n : ℕ) (d : A) → T (all p xs) → n < length xs → T (p (get_or xs n d))
  all_get_d [] n d t h = absurd (omega arith)
  all_get_d (x ∷ xs) zero d t h = (both (p x) (all p xs) t).0
  all_get_d (x ∷ xs) (suc n) d t h = all_get_d xs n d (both (p x) (all p xs) t).1 (omega arith)

  pub all_set : (xs : List A) (n : ℕ) (y : A) → T (all p xs) → T (p y) → T (all p (set xs n y))
  all_set [] n y t u = t
  all_set (x ∷ xs) zero y t u = pair (p y) (all p xs) u (both (p x) (all p xs) t).1
  all_set (x ∷ xs) (suc n) y t u = let b = both (p x) (all p xs) t in pair (p x) (all p (set xs n y)) b.0 (all_set xs n y b.1 u)

  pub all_without : (ns : List ℕ) (n : ℕ) (xs : List A) → T (all p xs) → T (all p (without ns n xs))
  all_without ns n [] t = t
  all_without ns n (x ∷ xs) t = let b = both (p x) (all p xs) t in go (not (holds n ns)) b.0 (all_without ns (suc n) xs b.1)
    where
      go : (y : Bool) → T (p x) → T (all p (without ns (suc n) xs)) → T (all p (cons_if y x (without ns (suc n) xs)))
      go true u w = pair (p x) (all p (without ns (suc n) xs)) u w
      go false u w = w

  pub all_chosen : (d : A) (lo : ℕ) (ns : List ℕ) (xs : List A) → T (all p xs) → T (places lo ns (length xs)) → T (all p (chosen d ns xs))
  all_chosen d lo [] xs t h = tt
  all_chosen d lo (n ∷ ns) xs t h =
      let b = both (leb lo n) (ltb n (length xs) && places (suc n) ns (length xs)) h in
      let c = both (ltb n (length xs)) (places (suc n) ns (length xs)) b.1 in
      pair (p (get_or xs n d)) (all p (chosen d ns xs)) (all_get_d xs n d t (ltb→lt n (length xs) c.0)) (all_chosen d (suc n) ns xs t c.1)

-- ---- the step at a place of a rotated cycle
pub distance_lt : (s t n : ℕ) → s < n → t < n → distance n s t < n
distance_lt s t n h k = go (leb s t) refl
  where
    go : (b : Bool) → leb s t ≡ b → cond b (t - s) (t + n - s) < n
    go true e = omega arith
    go false e = let l = leb-false s t e in omega arith

module _ {A : Type 0} where
  pub length_rotated : (s : ℕ) (hs : List A) → length (rotated s hs) ≡ length hs
  length_rotated s hs = simp (length-append, length-drop, length-take) (omega arith)

  pub get_d_rotated : (hs : List A) (s t : ℕ) (d : A) → s < length hs → t < length hs → get_or (rotated s hs) (distance (length hs) s t) d ≡ get_or hs t d
  get_d_rotated hs s t d h k = go (leb s t) refl
    where
      go : (b : Bool) → leb s t ≡ b → get_or (rotated s hs) (cond b (t - s) (t + length hs - s)) d ≡ get_or hs t d
      go true e =
          let l = leb-true s t e in
          get_or-append (drop s hs) (take s hs) d (t - s) (simp length-drop (omega arith)) ∙ get_or-drop s hs (t - s) d
          ∙ ap (λ (n : ℕ). get_or hs n d) (omega arith)
      go false e =
          let l = leb-false s t e in
          let z : t + length hs - s ≡ length (drop s hs) + t = simp length-drop (omega arith) in
          ap (λ (n : ℕ). get_or (rotated s hs) n d) z ∙ get_or-append-add (drop s hs) (take s hs) t d ∙ get_or-take s hs t d l

-- a walk that is not over begins where its next step does
pub walk_begins : (look : Look) (u : ℕ) (hs : List Halfedge) (w n : ℕ) (d : Halfedge) → n < length hs → Walk look u (drop n hs) w
    → u ≡ tail_of look (get_or hs n d)
walk_begins look u hs w n d h k = (subst (λ (ks : List Halfedge). Walk look u ks w) (drop-cons hs n d h) k).1

pub apart : (x : Option Figure) → T (is_closed x) → T (is_open x) → ⊥
apart none c o = c
apart (some (vertex p)) c o = c
apart (some (open_edge a b bs)) c o = c
apart (some (closed_edge bs)) c o = o
apart (some (face ks)) c o = c

-- ---- a cycle parted at two corners: the first path leads from corner to corner, the second back
module _ (look : Look) where
  pub ring_no_corner : (hs : List Halfedge) (n : ℕ) → Ring look hs → n < length hs → T (is_open (look (get_or hs n no_step).edge)) → ⊥
  ring_no_corner [] n r h o = r
  ring_no_corner (h₀ ∷ hs) zero r h o = apart (look h₀.edge) r.0 o
  ring_no_corner (h₀ ∷ hs) (suc n) r h o = apart (look h₀.edge) r.0
      (subst (λ (k : Halfedge). T (is_open (look k.edge))) (sym (same_eq h₀ (get_or hs n no_step) (all_get_d (same h₀) hs n no_step r.1 (omega arith)))) o)

  pub Parted : Cycle → ℕ → ℕ → Type 0
  Parted k s t = Walk look (corner look k s) (stretch s t (steps_of k)) (corner look k t) × Walk look (corner look k t) (remainder s t (steps_of k))
      (corner look k s)

  round_parted : (hs : List Halfedge) (s t : ℕ) → Round look hs → s < length hs → t < length hs → Parted (path hs) s t
  unfolding Parted
  round_parted hs s t k hs< ht< =
      let r = round_rotated look s hs k in
      let d = distance (length hs) s t in
      let w : Walk look r.0 (take d (rotated s hs) ++ drop d (rotated s hs)) r.0 = subst (λ (ks : List Halfedge). Walk look r.0 ks r.0)
      (sym (take-append-drop d (rotated s hs))) r.1 in
      let m = walk_split look r.0 (take d (rotated s hs)) (drop d (rotated s hs)) r.0 w in
      let b : r.0 ≡ tail_of look (get_or hs s no_step) = at_start r.0 r.1 in
      let e : m.0 ≡ tail_of look (get_or hs t no_step) =
      walk_begins look m.0 (rotated s hs) r.0 d no_step (subst (λ (n : ℕ). d < n) (sym (length_rotated s hs)) (distance_lt s t (length hs) hs< ht<)) m.2
      ∙ ap (tail_of look) (get_d_rotated hs s t no_step hs< ht<)
      in
      (rw (← b, ← e) m.1, rw (← b, ← e) m.2)
    where
      at_start : (u : ℕ) → Walk look u (rotated s hs) u → u ≡ tail_of look (get_or hs s no_step)
      at_start u w = (subst (λ (ks : List Halfedge). Walk look u (ks ++ take s hs) u) (drop-cons hs s no_step hs<) w).1

  pub parted : (k : Cycle) (s t : ℕ) → T (cycle_ok look k) → T (corner_exists look k s) → T (corner_exists look k t) → Parted k s t
  unfolding Parted
  parted (lone v) s t c hs ht = (nothing (distance 0 s t) s, nothing' (distance 0 s t) s)
    where
      nothing : (d n : ℕ) → Walk look v (take d (rotated n [])) v
      nothing zero zero = refl
      nothing zero (suc n) = refl
      nothing (suc d) zero = refl
      nothing (suc d) (suc n) = refl

      nothing' : (d n : ℕ) → Walk look v (drop d (rotated n [])) v
      nothing' zero zero = refl
      nothing' zero (suc n) = refl
      nothing' (suc d) zero = refl
      nothing' (suc d) (suc n) = refl
  parted (path hs) s t c a b =
      let x = both (ltb s (length hs)) (is_open (look (get_or hs s no_step).edge)) a in
      let y = both (ltb t (length hs)) (is_open (look (get_or hs t no_step).edge)) b in
      let hs< = ltb→lt s (length hs) x.0 in
      let ht< = ltb→lt t (length hs) y.0 in
      elim (joins_cases look hs c) [
        | inl w ↦ round_parted hs s t w.1 hs< ht<
        | inr g ↦ absurd (ring_no_corner hs s g hs< x.1)
      ]

-- ---- corners are vertices
pub ends_vertices : (s : Sheet) → Sound s → (e : ℕ) → T (is_open (cell_at s e))
    → T (is_vertex (cell_at s (start_of (cell_at s e)))) × T (is_vertex (cell_at s (end_of (cell_at s e))))
ends_vertices s S e t = go (cell_at s e) refl t
  where
    go : (o : Option Figure) → cell_at s e ≡ o → T (is_open o) → T (is_vertex (cell_at s (start_of o))) × T (is_vertex (cell_at s (end_of o)))
    go none q k = absurd k
    go (some (vertex p)) q k = absurd k
    go (some (open_edge a b bs)) q k =
        let x = both (is_vertex (cell_at s a)) (is_vertex (cell_at s b) && all within bs) (S.figures e (open_edge a b bs) q) in
        (x.0, (both (is_vertex (cell_at s b)) (all within bs) x.1).0)
    go (some (closed_edge bs)) q k = absurd k
    go (some (face ks)) q k = absurd k

pub corner_vertex_lem : (s : Sheet) → Sound s → (k : Cycle) (n : ℕ) → T (cycle_ok (cell_at s) k) → T (corner_exists (cell_at s) k n)
    → T (is_vertex (cell_at s (corner (cell_at s) k n)))
corner_vertex_lem s S (lone v) n c h = c
corner_vertex_lem s S (path hs) n c h =
    let o = (both (ltb n (length hs)) (is_open (cell_at s (get_or hs n no_step).edge)) h).1 in
    let v = ends_vertices s S (get_or hs n no_step).edge o in
    go (get_or hs n no_step).backward v.0 v.1
  where
    go : (b : Bool) → T (is_vertex (cell_at s (start_of (cell_at s (get_or hs n no_step).edge))))
        → T (is_vertex (cell_at s (end_of (cell_at s (get_or hs n no_step).edge))))
        → T (is_vertex (cell_at s (cond b (end_of (cell_at s (get_or hs n no_step).edge)) (start_of (cell_at s (get_or hs n no_step).edge)))))
    go true a b = b
    go false a b = a

-- ---- a walk closed by a new edge
some_last : (hs : List Halfedge) (h : Halfedge) → Some (hs ++ one h)
some_last [] h = tt
some_last (k ∷ hs) h = tt

pub closed_by : (look : Look) (u : ℕ) (hs : List Halfedge) (w : ℕ) (h : Halfedge) → Walk look u hs w → T (is_open (look h.edge)) → w ≡ tail_of look h
    → head_of look h ≡ u → T (joins look (hs ++ one h))
closed_by look u hs w h k o a b = round_joins look (hs ++ one h) (some_last hs h) (u, walk_append look u hs w (one h) u k (o, a, b))

-- ---- the cut
pub is_face_lem : (s : Sheet) (f : ℕ) → T (is_face (cell_at s f)) → cell_at s f ≡ some (face (cycles_of (cell_at s f)))
is_face_lem s f t = go (cell_at s f) t
  where
    go : (o : Option Figure) → T (is_face o) → o ≡ some (face (cycles_of o))
    go none t = absurd t
    go (some (vertex p)) t = absurd t
    go (some (open_edge a b bs)) t = absurd t
    go (some (closed_edge bs)) t = absurd t
    go (some (face ks)) t = refl

module _ (s : Sheet) (S : Sound s) (f c s1 s2 : ℕ) (bs : List Position) (ms : List ℕ) (is_f : T (is_face (cell_at s f))) (bsOk : T (all within bs))
    (hc : c < length (cycles_of (cell_at s f))) (h1 : T (corner_exists (cell_at s) (get_or (cycles_of (cell_at s f)) c no_cycle) s1))
    (h2 : T (corner_exists (cell_at s) (get_or (cycles_of (cell_at s f)) c no_cycle) s2)) (hm : T (places 0 ms (length (cycles_of (cell_at s f))))) where
  abbrev ks : List Cycle
  ks = cycles_of (cell_at s f)

  abbrev k : Cycle
  k = get_or ks c no_cycle

  abbrev e : ℕ
  e = s.next

  abbrev u : ℕ
  u = corner (cell_at s) k s1

  abbrev w : ℕ
  w = corner (cell_at s) k s2

  abbrev P : List Halfedge
  P = stretch s1 s2 (steps_of k)

  abbrev Q : List Halfedge
  Q = remainder s1 s2 (steps_of k)

  abbrev ks' : List Cycle
  ks' = without ms 0 (set ks c (path (P ++ one (against e))))

  abbrev new : List Figure
  new = open_edge u w bs ∷ face (path (Q ++ one (along e)) ∷ chosen no_cycle ms ks) ∷ []

  abbrev look' : Look
  look' = Look' every_id (replaced f (face ks')) new s

  kept : Keeps (cell_at s) look'
  kept = replaced_keeps f (face ks') new s S (λ t q. face_serves (cell_at s f) is_f t q ks')

  cycles_ok : T (all (cycle_ok (cell_at s)) ks)
  cycles_ok = S.figures f (face ks) (is_face_lem s f is_f)

  cycles_ok' : T (all (cycle_ok look') ks)
  cycles_ok' = all_more (cycle_ok (cell_at s)) (cycle_ok look') (cycle_kept (cell_at s) look' kept) ks cycles_ok

  k_ok : T (cycle_ok (cell_at s) k)
  k_ok = all_get_d (cycle_ok (cell_at s)) ks c no_cycle cycles_ok hc

  edge_at : look' e ≡ some (open_edge u w bs)
  edge_at = new_at every_id (replaced f (face ks')) new s S e (omega arith) ∙ rw (eq-eqb e e refl)

  P_closed : T (joins look' (P ++ one (against e)))
  unfolding Parted
  P_closed =
      closed_by look' u P w (against e) (walk_kept (cell_at s) look' kept u P w (parted (cell_at s) k s1 s2 k_ok h1 h2).0)
      (rw edge_at tt) (ap end_of (sym edge_at)) (ap start_of edge_at)

  Q_closed : T (joins look' (Q ++ one (along e)))
  unfolding Parted
  Q_closed =
      closed_by look' w Q u (along e) (walk_kept (cell_at s) look' kept w Q u (parted (cell_at s) k s1 s2 k_ok h1 h2).1)
      (rw edge_at tt) (ap start_of (sym edge_at)) (ap end_of edge_at)

  new_ok : T (all (figure_ok look') new)
  new_ok =
      let v1 = kept.vertices u (corner_vertex_lem s S k s1 k_ok h1) in
      let v2 = kept.vertices w (corner_vertex_lem s S k s2 k_ok h2) in
      pair (is_vertex (look' u) && (is_vertex (look' w) && all within bs)) ((joins look' (Q ++ one (along e)) && all (cycle_ok look') (chosen no_cycle ms ks))
      && true)
      (pair (is_vertex (look' u)) (is_vertex (look' w) && all within bs) v1 (pair (is_vertex (look' w)) (all within bs) v2 bsOk))
      (pair (joins look' (Q ++ one (along e)) && all (cycle_ok look') (chosen no_cycle ms ks)) true
      (pair (joins look' (Q ++ one (along e))) (all (cycle_ok look') (chosen no_cycle ms ks)) Q_closed (all_chosen (cycle_ok look') no_cycle 0 ms ks cycles_ok' hm))
      tt)

  pub split_parts : T (leb (split_in_two s f c s1 s2 bs ms ks).next ids_end) → T (ceilings (split_in_two s f c s1 s2 bs ms ks).cells)
      → Sound (split_in_two s f c s1 s2 bs ms ks)
  split_parts seven eight =
      replaced_sound f (face ks') new s S (λ t q. face_serves (cell_at s f) is_f t q ks') seven eight
      (all_without (cycle_ok look') ms 0 (set ks c (path (P ++ one (against e))))
      (all_set (cycle_ok look') ks c (path (P ++ one (against e))) cycles_ok' P_closed)) new_ok

pub split_sound : (f c s1 s2 : ℕ) (bs : List Position) (ms : List ℕ) (s : Sheet) → Sound s → Passes s (cut_face_open f c s1 c s2 bs ms)
    → Sound (result s (cut_face_open f c s1 c s2 bs ms))
unfolding question3 question4 question5 result face_cut_along
split_sound f c s1 s2 bs ms s S q =
    let ks = cycles_of (cell_at s f) in
    let E : eqb c c ≡ true = eq-eqb c c refl in
    let a = both (ltb c (length ks)) _ q.five in
    let b = both (ltb c (length ks)) _ a.1 in
    let d = both (corner_exists (cell_at s) (get_or ks c no_cycle) s1) _ b.1 in
    let g = both (corner_exists (cell_at s) (get_or ks c no_cycle) s2) _ d.1 in
    let h : T (places 0 ms (length ks) && not (holds c ms)) = rw E at g.1 in
    let m = both (places 0 ms (length ks)) (not (holds c ms)) h in
    rw E (split_parts s S f c s1 s2 bs ms q.four q.three (ltb→lt c (length ks) a.0) d.0 g.0 m.0 (rw E at q.seven) (rw E at q.eight))
