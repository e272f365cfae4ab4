-- Commands that keep a drawing sound: 01 to 05, 07. Assumes nothing.
use Prim.Native.Nat.{ℕ, zero, suc, ◌+◌, ◌≤◌, ◌<◌}
use native.Mathlib.Omega.{arith}
use mathlib.Core.Path.{◌≡◌, refl, sym, ap, ◌∙◌, subst}
use mathlib.Core.Logic.{◌⊎◌, inl, inr}
use mathlib.Core.Bool.{Bool, true, false, not, ◌&&◌, ◌||◌, cond, beq}
use mathlib.Core.List.{List, [], ◌∷◌, ◌++◌, map}
use mathlib.Core.Option.{Option, none, some}
use lib.ListN.{length}
use lib.Dec.{T, eqb, ltb, leb, eqb→eq, eqb_refl}
use borrow.Author.Tests.{eq-eqb, ne_eqb, eqb-true, eqb-false}
use Rattle.number.specs.Readers.{spread}
use Rattle.coordinate.specs.declared.Position.{Position}
use Rattle.coordinate.specs.Bounds.{within}
use Rattle.complex.specs.Lists.{all, is_empty, rising, one}
use Rattle.complex.specs.Cells.{Halfedge, Cycle, lone, path, Figure, vertex, open_edge, closed_edge, face, LiveCell, Sheet, Look, some_if, lookup, ids}
use Rattle.complex.specs.Cells.{is_vertex, is_open, is_closed, is_face, start_of, end_of, tail_of, head_of, cell_at}
use Rattle.complex.specs.Sound.{ids_end, Walk, cycle_ok, figure_ok, ceilings, sound, joins}
use Rattle.complex.specs.Decode.{Command, create, move, glue_vertices}
use Rattle.complex.specs.Edits.{numbered, rebuild, every_id, as_it_is, replaced, rewired_cycle, rewired, same_vertex, others}
use Rattle.complex.specs.Delete.{moved}
use Rattle.complex.specs.Glue.{renamed, glued_vertices}
use Rattle.complex.specs.Commands.{question3, question4, question5, question6, result}
use Rattle.complex.proofs.Bools.{truth, true_of, either, both, pair, cases, false_not, not_of, equal, all_map, all_more}
use Rattle.complex.proofs.Lookup.{or_else, changed, lookup_rebuild, lookup_from}
use Rattle.complex.proofs.Passes.{Passes, KeepsSound}
use Rattle.complex.proofs.Walks.{Round, Ring, Some}
use Rattle.complex.proofs.Keep.{Sound, Look', rebuild_sound, Carries, ring_carried, round_carried, some_spread, shape_carried, Keeps, shape_kept}
use Rattle.complex.proofs.Keep.{cycle_kept}

-- ---- an id's cell afterwards serves whoever names it
abbrev pub Alike : Option Figure → Option Figure → Type 0
Alike none o = Unit {0}
Alike (some (vertex p)) o = T (is_vertex o)
Alike (some (open_edge a b bs)) o = T (is_open o) × (a ≡ start_of o) × (b ≡ end_of o)
Alike (some (closed_edge bs)) o = T (is_closed o)
Alike (some (face ks)) o = Unit {0}

pub alike_same : (t : Figure) → Alike (some t) (some t)
alike_same (vertex p) = tt
alike_same (open_edge a b bs) = (tt, refl, refl)
alike_same (closed_edge bs) = tt
alike_same (face ks) = tt

pub vertex_of : (o o' : Option Figure) → Alike o o' → T (is_vertex o) → T (is_vertex o')
vertex_of none o' a t = absurd t
vertex_of (some (vertex p)) o' a t = a
vertex_of (some (open_edge u w bs)) o' a t = absurd t
vertex_of (some (closed_edge bs)) o' a t = absurd t
vertex_of (some (face ks)) o' a t = absurd t

pub open_of : (o o' : Option Figure) → Alike o o' → T (is_open o) → T (is_open o') × (start_of o ≡ start_of o') × (end_of o ≡ end_of o')
open_of none o' a t = absurd t
open_of (some (vertex p)) o' a t = absurd t
open_of (some (open_edge u w bs)) o' a t = a
open_of (some (closed_edge bs)) o' a t = absurd t
open_of (some (face ks)) o' a t = absurd t

pub closed_of : (o o' : Option Figure) → Alike o o' → T (is_closed o) → T (is_closed o')
closed_of none o' a t = absurd t
closed_of (some (vertex p)) o' a t = absurd t
closed_of (some (open_edge u w bs)) o' a t = absurd t
closed_of (some (closed_edge bs)) o' a t = a
closed_of (some (face ks)) o' a t = absurd t

-- a face serves as a face did
pub face_serves : (o : Option Figure) → T (is_face o) → (t : Figure) → o ≡ some t → (ks : List Cycle) → Alike (some t) (some (face ks))
face_serves o f t e ks = go t (subst (λ (u : Option Figure). T (is_face u)) e f)
  where
    go : (t : Figure) → T (is_face (some t)) → Alike (some t) (some (face ks))
    go (vertex p) t = absurd t
    go (open_edge a b bs) t = absurd t
    go (closed_edge bs) t = absurd t
    go (face ks) t = tt

module _ (look look' : Look) (A : (i : ℕ) → Alike (look i) (look' i)) where
  pub alike_keeps : Keeps look look'
  alike_keeps =
      record {
        vertices = λ v t. vertex_of (look v) (look' v) (A v) t;
        opens = λ e t. (open_of (look e) (look' e) (A e) t).0;
        starts = λ e t. (open_of (look e) (look' e) (A e) t).1;
        ends = λ e t. (open_of (look e) (look' e) (A e) t).2;
        closeds = λ e t. closed_of (look e) (look' e) (A e) t;
      }

-- ---- what stands at an id after a change
module _ (p : ℕ → Bool) (f : ℕ → Figure → Figure) (new : List Figure) (s : Sheet) where
  pub stays_at : (i : ℕ) (t : Figure) → T (p i) → lookup s.cells i ≡ some t → Look' p f new s i ≡ some (f i t)
  stays_at i t k e = lookup_rebuild p f new s i ∙ rw (true_of (p i) k, e)

  pub new_at : Sound s → (i : ℕ) → s.next ≤ i → Look' p f new s i ≡ lookup (numbered s.next new) i
  new_at S i h = lookup_rebuild p f new s i ∙ rw (lookup_from 0 s.cells s.next i S.rises h) (go (p i))
    where
      go : (b : Bool) → or_else (changed (f i) (cond b none none)) (lookup (numbered s.next new) i) ≡ lookup (numbered s.next new) i
      go true = refl
      go false = refl

  -- all cells stay, alike
  pub alike_rebuild : ((i : ℕ) (t : Figure) → lookup s.cells i ≡ some t → T (p i) × Alike (some t) (some (f i t)))
      → Keeps (lookup s.cells) (Look' p f new s)
  alike_rebuild h = alike_keeps (lookup s.cells) (Look' p f new s) (λ i. go i (lookup s.cells i) refl)
    where
      go : (i : ℕ) (o : Option Figure) → lookup s.cells i ≡ o → Alike o (Look' p f new s i)
      go i none e = tt
      go i (some t) e = subst (Alike (some t)) (sym (stays_at i t (h i t e).0 e)) (h i t e).1

-- ---- 01 to 04: a cell more
module _ (new : List Figure) (s : Sheet) where
  pub added_keeps : Keeps (lookup s.cells) (Look' every_id as_it_is new s)
  added_keeps = alike_rebuild every_id as_it_is new s (λ i t e. (tt, alike_same t))

  pub added_sound : Sound s → T (leb (rebuild every_id as_it_is new s).next ids_end) → T (ceilings (rebuild every_id as_it_is new s).cells)
      → T (all (figure_ok (lookup s.cells)) new) → Sound (rebuild every_id as_it_is new s)
  added_sound S seven eight h =
      rebuild_sound every_id as_it_is new s S seven eight
      (λ i t k e. shape_kept (lookup s.cells) (Look' every_id as_it_is new s) added_keeps t (S.figures i t e))
      (all_more (figure_ok (lookup s.cells)) (figure_ok (Look' every_id as_it_is new s)) (shape_kept (lookup s.cells) (Look' every_id as_it_is new s) added_keeps)
      new h)

-- a figure that was asked 3 to 6 is in order
figure_passes : (s : Sheet) (x : Figure) → T (question3 (create x)) → T (question4 s (create x)) → T (question5 s (create x)) → T (question6 s (create x))
    → T (figure_ok (cell_at s) x)
unfolding question3 question4 question5 question6
figure_passes s (vertex p) three four five six = (both (within p) true three).0
figure_passes s (open_edge a b bs) three four five six =
    let v = both (is_vertex (cell_at s a)) (is_vertex (cell_at s b)) four in
    pair (is_vertex (cell_at s a)) (is_vertex (cell_at s b) && all within bs) v.0 (pair (is_vertex (cell_at s b)) (all within bs) v.1 three)
figure_passes s (closed_edge bs) three four five six = pair (not (is_empty bs)) (all within bs) five three
figure_passes s (face ks) three four five six = six

pub create_sound : (x : Figure) → KeepsSound (create x)
unfolding result
create_sound x s S q = added_sound (one x) s S q.seven q.eight
    (pair (figure_ok (cell_at s) x) true (figure_passes s x q.three q.four q.five q.six) tt)

-- ---- 05
-- a shape replaced by one that is in order and serves as the old one did
module _ (i : ℕ) (t : Figure) (new : List Figure) (s : Sheet) (S : Sound s) (A : (u : Figure) → lookup s.cells i ≡ some u → Alike (some u) (some t)) where
  pub replaced_keeps : Keeps (lookup s.cells) (Look' every_id (replaced i t) new s)
  replaced_keeps = alike_rebuild every_id (replaced i t) new s (λ j u e. (tt, go j u (eqb i j) refl e))
    where
      go : (j : ℕ) (u : Figure) (b : Bool) → eqb i j ≡ b → lookup s.cells j ≡ some u → Alike (some u) (some (cond b t u))
      go j u true q e = A u (ap (lookup s.cells) (eqb-true i j q) ∙ e)
      go j u false q e = alike_same u

  pub replaced_sound : T (leb (rebuild every_id (replaced i t) new s).next ids_end) → T (ceilings (rebuild every_id (replaced i t) new s).cells)
      → T (figure_ok (Look' every_id (replaced i t) new s) t) → T (all (figure_ok (Look' every_id (replaced i t) new s)) new)
      → Sound (rebuild every_id (replaced i t) new s)
  replaced_sound seven eight here there = rebuild_sound every_id (replaced i t) new s S seven eight (λ j u k e. go j u (eqb i j) e) there
    where
      go : (j : ℕ) (u : Figure) (b : Bool) → lookup s.cells j ≡ some u → T (figure_ok (Look' every_id (replaced i t) new s) (cond b t u))
      go j u true e = here
      go j u false e = shape_kept (lookup s.cells) (Look' every_id (replaced i t) new s) replaced_keeps u (S.figures j u e)

pub move_sound : (v : ℕ) (p : Position) → KeepsSound (move v p)
unfolding question3 question4 result moved
move_sound v p s S q =
    replaced_sound v (vertex p) [] s S (λ u e. serves u (subst (λ (o : Option Figure). T (is_vertex o)) e q.four)) q.seven q.eight
    (both (within p) true q.three).0 tt
  where
    serves : (u : Figure) → T (is_vertex (some u)) → Alike (some u) (some (vertex p))
    serves (vertex r) t = tt
    serves (open_edge a b bs) t = absurd t
    serves (closed_edge bs) t = absurd t
    serves (face ks) t = tt

-- ---- 07
module _ (a b : ℕ) (s : Sheet) (S : Sound s) (va : T (is_vertex (cell_at s a))) (vb : T (is_vertex (cell_at s b))) (ne : eqb a b ≡ false) where
  abbrev glued : Look
  glued = Look' (others b) (rewired (renamed a b) one) [] s

  -- what is no vertex is not b, and stays
  glued_at : (i : ℕ) (t : Figure) → lookup s.cells i ≡ some t → (i ≡ b → ⊥) → glued i ≡ some (rewired (renamed a b) one i t)
  glued_at i t e n = stays_at (others b) (rewired (renamed a b) one) [] s i t (rw (ne_eqb b i (λ q. n (sym q))) tt) e

  glued_vertex : (v : ℕ) → T (is_vertex (cell_at s v)) → T (is_vertex (glued (renamed a b v)))
  glued_vertex v t = go (eqb b v) refl
    where
      at : (i : ℕ) → T (is_vertex (cell_at s i)) → (i ≡ b → ⊥) → (o : Option Figure) → cell_at s i ≡ o → T (is_vertex (glued i))
      at i u n none e = absurd (subst (λ (x : Option Figure). T (is_vertex x)) e u)
      at i u n (some (vertex p)) e = rw (glued_at i (vertex p) e n) tt
      at i u n (some (open_edge x y bs)) e = absurd (subst (λ (x : Option Figure). T (is_vertex x)) e u)
      at i u n (some (closed_edge bs)) e = absurd (subst (λ (x : Option Figure). T (is_vertex x)) e u)
      at i u n (some (face ks)) e = absurd (subst (λ (x : Option Figure). T (is_vertex x)) e u)

      go : (y : Bool) → eqb b v ≡ y → T (is_vertex (glued (cond y a v)))
      go true q = at a va (eqb-false a b ne) (cell_at s a) refl
      go false q = at v t (λ z. eqb-false b v q (sym z)) (cell_at s v) refl

  not_vertex : (e : ℕ) → (o : Option Figure) → cell_at s e ≡ o → (T (is_vertex o) → ⊥) → e ≡ b → ⊥
  not_vertex e o q n z = n (subst (λ (x : Option Figure). T (is_vertex x)) (ap (cell_at s) (sym z) ∙ q) vb)

  glued_walk : (h : Halfedge) → T (is_open (cell_at s h.edge)) → Walk glued (renamed a b (tail_of (cell_at s) h)) (one h) (renamed a b (head_of (cell_at s) h))
  glued_walk h t = go (cell_at s h.edge) refl t
    where
      ends : (u w : ℕ) (bs : List Position) (y : Bool) → h.backward ≡ y → cell_at s h.edge ≡ some (open_edge u w bs)
          → glued h.edge ≡ some (open_edge (renamed a b u) (renamed a b w) bs)
          → Walk glued (renamed a b (tail_of (cell_at s) h)) (one h) (renamed a b (head_of (cell_at s) h))
      ends u w bs true y e g = rw (y, e, g) (tt, refl, refl)
      ends u w bs false y e g = rw (y, e, g) (tt, refl, refl)

      go : (o : Option Figure) → cell_at s h.edge ≡ o → T (is_open o)
          → Walk glued (renamed a b (tail_of (cell_at s) h)) (one h) (renamed a b (head_of (cell_at s) h))
      go none e k = absurd k
      go (some (vertex p)) e k = absurd k
      go (some (open_edge u w bs)) e k = ends u w bs h.backward refl e
          (glued_at h.edge (open_edge u w bs) e (not_vertex h.edge (some (open_edge u w bs)) e (λ z. z)))
      go (some (closed_edge bs)) e k = absurd k
      go (some (face ks)) e k = absurd k

  glued_ring : (h : Halfedge) → T (is_closed (cell_at s h.edge)) → T (is_closed (glued h.edge))
  glued_ring h t = go (cell_at s h.edge) refl t
    where
      go : (o : Option Figure) → cell_at s h.edge ≡ o → T (is_closed o) → T (is_closed (glued h.edge))
      go none e k = absurd k
      go (some (vertex p)) e k = absurd k
      go (some (open_edge u w bs)) e k = absurd k
      go (some (closed_edge bs)) e k = rw (glued_at h.edge (closed_edge bs) e (not_vertex h.edge (some (closed_edge bs)) e (λ z. z))) tt
      go (some (face ks)) e k = absurd k

  glued_carries : Carries (cell_at s) glued (renamed a b) one
  glued_carries =
      record {
        vertices = glued_vertex;
        rounds = λ hs t w. round_carried (cell_at s) glued (renamed a b) one glued_walk hs (some_spread one (λ h. tt) hs t) w;
        rings = rings;
      }
    where
      rings : (hs : List Halfedge) → Ring (cell_at s) hs → T (joins glued (spread one hs))
      rings [] g = absurd g
      rings (h ∷ hs) g = ring_carried (cell_at s) glued one h hs h refl (glued_ring h g.0) g.1

  pub glued_sound : T (leb (glued_vertices s a b).next ids_end) → T (ceilings (glued_vertices s a b).cells) → Sound (glued_vertices s a b)
  unfolding glued_vertices
  glued_sound seven eight =
      rebuild_sound (others b) (rewired (renamed a b) one) [] s S seven eight
      (λ i t k e. shape_carried (cell_at s) glued (renamed a b) one glued_carries i t (S.figures i t e)) tt

pub glue_sound : (a b : ℕ) → KeepsSound (glue_vertices a b)
unfolding question4 question6 result
glue_sound a b s S q =
    let v = both (is_vertex (cell_at s a)) (is_vertex (cell_at s b)) q.four in
    glued_sound a b s S v.0 v.1 (not_of (eqb a b) q.six) q.seven q.eight
