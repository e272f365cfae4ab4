-- When a change keeps a drawing sound. Assumes nothing.
use Prim.Native.Nat.{ℕ, zero, suc, ◌+◌, ◌≤◌, ◌<◌}
use native.Mathlib.Omega.{arith}
use mathlib.Core.Path.{◌≡◌, refl, sym, ap, ◌∙◌, subst}
use mathlib.Core.Logic.{◌⊎◌, inl, inr}
use mathlib.Core.Bool
use mathlib.Core.Bool.{Bool, true, false, not, ◌&&◌, ◌||◌, cond}
use mathlib.Core.List.{List, [], ◌∷◌, ◌++◌, map}
use mathlib.Core.Option.{Option, none, some}
use lib.ListN.{length, length-append}
use lib.Dec.{T, eqb, ltb, leb, eqb→eq, eqb_refl}
use borrow.Author.Tests.{eq-eqb, ne_eqb, eqb-true, eqb-false}
use Rattle.number.specs.Readers.{spread}
use Rattle.coordinate.specs.declared.Position.{Position}
use Rattle.coordinate.specs.Bounds.{within}
use Rattle.complex.specs.Lists.{all, is_empty, rising, one}
use Rattle.complex.specs.Cells.{Halfedge, Cycle, lone, path, Figure, vertex, open_edge, closed_edge, face, LiveCell, Sheet, Look, some_if, lookup, ids}
use Rattle.complex.specs.Cells.{is_vertex, is_open, is_closed, start_of, end_of, same, tail_of, head_of}
use Rattle.complex.specs.Sound.{ids_end, Walk, cycle_ok, figure_ok, ceilings, figures_ok, sound, joins}
use Rattle.complex.specs.Edits.{numbered, rebuild, rewired_cycle, rewired, same_vertex}
use Rattle.complex.proofs.Bools.{truth, true_of, either, both, pair, cases, false_not, equal, all_map, all_more}
use Rattle.complex.proofs.Lookup.{or_else, changed, lookup_rebuild, rising_rebuild, all_at, all_from}
use Rattle.complex.proofs.Walks.{walk_append, walk_through, Round, Ring, Some, joins_cases, round_joins, ring_joins}

-- ---- soundness, part by part, and of each id's shape
pub record Sound (s : Sheet) : Type 0 where
  pub rises : T (rising 0 (ids s.cells) s.next)
  pub in_ids : T (leb s.next ids_end)
  pub fits : T (ceilings s.cells)
  pub figures : (i : ℕ) (t : Figure) → lookup s.cells i ≡ some t → T (figure_ok (lookup s.cells) t)

pub sound_parts : (s : Sheet) → T (sound s) → Sound s
unfolding sound
sound_parts s t =
    let a = both (rising 0 (ids s.cells) s.next) (leb s.next ids_end && (ceilings s.cells && figures_ok s.cells)) t in
    let b = both (leb s.next ids_end) (ceilings s.cells && figures_ok s.cells) a.1 in
    let c = both (ceilings s.cells) (figures_ok s.cells) b.1 in
    record { rises = a.0; in_ids = b.0; fits = c.0; figures = λ i u e. all_at (figure_ok (lookup s.cells)) s.cells i u c.1 e }

pub parts_sound : (s : Sheet) → Sound s → T (sound s)
unfolding sound
parts_sound s p =
    pair (rising 0 (ids s.cells) s.next) (leb s.next ids_end && (ceilings s.cells && figures_ok s.cells)) p.rises
    (pair (leb s.next ids_end) (ceilings s.cells && figures_ok s.cells) p.in_ids
    (pair (ceilings s.cells) (figures_ok s.cells) p.fits (all_from (figure_ok (lookup s.cells)) 0 s.cells s.next p.rises p.figures)))

-- ---- a change keeps soundness if the figures that stay, and the new ones, are in order afterwards
all_new : (P : Figure → Bool) (n : ℕ) (new : List Figure) (i : ℕ) (t : Figure) → T (all P new) → lookup (numbered n new) i ≡ some t → T (P t)
all_new P n [] i t h e = absurd (let z : ◌≡◌ {A = ℕ} 0 1 = cc in omega arith)
all_new P n (x ∷ xs) i t h e =
    let b = both (P x) (all P xs) h in
    go (eqb n i) b.0 (λ g. all_new P (suc n) xs i t b.1 g) e
  where
    go : (y : Bool) → T (P x) → (lookup (numbered (suc n) xs) i ≡ some t → T (P t)) → some_if y x (lookup (numbered (suc n) xs) i) ≡ some t → T (P t)
    go true u k g = let z : x ≡ t = cc in subst (λ (w : Figure). T (P w)) z u
    go false u k g = k g

module _ (p : ℕ → Bool) (f : ℕ → Figure → Figure) (new : List Figure) (s : Sheet) where
  abbrev pub Look' : Look
  Look' = lookup (rebuild p f new s).cells

  pub rebuild_sound : Sound s → T (leb (rebuild p f new s).next ids_end) → T (ceilings (rebuild p f new s).cells)
      → ((i : ℕ) (t : Figure) → T (p i) → lookup s.cells i ≡ some t → T (figure_ok Look' (f i t)))
      → T (all (figure_ok Look') new) → Sound (rebuild p f new s)
  rebuild_sound S seven eight old fresh =
      record {
        rises = rising_rebuild p f new s S.rises;
        in_ids = seven;
        fits = eight;
        figures = λ i t e. go i t (p i) (lookup s.cells i) refl refl (sym
            (lookup_rebuild p f new s i) ∙ e);
      }
    where
      go : (i : ℕ) (t : Figure) (b : Bool) (o : Option Figure) → p i ≡ b → lookup s.cells i ≡ o
          → or_else (changed (f i) (cond b o none)) (lookup (numbered s.next new) i) ≡ some t → T (figure_ok Look' t)
      go i t true (some u) q l e = let z : f i u ≡ t = cc in subst (λ (w : Figure). T (figure_ok Look' w)) z (old i u (truth q) l)
      go i t true none q l e = all_new (figure_ok Look') s.next new i t fresh e
      go i t false o q l e = all_new (figure_ok Look') s.next new i t fresh e

-- ---- rewiring: vertices by r, steps by σ
pub same_eq : (h k : Halfedge) → T (same h k) → h ≡ k
same_eq h k t =
    let b = both (eqb h.edge k.edge) (Bool.beq h.backward k.backward) t in
    λ i. record { edge = eqb→eq h.edge k.edge b.0 i; backward = beq h.backward k.backward b.1 i }
  where
    beq : (x y : Bool) → T (Bool.beq x y) → x ≡ y
    beq true true u = refl
    beq true false u = absurd u
    beq false true u = absurd u
    beq false false u = refl

pub same_refl : (h : Halfedge) → T (same h h)
same_refl h = pair (eqb h.edge h.edge) (Bool.beq h.backward h.backward) (eqb_refl h.edge) (beq h.backward)
  where
    beq : (x : Bool) → T (Bool.beq x x)
    beq true = tt
    beq false = tt

pub record Carries (look look' : Look) (r : ℕ → ℕ) (σ : Halfedge → List Halfedge) : Type 0 where
  pub vertices : (v : ℕ) → T (is_vertex (look v)) → T (is_vertex (look' (r v)))
  pub rounds : (hs : List Halfedge) → Some hs → Round look hs → T (joins look' (spread σ hs))
  pub rings : (hs : List Halfedge) → Ring look hs → T (joins look' (spread σ hs))

-- a closed edge's steps become another's
module _ (look look' : Look) (σ : Halfedge → List Halfedge) where
  pub ring_all : (h k : Halfedge) (hs : List Halfedge) → σ h ≡ one k → T (all (same h) hs) → T (all (same k) (spread σ hs))
  ring_all h k [] e t = tt
  ring_all h k (g ∷ gs) e t =
      let b = both (same h g) (all (same h) gs) t in
      let q : σ g ≡ one k = ap σ (sym (same_eq h g b.0)) ∙ e in
      rw q (pair (same k k) (all (same k) (spread σ gs)) (same_refl k) (ring_all h k gs e b.1))

  pub ring_carried : (h : Halfedge) (hs : List Halfedge) (k : Halfedge) → σ h ≡ one k → T (is_closed (look' k.edge)) → T (all (same h) hs)
      → T (joins look' (spread σ (h ∷ hs)))
  ring_carried h hs k e c t =
      let r : Ring look' (spread σ (h ∷ hs)) = rw e (c, ring_all h k hs e t) in
      ring_joins look' (spread σ (h ∷ hs)) r

-- an open edge's steps become a walk
pub round_carried : (look look' : Look) (r : ℕ → ℕ) (σ : Halfedge → List Halfedge)
    → ((h : Halfedge) → T (is_open (look h.edge)) → Walk look' (r (tail_of look h)) (σ h) (r (head_of look h)))
    → (hs : List Halfedge) → Some (spread σ hs) → Round look hs → T (joins look' (spread σ hs))
round_carried look look' r σ f hs t w = round_joins look' (spread σ hs) t (r w.0, walk_through look look' r σ f w.0 hs w.0 w.1)

pub some_spread : (σ : Halfedge → List Halfedge) → ((h : Halfedge) → Some (σ h)) → (hs : List Halfedge) → Some hs → Some (spread σ hs)
some_spread σ f [] t = t
some_spread σ f (h ∷ hs) t = go (σ h) (f h)
  where
    go : (ks : List Halfedge) → Some ks → Some (ks ++ spread σ hs)
    go [] u = absurd u
    go (k ∷ ks) u = tt

module _ (look look' : Look) (r : ℕ → ℕ) (σ : Halfedge → List Halfedge) (C : Carries look look' r σ) where
  pub joins_carried : (hs : List Halfedge) → T (joins look hs) → T (joins look' (spread σ hs))
  joins_carried hs t = elim (joins_cases look hs t) [
    | inl w ↦ C.rounds hs w.0 w.1
    | inr g ↦ C.rings hs g
  ]

  pub cycle_carried : (k : Cycle) → T (cycle_ok look k) → T (cycle_ok look' (rewired_cycle r σ k))
  cycle_carried (lone v) t = C.vertices v t
  cycle_carried (path hs) t = joins_carried hs t

  pub shape_carried : (i : ℕ) (t : Figure) → T (figure_ok look t) → T (figure_ok look' (rewired r σ i t))
  shape_carried i (vertex p) t = t
  shape_carried i (open_edge a b bs) t =
      let x = both (is_vertex (look a)) (is_vertex (look b) && all within bs) t in
      let y = both (is_vertex (look b)) (all within bs) x.1 in
      pair (is_vertex (look' (r a))) (is_vertex (look' (r b)) && all within bs) (C.vertices a x.0)
      (pair (is_vertex (look' (r b))) (all within bs) (C.vertices b y.0) y.1)
  shape_carried i (closed_edge bs) t = t
  shape_carried i (face ks) t = all_map (cycle_ok look) (cycle_ok look') (rewired_cycle r σ) cycle_carried ks t

-- ---- nothing rewired
pub spread_one : (hs : List Halfedge) → spread one hs ≡ hs
spread_one [] = refl
spread_one (h ∷ hs) = ap (λ (ks : List Halfedge). h ∷ ks) (spread_one hs)

-- where each step becomes one there are as many
pub length_each : (σ : Halfedge → List Halfedge) → ((h : Halfedge) → length (σ h) ≡ 1) → (hs : List Halfedge) → length (spread σ hs) ≡ length hs
length_each σ each [] = refl
length_each σ each (h ∷ hs) = omega (arith, length-append (σ h) (spread σ hs), each h, length_each σ each hs)

-- what is an open edge, a closed edge or a vertex stays one, an open edge with its ends
pub record Keeps (look look' : Look) : Type 0 where
  pub vertices : (v : ℕ) → T (is_vertex (look v)) → T (is_vertex (look' v))
  pub opens : (e : ℕ) → T (is_open (look e)) → T (is_open (look' e))
  pub starts : (e : ℕ) → T (is_open (look e)) → start_of (look e) ≡ start_of (look' e)
  pub ends : (e : ℕ) → T (is_open (look e)) → end_of (look e) ≡ end_of (look' e)
  pub closeds : (e : ℕ) → T (is_closed (look e)) → T (is_closed (look' e))

module _ (look look' : Look) (K : Keeps look look') where
  pub tail_kept : (h : Halfedge) → T (is_open (look h.edge)) → tail_of look h ≡ tail_of look' h
  tail_kept h o = λ i. cond h.backward (K.ends h.edge o i) (K.starts h.edge o i)

  pub head_kept : (h : Halfedge) → T (is_open (look h.edge)) → head_of look h ≡ head_of look' h
  head_kept h o = λ i. cond h.backward (K.starts h.edge o i) (K.ends h.edge o i)

  pub walk_kept : (u : ℕ) (hs : List Halfedge) (w : ℕ) → Walk look u hs w → Walk look' u hs w
  walk_kept u [] w e = e
  walk_kept u (h ∷ hs) w k =
      (K.opens h.edge k.0, k.1 ∙ tail_kept h k.0, subst (λ (v : ℕ). Walk look' v hs w) (head_kept h k.0) (walk_kept (head_of look h) hs w k.2))

  pub joins_kept : (hs : List Halfedge) → T (joins look hs) → T (joins look' hs)
  joins_kept [] t = t
  joins_kept (h ∷ hs) t = elim (joins_cases look (h ∷ hs) t) [
    | inl w ↦ round_joins look' (h ∷ hs) tt (w.1.0, walk_kept w.1.0 (h ∷ hs) w.1.0 w.1.1)
    | inr g ↦ ring_joins look' (h ∷ hs) (K.closeds h.edge g.0, g.1)
  ]

  pub cycle_kept : (k : Cycle) → T (cycle_ok look k) → T (cycle_ok look' k)
  cycle_kept (lone v) t = K.vertices v t
  cycle_kept (path hs) t = joins_kept hs t

  pub shape_kept : (t : Figure) → T (figure_ok look t) → T (figure_ok look' t)
  shape_kept (vertex p) t = t
  shape_kept (open_edge a b bs) t =
      let x = both (is_vertex (look a)) (is_vertex (look b) && all within bs) t in
      let y = both (is_vertex (look b)) (all within bs) x.1 in
      pair (is_vertex (look' a)) (is_vertex (look' b) && all within bs) (K.vertices a x.0)
      (pair (is_vertex (look' b)) (all within bs) (K.vertices b y.0) y.1)
  shape_kept (closed_edge bs) t = t
  shape_kept (face ks) t = all_more (cycle_ok look) (cycle_ok look') cycle_kept ks t
