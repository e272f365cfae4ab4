-- Resting on a cell is having it in the boundary; a delete takes exactly the cell and what rests on it, and keeps a drawing sound. Assumes nothing.
use Prim.Native.Nat.{ℕ, zero, suc, ◌+◌, ◌≤◌, ◌<◌}
use native.Mathlib.Omega.{arith}
use mathlib.Core.Path.{◌≡◌, refl, sym, ap, ◌∙◌, subst}
use mathlib.Core.Logic.{◌⊎◌, inl, inr, ◌↔◌}
use mathlib.Core.Bool.{Bool, true, false, not, ◌&&◌, ◌||◌, cond}
use mathlib.Core.List.{List, [], ◌∷◌, ◌++◌, map}
use mathlib.Core.Option.{Option, none, some}
use lib.ListN.{length}
use lib.Dec.{T, eqb, ltb, leb, eqb→eq, eqb_refl}
use borrow.Author.Tests.{eq-eqb, ne_eqb, eqb-true, eqb-false}
use Rattle.number.specs.Readers.{spread}
use Rattle.coordinate.specs.declared.Position.{Position}
use Rattle.coordinate.specs.Bounds.{within}
use Rattle.complex.specs.Lists.{all, any, holds}
use Rattle.complex.specs.Cells.{Halfedge, Cycle, lone, path, Figure, vertex, open_edge, closed_edge, face, LiveCell, Sheet, Look, lookup, is_vertex, is_open}
use Rattle.complex.specs.Cells.{is_closed, is_live, start_of, end_of, same, tail_of, head_of, cell_at}
use Rattle.complex.specs.Boundary.{ends_of, boundary_at, rests, cycle_boundary, boundary, bounds, bounds_at, RestsOn, holding, through}
use Rattle.complex.specs.Sound.{ids_end, leads, joins, cycle_ok, figure_ok, ceilings}
use Rattle.complex.specs.Decode.{Command, delete}
use Rattle.complex.specs.Edits.{numbered, rebuild, as_it_is}
use Rattle.complex.specs.Delete.{goes, deleted}
use Rattle.complex.specs.Commands.{question4, result}
use Rattle.complex.specs.Demands.{live, Took}
use Rattle.complex.proofs.Bools.{truth, true_of, either, both, pair, cases, or_left, or_right, equal, not_of, false_not}
use Rattle.complex.proofs.Lookup.{or_else, changed, lookup_rebuild}
use Rattle.complex.proofs.Walks.{Ring, Some, joins_cases}
use Rattle.complex.proofs.Keep.{Sound, Look', rebuild_sound}
use Rattle.complex.proofs.Passes.{Passes, KeepsSound}

-- ---- being in a list
pub holds_left : (x : ℕ) (xs ys : List ℕ) → T (holds x xs) → T (holds x (xs ++ ys))
holds_left x [] ys t = absurd t
holds_left x (y ∷ xs) ys t = elim (cases (eqb x y) (holds x xs) t) [
  | inl a ↦ or_left (eqb x y) (holds x (xs ++ ys)) a
  | inr b ↦ or_right (eqb x y) (holds x (xs ++ ys)) (holds_left x xs ys b)
]

pub holds_right : (x : ℕ) (xs ys : List ℕ) → T (holds x ys) → T (holds x (xs ++ ys))
holds_right x [] ys t = t
holds_right x (y ∷ xs) ys t = or_right (eqb x y) (holds x (xs ++ ys)) (holds_right x xs ys t)

pub holds_cases : (x : ℕ) (xs ys : List ℕ) → T (holds x (xs ++ ys)) → T (holds x xs) ⊎ T (holds x ys)
holds_cases x [] ys t = inr t
holds_cases x (y ∷ xs) ys t = elim (cases (eqb x y) (holds x (xs ++ ys)) t) [
  | inl a ↦ inl (or_left (eqb x y) (holds x xs) a)
  | inr b ↦ elim (holds_cases x xs ys b) [ inl c ↦ inl (or_right (eqb x y) (holds x xs) c) | inr d ↦ inr d ]
]

pub holds_first : (x : ℕ) (ys : List ℕ) → T (holds x (x ∷ ys))
holds_first x ys = or_left (eqb x x) (holds x ys) (eqb_refl x)

-- ---- frame: a shape's soundness depends on the cells in its boundary alone
module _ (look look' : Look) where
  abbrev Agree : List ℕ → Type 0
  Agree ns = (x : ℕ) → T (holds x ns) → look' x ≡ look x

  agree_left : (xs ys : List ℕ) → Agree (xs ++ ys) → Agree xs
  agree_left xs ys a x t = a x (holds_left x xs ys t)

  agree_right : (xs ys : List ℕ) → Agree (xs ++ ys) → Agree ys
  agree_right xs ys a x t = a x (holds_right x xs ys t)

  leads_frame : (u : ℕ) (hs : List Halfedge) (w : ℕ) → Agree (cycle_boundary look (path hs)) → T (leads look u hs w) → T (leads look' u hs w)
  leads_frame u [] w a t = t
  leads_frame u (h ∷ hs) w a t =
      let q = a h.edge (holds_first h.edge (ends_of (look h.edge) ++ cycle_boundary look (path hs))) in
      let r = agree_right (h.edge ∷ ends_of (look h.edge)) (cycle_boundary look (path hs)) a in
      let b = both (is_open (look h.edge)) (eqb u (tail_of look h) && leads look (head_of look h) hs w) t in
      let d = both (eqb u (tail_of look h)) (leads look (head_of look h) hs w) b.1 in
      rw q (pair (is_open (look h.edge)) _ b.0 (pair (eqb u (tail_of look h)) _ d.0 (leads_frame (head_of look h) hs w r d.1)))

  joins_frame : (hs : List Halfedge) → Agree (cycle_boundary look (path hs)) → T (joins look hs) → T (joins look' hs)
  joins_frame [] a t = t
  joins_frame (h ∷ hs) a t =
      let q = a h.edge (holds_first h.edge (ends_of (look h.edge) ++ cycle_boundary look (path hs))) in
      elim (cases (leads look (tail_of look h) (h ∷ hs) (tail_of look h)) (is_closed (look h.edge) && all (same h) hs) t) [
        | inl l ↦ or_left (leads look' (tail_of look' h) (h ∷ hs) (tail_of look' h)) (is_closed (look' h.edge) && all (same h) hs)
            (subst (λ (v : ℕ). T (leads look' v (h ∷ hs) v)) (tails h (sym q)) (leads_frame (tail_of look h) (h ∷ hs) (tail_of look h) a l))
        | inr c ↦ or_right (leads look' (tail_of look' h) (h ∷ hs) (tail_of look' h)) (is_closed (look' h.edge) && all (same h) hs)
            (subst (λ (o : Option Figure). T (is_closed o && all (same h) hs)) (sym q) c)
      ]
    where
      tails : (h : Halfedge) → look h.edge ≡ look' h.edge → tail_of look h ≡ tail_of look' h
      tails h q = ap (λ (o : Option Figure). cond h.backward (end_of o) (start_of o)) q

  cycle_frame : (k : Cycle) → Agree (cycle_boundary look k) → T (cycle_ok look k) → T (cycle_ok look' k)
  cycle_frame (lone v) a t = rw (a v (holds_first v [])) t
  cycle_frame (path hs) a t = joins_frame hs a t

  cycles_frame : (ks : List Cycle) → Agree (spread (cycle_boundary look) ks) → T (all (cycle_ok look) ks) → T (all (cycle_ok look') ks)
  cycles_frame [] a t = t
  cycles_frame (k ∷ ks) a t =
      let b = both (cycle_ok look k) (all (cycle_ok look) ks) t in
      pair (cycle_ok look' k) (all (cycle_ok look') ks)
      (cycle_frame k (agree_left (cycle_boundary look k) (spread (cycle_boundary look) ks) a) b.0)
      (cycles_frame ks (agree_right (cycle_boundary look k) (spread (cycle_boundary look) ks) a) b.1)

  pub shape_frame : (t : Figure) → ((x : ℕ) → T (bounds look x t) → look' x ≡ look x) → T (figure_ok look t) → T (figure_ok look' t)
  shape_frame (vertex p) a t = t
  shape_frame (open_edge u w bs) a t = rw (a u (holds_first u (w ∷ [])), a w (holds_right w (u ∷ []) (w ∷ []) (holds_first w []))) t
  shape_frame (closed_edge bs) a t = t
  shape_frame (face ks) a t = cycles_frame ks a t

-- ---- transitivity: what the boundary of a boundary cell holds, the boundary holds
module _ (s : Sheet) (S : Sound s) where
  vertex_holds_none : (y : ℕ) (o : Option Figure) → T (is_vertex o) → T (bounds_at (cell_at s) y o) → ⊥
  vertex_holds_none y none v t = v
  vertex_holds_none y (some (vertex p)) v t = t
  vertex_holds_none y (some (open_edge a b bs)) v t = v
  vertex_holds_none y (some (closed_edge bs)) v t = v
  vertex_holds_none y (some (face ks)) v t = v

  -- of an id among an edge's ends: it is a vertex
  end_vertex : (e x : ℕ) → T (holds x (ends_of (cell_at s e))) → T (is_vertex (cell_at s x))
  end_vertex e x t = go (cell_at s e) refl t
    where
      go : (o : Option Figure) → cell_at s e ≡ o → T (holds x (ends_of o)) → T (is_vertex (cell_at s x))
      go none q t = absurd t
      go (some (vertex p)) q t = absurd t
      go (some (open_edge a b bs)) q t =
          let u = both (is_vertex (cell_at s a)) (is_vertex (cell_at s b) && all within bs) (S.figures e (open_edge a b bs) q) in
          let w = both (is_vertex (cell_at s b)) (all within bs) u.1 in
          elim (cases (eqb x a) (eqb x b || false) t) [
            | inl h ↦ subst (λ (v : ℕ). T (is_vertex (cell_at s v))) (sym (eqb→eq x a h)) u.0
            | inr h ↦ elim (cases (eqb x b) false h) [ inl k ↦ subst (λ (v : ℕ). T (is_vertex (cell_at s v))) (sym (eqb→eq x b k)) w.0 | inr k ↦ absurd k ]
          ]
      go (some (closed_edge bs)) q t = absurd t
      go (some (face ks)) q t = absurd t

  -- of an edge: its boundary is its ends
  edge_bounds : (y : ℕ) (o : Option Figure) → (T (is_open o) ⊎ T (is_closed o)) → T (bounds_at (cell_at s) y o) → T (holds y (ends_of o))
  edge_bounds y none k t = absurd t
  edge_bounds y (some (vertex p)) k t = absurd t
  edge_bounds y (some (open_edge a b bs)) k t = t
  edge_bounds y (some (closed_edge bs)) k t = absurd t
  edge_bounds y (some (face ks)) k t = absurd (elim k [ inl a ↦ a | inr b ↦ b ])

  abbrev pub Edges : List Halfedge → Type 0
  Edges [] = Unit {0}
  Edges (h ∷ hs) = (T (is_open (cell_at s h.edge)) ⊎ T (is_closed (cell_at s h.edge))) × Edges hs

  leads_edges : (u : ℕ) (hs : List Halfedge) (w : ℕ) → T (leads (cell_at s) u hs w) → Edges hs
  leads_edges u [] w t = tt
  leads_edges u (h ∷ hs) w t =
      let b = both (is_open (cell_at s h.edge)) (eqb u (tail_of (cell_at s) h) && leads (cell_at s) (head_of (cell_at s) h) hs w) t in
      let d = both (eqb u (tail_of (cell_at s) h)) (leads (cell_at s) (head_of (cell_at s) h) hs w) b.1 in
      (inl b.0, leads_edges (head_of (cell_at s) h) hs w d.1)

  same_edges : (h : Halfedge) (hs : List Halfedge) → T (is_closed (cell_at s h.edge)) → T (all (same h) hs) → Edges hs
  same_edges h [] c t = tt
  same_edges h (k ∷ hs) c t =
      let b = both (same h k) (all (same h) hs) t in
      (inr (subst (λ (e : ℕ). T (is_closed (cell_at s e))) (eqb→eq h.edge k.edge (both (eqb h.edge k.edge) _ b.0).0) c), same_edges h hs c b.1)

  pub joins_edges : (hs : List Halfedge) → T (joins (cell_at s) hs) → Edges hs
  joins_edges [] t = tt
  joins_edges (h ∷ hs) t = elim
      (cases (leads (cell_at s) (tail_of (cell_at s) h) (h ∷ hs) (tail_of (cell_at s) h)) (is_closed (cell_at s h.edge) && all (same h) hs) t) [
        | inl l ↦ leads_edges (tail_of (cell_at s) h) (h ∷ hs) (tail_of (cell_at s) h) l
        | inr c ↦ let b = both (is_closed (cell_at s h.edge)) (all (same h) hs) c in (inr b.0, same_edges h hs b.0 b.1)
      ]

  path_trans : (hs : List Halfedge) → Edges hs → (x y : ℕ) → T (holds x (cycle_boundary (cell_at s) (path hs))) → T (bounds_at (cell_at s) y (cell_at s x))
      → T (holds y (cycle_boundary (cell_at s) (path hs)))
  path_trans [] E x y t b = absurd t
  path_trans (h ∷ hs) E x y t b = elim (holds_cases x (h.edge ∷ ends_of (cell_at s h.edge)) (cycle_boundary (cell_at s) (path hs)) t) [
    | inl a ↦ elim (cases (eqb x h.edge) (holds x (ends_of (cell_at s h.edge))) a) [
      | inl e ↦ holds_left y (h.edge ∷ ends_of (cell_at s h.edge)) (cycle_boundary (cell_at s) (path hs))
          (or_right (eqb y h.edge) (holds y (ends_of (cell_at s h.edge)))
          (edge_bounds y (cell_at s h.edge) E.0 (subst (λ (v : ℕ). T (bounds_at (cell_at s) y (cell_at s v))) (eqb→eq x h.edge e) b)))
      | inr e ↦ absurd (vertex_holds_none y (cell_at s x) (end_vertex h.edge x e) b)
    ]
    | inr a ↦ holds_right y (h.edge ∷ ends_of (cell_at s h.edge)) (cycle_boundary (cell_at s) (path hs)) (path_trans hs E.1 x y a b)
  ]

  cycle_trans : (k : Cycle) → T (cycle_ok (cell_at s) k) → (x y : ℕ) → T (holds x (cycle_boundary (cell_at s) k)) → T (bounds_at (cell_at s) y (cell_at s x))
      → T (holds y (cycle_boundary (cell_at s) k))
  cycle_trans (lone v) c x y t b = elim (cases (eqb x v) false t) [
    | inl e ↦ absurd (vertex_holds_none y (cell_at s x) (subst (λ (z : ℕ). T (is_vertex (cell_at s z))) (sym (eqb→eq x v e)) c) b)
    | inr e ↦ absurd e
  ]
  cycle_trans (path hs) c x y t b = path_trans hs (joins_edges hs c) x y t b

  cycles_trans : (ks : List Cycle) → T (all (cycle_ok (cell_at s)) ks) → (x y : ℕ) → T (holds x (spread (cycle_boundary (cell_at s)) ks))
      → T (bounds_at (cell_at s) y (cell_at s x)) → T (holds y (spread (cycle_boundary (cell_at s)) ks))
  cycles_trans [] c x y t b = t
  cycles_trans (k ∷ ks) c x y t b =
      let d = both (cycle_ok (cell_at s) k) (all (cycle_ok (cell_at s)) ks) c in
      elim (holds_cases x (cycle_boundary (cell_at s) k) (spread (cycle_boundary (cell_at s)) ks) t) [
        | inl a ↦ holds_left y (cycle_boundary (cell_at s) k) (spread (cycle_boundary (cell_at s)) ks) (cycle_trans k d.0 x y a b)
        | inr a ↦ holds_right y (cycle_boundary (cell_at s) k) (spread (cycle_boundary (cell_at s)) ks) (cycles_trans ks d.1 x y a b)
      ]

  pub bounds_trans : (t : Figure) → T (figure_ok (cell_at s) t) → (x y : ℕ) → T (bounds (cell_at s) x t) → T (bounds_at (cell_at s) y (cell_at s x))
      → T (bounds (cell_at s) y t)
  bounds_trans (vertex p) c x y t b = t
  bounds_trans (open_edge u w bs) c x y t b =
      let d = both (is_vertex (cell_at s u)) (is_vertex (cell_at s w) && all within bs) c in
      let e = both (is_vertex (cell_at s w)) (all within bs) d.1 in
      absurd (elim (cases (eqb x u) (eqb x w || false) t) [
        | inl h ↦ vertex_holds_none y (cell_at s x) (subst (λ (v : ℕ). T (is_vertex (cell_at s v))) (sym (eqb→eq x u h)) d.0) b
        | inr h ↦ elim (cases (eqb x w) false h)
            [ inl k ↦ vertex_holds_none y (cell_at s x) (subst (λ (v : ℕ). T (is_vertex (cell_at s v))) (sym (eqb→eq x w k)) e.0) b | inr k ↦ k ]
      ])
  bounds_trans (closed_edge bs) c x y t b = t
  bounds_trans (face ks) c x y t b = cycles_trans ks c x y t b

  -- so a cell rests on another exactly if its boundary holds it
  pub rests_bounds : (x z : ℕ) → RestsOn (cell_at s) x z → T (bounds_at (cell_at s) x (cell_at s z))
  rests_bounds x z (holding h) = h
  rests_bounds x z (through {y = y} h r) = go (cell_at s z) refl h (rests_bounds x y r)
    where
      go : (o : Option Figure) → cell_at s z ≡ o → T (bounds_at (cell_at s) y o) → T (bounds_at (cell_at s) x (cell_at s y)) → T (bounds_at (cell_at s) x o)
      go none q t b = absurd t
      go (some t) q u b = bounds_trans t (S.figures z t q) y x u b

-- ---- the test for resting
rests_means : (look : Look) (n x z : ℕ) → T (rests look n x z) → RestsOn look x z
rests_means look zero x z t = absurd t
rests_means look (suc n) x z t = go (λ y r. rests_means look n x y r) (boundary_at look (look z)) (λ y h. h) t
  where
    go : ((y : ℕ) → T (rests look n x y) → RestsOn look x y) → (ys : List ℕ) → ((y : ℕ) → T (holds y ys) → T (bounds_at look y (look z)))
        → T (any (λ (y : ℕ). eqb x y || rests look n x y) ys) → RestsOn look x z
    go m [] k t = absurd t
    go m (y ∷ ys) k t = elim (cases (eqb x y || rests look n x y) (any (λ (y : ℕ). eqb x y || rests look n x y) ys) t) [
      | inl a ↦ elim (cases (eqb x y) (rests look n x y) a) [
        | inl e ↦ holding (subst (λ (v : ℕ). T (bounds_at look v (look z))) (sym (eqb→eq x y e)) (k y (holds_first y ys)))
        | inr r ↦ through (k y (holds_first y ys)) (m y r)
      ]
      | inr b ↦ go m ys (λ w h. k w (or_right (eqb w y) (holds w ys) h)) b
    ]

-- what the boundary holds, it rests on in one step
holds_any : (look : Look) (n x : ℕ) (ys : List ℕ) → T (holds x ys) → T (any (λ (y : ℕ). eqb x y || rests look n x y) ys)
holds_any look n x [] t = t
holds_any look n x (y ∷ ys) t = elim (cases (eqb x y) (holds x ys) t) [
  | inl a ↦ or_left (eqb x y || rests look n x y) _ (or_left (eqb x y) (rests look n x y) a)
  | inr b ↦ or_right (eqb x y || rests look n x y) _ (holds_any look n x ys b)
]

pub bounds_rests : (s : Sheet) (x z : ℕ) → T (bounds_at (cell_at s) x (cell_at s z)) → T (rests (cell_at s) (length s.cells) x z)
bounds_rests s x z t = go s.cells t
  where
    go : (cs : List LiveCell) → T (bounds_at (lookup cs) x (lookup cs z)) → T (rests (lookup cs) (length cs) x z)
    go [] t = t
    go (c ∷ cs) t = holds_any (lookup (c ∷ cs)) (length cs) x (boundary_at (lookup (c ∷ cs)) (lookup (c ∷ cs) z)) t

-- of a sound drawing the test is exact
pub rests_exact : (s : Sheet) → Sound s → (x z : ℕ) → T (rests (cell_at s) (length s.cells) x z) ↔ RestsOn (cell_at s) x z
rests_exact s S x z = (rests_means (cell_at s) (length s.cells) x z, λ r. bounds_rests s x z (rests_bounds s S x z r))

-- ---- the delete
module _ (s : Sheet) (S : Sound s) (i : ℕ) where
  abbrev stay : ℕ → Bool
  stay j = not (goes s i j)

  left_at : (j : ℕ) → Look' stay as_it_is [] s j ≡ cond (stay j) (cell_at s j) none
  left_at j = lookup_rebuild stay as_it_is [] s j ∙ go (cond (stay j) (cell_at s j) none)
    where
      go : (o : Option Figure) → or_else (changed (as_it_is j) o) none ≡ o
      go none = refl
      go (some t) = refl

  pub deleted_sound : T (leb (deleted s i).next ids_end) → T (ceilings (deleted s i).cells) → Sound (deleted s i)
  unfolding deleted
  deleted_sound seven eight = rebuild_sound stay as_it_is [] s S seven eight
      (λ j t k e. shape_frame (cell_at s) (Look' stay as_it_is [] s) t (agree j t k e) (S.figures j t e)) tt
    where
      agree : (j : ℕ) (t : Figure) → T (stay j) → cell_at s j ≡ some t → (x : ℕ) → T (bounds (cell_at s) x t) → Look' stay as_it_is [] s x ≡ cell_at s x
      agree j t k e x h = left_at x ∙ rw (go (goes s i x) refl)
        where
          -- were x taken, the boundary of t would hold i
          held : T (goes s i x) → T (bounds (cell_at s) i t)
          held g = elim (cases (eqb i x) (rests (cell_at s) (length s.cells) i x) g) [
            | inl q ↦ subst (λ (y : ℕ). T (bounds (cell_at s) y t)) (sym (eqb→eq i x q)) h
            | inr b ↦ bounds_trans s S t (S.figures j t e) x i h (rests_bounds s S i x (rests_means (cell_at s) (length s.cells) i x b))
          ]

          go : (b : Bool) → goes s i x ≡ b → goes s i x ≡ false
          go false q = q
          go true q =
              absurd (lib.Dec.T_not (goes s i j) k
              (or_right (eqb i j) (rests (cell_at s) (length s.cells) i j)
              (bounds_rests s i j (subst (λ (o : Option Figure). T (bounds_at (cell_at s) i o)) (sym e) (held (truth q))))))

  pub deleted_took : T (is_live (cell_at s i)) → Took s (deleted s i) i
  unfolding deleted
  deleted_took l j = (λ h. gone h.0 h.1 (goes s i j) refl, λ h. took h)
    where
      gone : live s j → (live (rebuild stay as_it_is [] s) j → ⊥) → (b : Bool) → goes s i j ≡ b → (j ≡ i) ⊎ RestsOn (cell_at s) i j
      gone a d true q = elim (cases (eqb i j) (rests (cell_at s) (length s.cells) i j) (truth q)) [
        | inl e ↦ inl (sym (eqb→eq i j e))
        | inr b ↦ inr (rests_means (cell_at s) (length s.cells) i j b)
      ]
      gone a d false q =
          let e : Look' stay as_it_is [] s j ≡ cell_at s j = left_at j ∙ rw q in
          absurd (d (subst (λ (o : Option Figure). T (is_live o)) (sym e) a))

      dead : T (goes s i j) → live (rebuild stay as_it_is [] s) j → ⊥
      dead g a =
          let e : Look' stay as_it_is [] s j ≡ none = left_at j ∙ rw (true_of (goes s i j) g) in
          subst (λ (o : Option Figure). T (is_live o)) e a

      bounded_live : (o : Option Figure) → T (bounds_at (cell_at s) i o) → T (is_live o)
      bounded_live none t = t
      bounded_live (some u) t = tt

      took : (j ≡ i) ⊎ RestsOn (cell_at s) i j → live s j × (live (rebuild stay as_it_is [] s) j → ⊥)
      took (inl e) = (subst (λ (x : ℕ). T (is_live (cell_at s x))) (sym e) l, dead (or_left (eqb i j) (rests (cell_at s) (length s.cells) i j) (equal (sym e))))
      took (inr r) = let b = rests_bounds s S i j r in
          (bounded_live (cell_at s j) b, dead (or_right (eqb i j) (rests (cell_at s) (length s.cells) i j) (bounds_rests s i j b)))

pub delete_sound : (i : ℕ) → KeepsSound (delete i)
unfolding result
delete_sound i s S q = deleted_sound s S i q.seven q.eight
