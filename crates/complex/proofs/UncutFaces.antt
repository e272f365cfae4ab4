-- 0E at an edge whose two opposite steps are in two faces, or in one cycle: soundness and shift. Assumes nothing.
use Prim.Native.Nat.{ℕ, zero, suc, ◌+◌, ◌-◌, ◌≤◌, ◌<◌}
use native.Mathlib.Omega.{arith}
use mathlib.Core.Path.{◌≡◌, refl, sym, ap, ◌∙◌, subst}
use mathlib.Core.Logic.{◌⊎◌, inl, inr}
use mathlib.Core.Bool.{Bool, true, false, not, ◌&&◌, ◌||◌, cond, beq}
use mathlib.Core.List.{List, [], ◌∷◌, ◌++◌, map, append_assoc}
use mathlib.Core.Option.{Option, none, some}
use lib.ListN.{length, get_or, take, drop, set, length-append, length-set}
use lib.Dec.{T, eqb, leb, eqb→eq, eqb_refl, ltb→lt}
use borrow.Author.Tests.{eq-eqb, ne_eqb, eqb-true, eqb-false}
use Rattle.coordinate.specs.declared.Position.{Position}
use Rattle.coordinate.specs.Bounds.{within}
use Rattle.complex.specs.Lists.{all, places, one, without}
use Rattle.complex.specs.Cells.{Halfedge, Cycle, lone, path, Figure, vertex, open_edge, closed_edge, face, Sheet, Look, lookup, is_vertex, is_open, is_edge}
use Rattle.complex.specs.Cells.{is_face, start_of, end_of, cycles_of, steps_of, same, tail_of, head_of, flipped, cell_at}
use Rattle.complex.specs.Sound.{Walk, ids_end, cycle_ok, figure_ok, ceilings, joins, over}
use Rattle.complex.specs.Edits.{keep_ids, reshape, rebuild, replaced, others, neither}
use Rattle.complex.specs.Uses.{Use, uses_of}
use Rattle.complex.specs.Cut.{no_cycle, no_step}
use Rattle.complex.specs.Uncut.{opposite, path_or, cycle_of_use, following}
use Rattle.complex.proofs.Gains.{gain, loss, Even}
use Rattle.complex.proofs.Bools.{truth, pair, equal, all_append, not_of}
use Rattle.complex.proofs.Bools.{both as parts}
use Rattle.complex.proofs.Delete.{Edges, joins_edges}
use Rattle.complex.proofs.Sums.{length_but_one}
use Rattle.complex.proofs.Euler.{over_put}
use Rattle.complex.proofs.Faces.{without_one, without_more}
use Rattle.complex.proofs.Edges.{edge_of, edge_no_vertex}
use lib.Seq.{get_or-drop, get_or-take, length-take-le}
use lib.ListN.{length-drop, length-take}
use Rattle.complex.proofs.Walks.{walk_append, Round, Ring, Some, joins_cases, round_joins}
use Rattle.complex.proofs.Keep.{Sound, Look', rebuild_sound}
use Rattle.complex.proofs.Adds.{stays_at}
use Rattle.complex.proofs.Split.{all_get_d, apart, ring_no_corner, ends_vertices}
use Rattle.complex.proofs.Every.{Every, every_left, every_right, every_both}
use Rattle.complex.proofs.UnglueVertex.{open_at}
use Rattle.complex.proofs.UncutEdge.{every_from, Real, own_cells, uses_real, use_listed, following_walk, walk_stays, joins_stay, all_but_set}
use Rattle.complex.proofs.UncutEdge.{all_but_without}

-- the two uses, as they stand
module _ (s : Sheet) (S : Sound s) (e : ℕ) (E : T (is_edge (cell_at s e))) (u w : Use) (U : uses_of s.cells e ≡ u ∷ w ∷ []) where
  real : Every (Real (cell_at s) e) (u ∷ w ∷ [])
  real = subst (Every (Real (cell_at s) e)) U (uses_real (cell_at s) e s.cells (own_cells (cell_at s) 0 s.cells s.next S.rises (λ i t q. q)))

  abbrev pub Listed : Use → Type 0
  Listed x = (x ≡ u) ⊎ (x ≡ w)

  pub listed : (f : ℕ) (ks : List Cycle) → cell_at s f ≡ some (face ks) → (c : ℕ) → c < length ks → (j : ℕ) → j < length (steps_of (get_or ks c no_cycle))
      → (get_or (steps_of (get_or ks c no_cycle)) j no_step).edge ≡ e
      → Listed (record { face = f; cycle = c; step = j; halfedge = get_or (steps_of (get_or ks c no_cycle)) j no_step })
  listed f ks q c l j m z = use_listed Listed e s.cells (subst (Every Listed) (sym U) (inl refl, (inr refl, tt))) f ks q c l j m z

  pub real_u : Real (cell_at s) e u
  real_u = real.0

  pub real_w : Real (cell_at s) e w
  real_w = real.1.0

  -- a cycle that neither use is in has no step of e
  pub avoids : (f : ℕ) (ks : List Cycle) → cell_at s f ≡ some (face ks) → (c : ℕ) → c < length ks → ((f ≡ u.face) → (c ≡ u.cycle) → ⊥)
      → ((f ≡ w.face) → (c ≡ w.cycle) → ⊥)
      → Every (λ (h : Halfedge). h.edge ≡ e → ⊥) (steps_of (get_or ks c no_cycle))
  avoids f ks q c l a b = every_from (λ (h : Halfedge). h.edge ≡ e → ⊥) (steps_of (get_or ks c no_cycle)) no_step (λ j m z. elim (listed f ks q c l j m z) [
    | inl x ↦ a (ap (λ (y : Use). y.face) x) (ap (λ (y : Use). y.cycle) x)
    | inr x ↦ b (ap (λ (y : Use). y.face) x) (ap (λ (y : Use). y.cycle) x)
  ])

pub all_by : {A : Type 0} (p : A → Bool) (xs : List A) (d : A) → ((m : ℕ) → m < length xs → T (p (get_or xs m d))) → T (all p xs)
all_by p [] d h = tt
all_by p (x ∷ xs) d h = pair (p x) (all p xs) (h 0 (omega arith)) (all_by p xs d (λ m l. h (suc m) (omega arith)))

-- ---- e goes, perhaps a face goes, and the face f gets other cycles
module _ (s : Sheet) (S : Sound s) (e : ℕ) (E : T (is_edge (cell_at s e))) (p : ℕ → Bool) (f : ℕ) (ks : List Cycle) (at : cell_at s f ≡ some (face ks))
    (ks' : List Cycle)
    (keeps : (x : ℕ) → (x ≡ e → ⊥) → (T (is_vertex (cell_at s x)) ⊎ T (is_edge (cell_at s x))) → T (p x)) where
  abbrev pub lookˣ : Look
  lookˣ = Look' p (replaced f (face ks')) [] s

  pub no_face : (x : ℕ) → (T (is_vertex (cell_at s x)) ⊎ T (is_edge (cell_at s x))) → f ≡ x → ⊥
  no_face x k z = go (subst (λ (i : ℕ). cell_at s i ≡ some (face ks)) z at) k
    where
      go : cell_at s x ≡ some (face ks) → (T (is_vertex (cell_at s x)) ⊎ T (is_edge (cell_at s x))) → ⊥
      go q (inl v) = subst (λ (o : Option Figure). T (is_vertex o)) q v
      go q (inr v) = subst (λ (o : Option Figure). T (is_edge o)) q v

  pub same_at : (x : ℕ) → (x ≡ e → ⊥) → (T (is_vertex (cell_at s x)) ⊎ T (is_edge (cell_at s x))) → lookˣ x ≡ cell_at s x
  same_at x n k = go (cell_at s x) refl k
    where
      go : (o : Option Figure) → cell_at s x ≡ o → (T (is_vertex o) ⊎ T (is_edge o)) → lookˣ x ≡ o
      go none q (inl v) = absurd v
      go none q (inr v) = absurd v
      go (some t) q k = stays_at p (replaced f (face ks')) [] s x t (keeps x n (subst (λ (o : Option Figure). T (is_vertex o) ⊎ T (is_edge o)) (sym q) k)) q
          ∙ rw (ne_eqb f x (no_face x (subst (λ (o : Option Figure). T (is_vertex o) ⊎ T (is_edge o)) (sym q) k)))

  no_vertex : (x : ℕ) → T (is_vertex (cell_at s x)) → x ≡ e → ⊥
  no_vertex x v z = edge_no_vertex (cell_at s e) E (subst (λ (i : ℕ). T (is_vertex (cell_at s i))) z v)

  pub vertex_stays : (x : ℕ) → T (is_vertex (cell_at s x)) → T (is_vertex (lookˣ x))
  vertex_stays x v = subst (λ (o : Option Figure). T (is_vertex o)) (sym (same_at x (no_vertex x v) (inl v))) v

  pub steps_stay : (hs : List Halfedge) → Edges s S hs → Every (λ (h : Halfedge). h.edge ≡ e → ⊥) hs
      → Every (λ (h : Halfedge). lookˣ h.edge ≡ cell_at s h.edge) hs
  steps_stay [] a b = tt
  steps_stay (h ∷ hs) a b = (same_at h.edge b.0 (inr (edge_of (cell_at s h.edge) a.0)), steps_stay hs a.1 b.1)

  pub cycle_left : (k : Cycle) → T (cycle_ok (cell_at s) k) → Every (λ (h : Halfedge). h.edge ≡ e → ⊥) (steps_of k) → T (cycle_ok lookˣ k)
  cycle_left (lone v) t a = vertex_stays v t
  cycle_left (path hs) t a = joins_stay (cell_at s) lookˣ hs (steps_stay hs (joins_edges s S hs t) a) t

  pub refaced_sound : T (leb (rebuild p (replaced f (face ks')) [] s).next ids_end) → T (ceilings (rebuild p (replaced f (face ks')) [] s).cells)
      → ((j : ℕ) (ls : List Cycle) → T (p j) → (j ≡ f → ⊥) → cell_at s j ≡ some (face ls) → (c : ℕ) → c < length ls
      → Every (λ (h : Halfedge). h.edge ≡ e → ⊥) (steps_of (get_or ls c no_cycle)))
      → T (all (cycle_ok lookˣ) ks') → Sound (rebuild p (replaced f (face ks')) [] s)
  refaced_sound seven eight avoid here = rebuild_sound p (replaced f (face ks')) [] s S seven eight (λ j t k q. old j t k q (S.figures j t q) (eqb f j) refl)
      tt
    where
      shape : (j : ℕ) (t : Figure) → T (p j) → cell_at s j ≡ some t → (j ≡ f → ⊥) → T (figure_ok (cell_at s) t) → T (figure_ok lookˣ t)
      shape j (vertex r) k q n o = o
      shape j (open_edge a b bs) k q n o =
          let x = parts (is_vertex (cell_at s a)) (is_vertex (cell_at s b) && all within bs) o in
          let y = parts (is_vertex (cell_at s b)) (all within bs) x.1 in
          pair (is_vertex (lookˣ a)) (is_vertex (lookˣ b) && all within bs) (vertex_stays a x.0)
          (pair (is_vertex (lookˣ b)) (all within bs) (vertex_stays b y.0) y.1)
      shape j (closed_edge bs) k q n o = o
      shape j (face ls) k q n o = all_by (cycle_ok lookˣ) ls no_cycle
          (λ m l. cycle_left (get_or ls m no_cycle) (all_get_d (cycle_ok (cell_at s)) ls m no_cycle o l) (avoid j ls k n q m l))

      old : (j : ℕ) (t : Figure) → T (p j) → cell_at s j ≡ some t → T (figure_ok (cell_at s) t) → (b : Bool) → eqb f j ≡ b
          → T (figure_ok lookˣ (cond b (face ks') t))
      old j t k q o true z = here
      old j t k q o false z = shape j t k q (λ w. eqb-false f j z (sym w)) o

  pub refaced_over : (g : Figure → ℕ) → T (p f) → over g (rebuild p (replaced f (face ks')) [] s).cells + g (face ks) ≡ over g (keep_ids p s.cells)
      + g (face ks')
  refaced_over g k = let a = over_put g p f (face ks') (face ks) [] s S k at in omega arith

-- the steps but one of a cycle
pub following_length : (hs : List Halfedge) (n : ℕ) → n < length hs → length (drop (suc n) hs ++ take n hs) + 1 ≡ length hs
following_length hs n l = let x = length-append (drop (suc n) hs) (take n hs) in let y = length-drop (suc n) hs in let z = length-take-le n hs (omega arith) in
    omega arith

pub following_avoids : (Q : Halfedge → Type 0) (hs : List Halfedge) (n : ℕ) → n < length hs → ((j : ℕ) → j < length hs → (j ≡ n → ⊥) → Q (get_or hs j no_step))
    → Every Q (drop (suc n) hs ++ take n hs)
following_avoids Q hs n l h =
    every_both Q (drop (suc n) hs) (take n hs)
    (every_from Q (drop (suc n) hs) no_step (λ j m. let a : suc n + j < length hs = (let z = length-drop (suc n) hs in omega arith) in
    subst Q (sym (get_or-drop (suc n) hs j no_step)) (h (suc n + j) a (λ z. omega arith))))
    (every_from Q (take n hs) no_step (λ j m. let a : j < n = (let z = length-take-le n hs (omega arith) in omega arith) in
    subst Q (sym (get_or-take n hs j no_step a)) (h j (omega arith) (λ z. omega arith))))

pub path_or_ok : (look : Look) (v : ℕ) (hs : List Halfedge) → T (is_vertex (look v)) → Walk look v hs v → T (cycle_ok look (path_or v hs))
path_or_ok look v [] t k = t
path_or_ok look v (h ∷ hs) t k = round_joins look (h ∷ hs) tt (v, k)

pub walk_edges : (s : Sheet) (S : Sound s) (u : ℕ) (hs : List Halfedge) (w : ℕ) → Walk (cell_at s) u hs w → Edges s S hs
walk_edges s S u [] w k = tt
walk_edges s S u (h ∷ hs) w k = (inl k.0, walk_edges s S (head_of (cell_at s) h) hs w k.2)

-- a use, with its face's cycles named
abbrev pub Placed : Look → ℕ → Use → Type 0
Placed look e x = (look x.face ≡ some (face (cycles_of (look x.face)))) × (x.cycle < length (cycles_of (look x.face)))
    × (x.step < length (cycle_of_use look x)) × (get_or (cycle_of_use look x) x.step no_step ≡ x.halfedge) × (x.halfedge.edge ≡ e)

pub placed_use : (look : Look) (e : ℕ) (x : Use) → Real look e x → Placed look e x
placed_use look e x r =
    let z : r.0 ≡ cycles_of (look x.face) = sym (ap cycles_of r.1) in (
      r.1 ∙ ap (λ (ks : List Cycle). some (face ks)) z,
      subst (λ (ks : List Cycle). x.cycle < length ks) z r.2,
      subst (λ (ks : List Cycle). x.step < length (steps_of (get_or ks x.cycle no_cycle))) z r.3,
      subst (λ (ks : List Cycle). get_or (steps_of (get_or ks x.cycle no_cycle)) x.step no_step ≡ x.halfedge) z r.4,
      r.5,
    )

-- the cycle of a use of an open edge goes round
pub round_of : (s : Sheet) → Sound s → (e : ℕ) → T (is_open (cell_at s e)) → (x : Use) → Placed (cell_at s) e x → Round (cell_at s) (cycle_of_use (cell_at s) x)
round_of s S e o x r = go (get_or (cycles_of (cell_at s x.face)) x.cycle no_cycle)
    (all_get_d (cycle_ok (cell_at s)) (cycles_of (cell_at s x.face)) x.cycle no_cycle (S.figures x.face (face (cycles_of (cell_at s x.face))) r.0)
    r.1) r.2 r.3
  where
    go : (k : Cycle) → T (cycle_ok (cell_at s) k) → x.step < length (steps_of k) → get_or (steps_of k) x.step no_step ≡ x.halfedge → Round (cell_at s) (steps_of k)
    go (lone v) t l z = absurd (omega arith)
    go (path hs) t l z = elim (joins_cases (cell_at s) hs t) [
      | inl w ↦ w.1
      | inr g ↦ absurd (ring_no_corner (cell_at s) hs x.step g l
          (subst (λ (i : ℕ). T (is_open (cell_at s i))) (sym (ap (λ (h : Halfedge). h.edge) z ∙ r.4)) o))
    ]

-- two steps of one edge, opposite: each begins where the other ends
pub opposite_ends : (look : Look) (u w : Use) → u.halfedge.edge ≡ w.halfedge.edge → T (opposite u w)
    → (tail_of look u.halfedge ≡ head_of look w.halfedge) × (tail_of look w.halfedge ≡ head_of look u.halfedge)
opposite_ends look u w e t = go u.halfedge.backward w.halfedge.backward t
  where
    go : (x y : Bool) → T (not (beq x y))
        → (cond x (end_of (look u.halfedge.edge)) (start_of (look u.halfedge.edge))
        ≡ cond y (start_of (look w.halfedge.edge)) (end_of (look w.halfedge.edge)))
        × (cond y (end_of (look w.halfedge.edge)) (start_of (look w.halfedge.edge))
        ≡ cond x (start_of (look u.halfedge.edge)) (end_of (look u.halfedge.edge)))
    go true true t = absurd t
    go true false t = (ap (λ (i : ℕ). end_of (look i)) e, ap (λ (i : ℕ). start_of (look i)) (sym e))
    go false true t = (ap (λ (i : ℕ). start_of (look i)) e, ap (λ (i : ℕ). end_of (look i)) (sym e))
    go false false t = absurd t

pub head_vertex : (s : Sheet) → Sound s → (h : Halfedge) → T (is_open (cell_at s h.edge)) → T (is_vertex (cell_at s (head_of (cell_at s) h)))
head_vertex s S h o = let v = ends_vertices s S h.edge o in go h.backward v.0 v.1
  where
    go : (b : Bool) → T (is_vertex (cell_at s (start_of (cell_at s h.edge)))) → T (is_vertex (cell_at s (end_of (cell_at s h.edge))))
        → T (is_vertex (cell_at s (cond b (start_of (cell_at s h.edge)) (end_of (cell_at s h.edge)))))
    go true a b = a
    go false a b = b

-- ---- in two faces
module _ (s : Sheet) (S : Sound s) (e : ℕ) (u w : Use) (U : uses_of s.cells e ≡ u ∷ w ∷ []) (E : T (is_edge (cell_at s e))) (opp : T (opposite u w))
    (ne : u.face ≡ w.face → ⊥) where
  ru : Placed (cell_at s) e u
  ru = placed_use (cell_at s) e u (real_u s S e E u w U)

  rw' : Placed (cell_at s) e w
  rw' = placed_use (cell_at s) e w (real_w s S e E u w U)

  abbrev ks1 : List Cycle
  ks1 = cycles_of (cell_at s u.face)

  abbrev ks2 : List Cycle
  ks2 = cycles_of (cell_at s w.face)

  abbrev p₂ : ℕ → Bool
  p₂ = neither e w.face

  keeps₂ : (x : ℕ) → (x ≡ e → ⊥) → (T (is_vertex (cell_at s x)) ⊎ T (is_edge (cell_at s x))) → T (p₂ x)
  keeps₂ x n k = pair (others e x) (others w.face x) (rw (ne_eqb e x (λ z. n (sym z))) tt)
      (rw (ne_eqb w.face x (λ z. no_face s S e E p₂' w.face ks2 rw'.0 ks2 (λ y a b. tt) x k z)) tt)
    where
      p₂' : ℕ → Bool
      p₂' i = true

  -- the cycles of the two faces but those of the uses, and all cycles of other faces
  pub others_avoid : (j : ℕ) (ls : List Cycle) → T (p₂ j) → (j ≡ u.face → ⊥) → cell_at s j ≡ some (face ls) → (c : ℕ) → c < length ls
      → Every (λ (h : Halfedge). h.edge ≡ e → ⊥) (steps_of (get_or ls c no_cycle))
  others_avoid j ls k n q c l =
      avoids s S e E u w U j ls q c l (λ z y. n z) (λ z y. lib.Dec.T_not (eqb w.face j) (parts (others e j) (others w.face j) k).1 (equal (sym z)))

  -- each use is the only one in its cycle
  pub u_only : (j : ℕ) → j < length (cycle_of_use (cell_at s) u) → (j ≡ u.step → ⊥) → (get_or (cycle_of_use (cell_at s) u) j no_step).edge ≡ e → ⊥
  u_only j l n z = elim (listed s S e E u w U u.face ks1 ru.0 u.cycle ru.1 j l z)
      [ inl x ↦ n (ap (λ (y : Use). y.step) x) | inr x ↦ ne (ap (λ (y : Use). y.face) x) ]

  pub w_only : (j : ℕ) → j < length (cycle_of_use (cell_at s) w) → (j ≡ w.step → ⊥) → (get_or (cycle_of_use (cell_at s) w) j no_step).edge ≡ e → ⊥
  w_only j l n z = elim (listed s S e E u w U w.face ks2 rw'.0 w.cycle rw'.1 j l z)
      [ inl x ↦ ne (sym (ap (λ (y : Use). y.face) x)) | inr x ↦ n (ap (λ (y : Use). y.step) x) ]

  module _ (ks' : List Cycle) where
    abbrev look₂ : Look
    look₂ = lookˣ s S e E p₂ u.face ks1 ru.0 ks' keeps₂

    first_left : (m : ℕ) → m < length ks1 → (m ≡ u.cycle → ⊥) → T (cycle_ok look₂ (get_or ks1 m no_cycle))
    first_left m l n =
        cycle_left s S e E p₂ u.face ks1 ru.0 ks' keeps₂ (get_or ks1 m no_cycle)
        (all_get_d (cycle_ok (cell_at s)) ks1 m no_cycle (S.figures u.face (face ks1) ru.0) l)
        (avoids s S e E u w U u.face ks1 ru.0 m l (λ z y. n y) (λ z y. ne z))

    second_left : (m : ℕ) → m < length ks2 → (m ≡ w.cycle → ⊥) → T (cycle_ok look₂ (get_or ks2 m no_cycle))
    second_left m l n =
        cycle_left s S e E p₂ u.face ks1 ru.0 ks' keeps₂ (get_or ks2 m no_cycle)
        (all_get_d (cycle_ok (cell_at s)) ks2 m no_cycle (S.figures w.face (face ks2) rw'.0) l)
        (avoids s S e E u w U w.face ks2 rw'.0 m l (λ z y. ne (sym z)) (λ z y. n y))

    left_of_two : T (all (cycle_ok look₂) (without (one w.cycle) 0 ks2))
    left_of_two = all_but_without (cycle_ok look₂) w.cycle 0 ks2 no_cycle (λ m l n. second_left m l (λ z. n (omega arith)))

  -- closed: both cycles dropped
  abbrev ks'ᶜ : List Cycle
  ks'ᶜ = without (one u.cycle) 0 ks1 ++ without (one w.cycle) 0 ks2

  pub rings_sound : T (leb (rebuild p₂ (replaced u.face (face ks'ᶜ)) [] s).next ids_end)
      → T (ceilings (rebuild p₂ (replaced u.face (face ks'ᶜ)) [] s).cells) → Sound (rebuild p₂ (replaced u.face (face ks'ᶜ)) [] s)
  rings_sound seven eight =
      refaced_sound s S e E p₂ u.face ks1 ru.0 ks'ᶜ keeps₂ seven eight others_avoid
      (all_append (cycle_ok (look₂ ks'ᶜ)) (without (one u.cycle) 0 ks1) (without (one w.cycle) 0 ks2)
      (all_but_without (cycle_ok (look₂ ks'ᶜ)) u.cycle 0 ks1 no_cycle (λ m l n. first_left ks'ᶜ m l (λ z. n (omega arith)))) (left_of_two ks'ᶜ))

  -- open: what follows one step, then what follows the other
  abbrev merged : Cycle
  merged = path_or (head_of (cell_at s) u.halfedge) (following (cell_at s) u ++ following (cell_at s) w)

  abbrev ks'ᵒ : List Cycle
  ks'ᵒ = set ks1 u.cycle merged ++ without (one w.cycle) 0 ks2

  module _ (o : T (is_open (cell_at s e))) where
    abbrev look₃ : Look
    look₃ = look₂ ks'ᵒ

    part_stays : (x : Use) (r : Placed (cell_at s) e x) → ((j : ℕ) → j < length (cycle_of_use (cell_at s) x) → (j ≡ x.step → ⊥)
        → (get_or (cycle_of_use (cell_at s) x) j no_step).edge ≡ e → ⊥)
        → Walk look₃ (head_of (cell_at s) x.halfedge) (following (cell_at s) x) (tail_of (cell_at s) x.halfedge)
    part_stays x r h =
        let k = following_walk (cell_at s) (cycle_of_use (cell_at s) x) x.step x.halfedge r.2 r.3 (round_of s S e o x r) in
        walk_stays (cell_at s) look₃ (head_of (cell_at s) x.halfedge) (following (cell_at s) x) (tail_of (cell_at s) x.halfedge)
        (steps_stay s S e E p₂ u.face ks1 ru.0 ks'ᵒ keeps₂ (following (cell_at s) x)
        (walk_edges s S (head_of (cell_at s) x.halfedge) (following (cell_at s) x) (tail_of (cell_at s) x.halfedge) k.1)
        (following_avoids (λ (y : Halfedge). y.edge ≡ e → ⊥) (cycle_of_use (cell_at s) x) x.step r.2 h)) k.1

    merged_ok : T (cycle_ok look₃ merged)
    merged_ok =
        let a = part_stays u ru u_only in
        let b = part_stays w rw' w_only in
        let g = opposite_ends (cell_at s) u w (ru.4 ∙ sym rw'.4) opp in
        let v = head_of (cell_at s) u.halfedge in
        let c : Walk look₃ (tail_of (cell_at s) u.halfedge) (following (cell_at s) w) v = subst (λ (x : ℕ). Walk look₃ x (following (cell_at s) w) v)
        (sym g.0) (subst (λ (x : ℕ). Walk look₃ (head_of (cell_at s) w.halfedge) (following (cell_at s) w) x) g.1 b) in
        path_or_ok look₃ v (following (cell_at s) u ++ following (cell_at s) w)
        (vertex_stays s S e E p₂ u.face ks1 ru.0 ks'ᵒ keeps₂ v
        (head_vertex s S u.halfedge (subst (λ (i : ℕ). T (is_open (cell_at s i))) (sym ru.4) o)))
        (walk_append look₃ v (following (cell_at s) u) (tail_of (cell_at s) u.halfedge) (following (cell_at s) w) v a c)

    pub merged_sound : T (leb (rebuild p₂ (replaced u.face (face ks'ᵒ)) [] s).next ids_end)
        → T (ceilings (rebuild p₂ (replaced u.face (face ks'ᵒ)) [] s).cells) → Sound (rebuild p₂ (replaced u.face (face ks'ᵒ)) [] s)
    merged_sound seven eight =
        refaced_sound s S e E p₂ u.face ks1 ru.0 ks'ᵒ keeps₂ seven eight others_avoid
        (all_append (cycle_ok look₃) (set ks1 u.cycle merged) (without (one w.cycle) 0 ks2)
        (all_but_set (cycle_ok look₃) ks1 u.cycle merged no_cycle (λ m l n. first_left ks'ᵒ m l n) merged_ok) (left_of_two ks'ᵒ))

  -- ---- shares
  pub two_less : (g : Figure → ℕ) (t : Figure) → cell_at s e ≡ some t → (ks' : List Cycle)
      → over g (rebuild p₂ (replaced u.face (face ks')) [] s).cells + g (face ks1) + g (face ks2) + g t ≡ over g s.cells + g (face ks')
  two_less g t q ks' =
      let a = refaced_over s S e E p₂ u.face ks1 ru.0 ks' keeps₂ g
      (pair (others e u.face) (others w.face u.face)
      (rw (ne_eqb e u.face (λ z. no_face s S e E (λ (i : ℕ). true) u.face ks1 ru.0 ks1 (λ x y k. tt) e (inr E) (sym z))) tt)
      (rw (ne_eqb w.face u.face (λ z. ne (sym z))) tt)) in
      let k : T (others w.face e) = rw (ne_eqb w.face e (λ z. no_face s S e E (λ (i : ℕ). true) w.face ks2 rw'.0 ks2 (λ x y k. tt) e (inr E) z))
      tt in
      let b = without_more e t (others w.face) (one (face ks2)) s S q k (without_one w.face (face ks2) s S rw'.0) g in
      omega arith

  pub merged_cycles : length ks'ᵒ + 1 ≡ length ks1 + length ks2
  merged_cycles =
      let l = length-append (set ks1 u.cycle merged) (without (one w.cycle) 0 ks2) in
      let m = length-set ks1 u.cycle merged in
      let n = length_but_one no_cycle w.cycle ks2 rw'.1 in
      omega arith

  pub rings_cycles : length ks'ᶜ + 2 ≡ length ks1 + length ks2
  rings_cycles =
      let l = length-append (without (one u.cycle) 0 ks1) (without (one w.cycle) 0 ks2) in
      let m = length_but_one no_cycle u.cycle ks1 ru.1 in
      let n = length_but_one no_cycle w.cycle ks2 rw'.1 in
      omega arith

  pub merged_over : (a b : ℕ) (bs : List Position) → cell_at s e ≡ some (open_edge a b bs) → Even s (rebuild p₂ (replaced u.face (face ks'ᵒ)) [] s)
  merged_over a b bs q = let x = two_less gain (open_edge a b bs) q ks'ᵒ in let y = two_less loss (open_edge a b bs) q ks'ᵒ in let n = merged_cycles in
      omega arith

  pub rings_over : (bs : List Position) → cell_at s e ≡ some (closed_edge bs) → Even s (rebuild p₂ (replaced u.face (face ks'ᶜ)) [] s)
  rings_over bs q = let x = two_less gain (closed_edge bs) q ks'ᶜ in let y = two_less loss (closed_edge bs) q ks'ᶜ in let n = rings_cycles in omega arith
