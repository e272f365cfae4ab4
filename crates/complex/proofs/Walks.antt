-- Walks along halfedges. Assumes nothing.
use Prim.Native.Nat.{ℕ, zero, suc, ◌+◌, ◌≤◌, ◌<◌}
use mathlib.Core.Path.{◌≡◌, refl, sym, ap, ◌∙◌, subst}
use mathlib.Core.Logic.{◌⊎◌, inl, inr}
use mathlib.Core.Bool.{Bool, true, false, not, ◌&&◌, ◌||◌, cond}
use mathlib.Core.List.{List, [], ◌∷◌, ◌++◌, append-nil}
use lib.ListN.{length, take, drop, take-append-drop}
use lib.Dec.{T, eqb, eqb→eq}
use Rattle.number.specs.Readers.{spread}
use Rattle.complex.specs.Lists.{all, rotated}
use Rattle.complex.specs.Cells.{Halfedge, Look, is_open, is_closed, same, tail_of, head_of}
use Rattle.complex.specs.Sound.{Walk, leads, joins}
use Rattle.complex.proofs.Bools.{both, pair, cases, or_left, or_right, equal}

pub walk_of : (look : Look) (u : ℕ) (hs : List Halfedge) (w : ℕ) → T (leads look u hs w) → Walk look u hs w
walk_of look u [] w t = eqb→eq u w t
walk_of look u (h ∷ hs) w t =
    let b = both (is_open (look h.edge)) (eqb u (tail_of look h) && leads look (head_of look h) hs w) t in
    let d = both (eqb u (tail_of look h)) (leads look (head_of look h) hs w) b.1 in
    (b.0, eqb→eq u (tail_of look h) d.0, walk_of look (head_of look h) hs w d.1)

pub walk_leads : (look : Look) (u : ℕ) (hs : List Halfedge) (w : ℕ) → Walk look u hs w → T (leads look u hs w)
walk_leads look u [] w e = equal e
walk_leads look u (h ∷ hs) w k =
    pair (is_open (look h.edge)) (eqb u (tail_of look h) && leads look (head_of look h) hs w) k.0
    (pair (eqb u (tail_of look h)) (leads look (head_of look h) hs w) (equal k.1) (walk_leads look (head_of look h) hs w k.2))

-- ---- joining and splitting
pub walk_append : (look : Look) (u : ℕ) (xs : List Halfedge) (m : ℕ) (ys : List Halfedge) (w : ℕ) → Walk look u xs m → Walk look m ys w
    → Walk look u (xs ++ ys) w
walk_append look u [] m ys w e k = subst (λ (v : ℕ). Walk look v ys w) (sym e) k
walk_append look u (h ∷ xs) m ys w j k = (j.0, j.1, walk_append look (head_of look h) xs m ys w j.2 k)

pub walk_split : (look : Look) (u : ℕ) (xs ys : List Halfedge) (w : ℕ) → Walk look u (xs ++ ys) w → (m : ℕ) × Walk look u xs m × Walk look m ys w
walk_split look u [] ys w k = (u, refl, k)
walk_split look u (h ∷ xs) ys w k =
    let r = walk_split look (head_of look h) xs ys w k.2 in
    (r.0, (k.0, k.1, r.1), r.2)

-- ---- path substitution: a map of vertices, and a walk for each halfedge
module _ (look look' : Look) (r : ℕ → ℕ) (σ : Halfedge → List Halfedge)
    (f : (h : Halfedge) → T (is_open (look h.edge)) → Walk look' (r (tail_of look h)) (σ h) (r (head_of look h))) where
  pub walk_through : (u : ℕ) (hs : List Halfedge) (w : ℕ) → Walk look u hs w → Walk look' (r u) (spread σ hs) (r w)
  walk_through u [] w e = ap r e
  walk_through u (h ∷ hs) w k =
      walk_append look' (r u) (σ h) (r (head_of look h)) (spread σ hs) (r w)
      (subst (λ (v : ℕ). Walk look' (r v) (σ h) (r (head_of look h))) (sym k.1) (f h k.0))
      (walk_through (head_of look h) hs w k.2)

-- ---- closed walks, from anywhere
abbrev pub Round : Look → List Halfedge → Type 0
Round look hs = (u : ℕ) × Walk look u hs u

pub round_swap : (look : Look) (xs ys : List Halfedge) → Round look (xs ++ ys) → Round look (ys ++ xs)
round_swap look xs ys k =
    let r = walk_split look k.0 xs ys k.0 k.1 in
    (r.0, walk_append look r.0 ys k.0 xs r.0 r.2 r.1)

pub round_rotated : (look : Look) (n : ℕ) (hs : List Halfedge) → Round look hs → Round look (rotated n hs)
round_rotated look n hs k = round_swap look (take n hs) (drop n hs) (subst (Round look) (sym (take-append-drop n hs)) k)

-- ---- what `joins` says
abbrev pub Ring : Look → List Halfedge → Type 0
Ring look [] = ⊥
Ring look (h ∷ hs) = T (is_closed (look h.edge)) × T (all (same h) hs)

abbrev pub Some : List Halfedge → Type 0
Some [] = ⊥
Some (h ∷ hs) = Unit {0}

pub joins_cases : (look : Look) (hs : List Halfedge) → T (joins look hs) → (Some hs × Round look hs) ⊎ Ring look hs
joins_cases look [] t = absurd t
joins_cases look (h ∷ hs) t = elim (cases (leads look (tail_of look h) (h ∷ hs) (tail_of look h)) (is_closed (look h.edge) && all (same h) hs) t) [
  | inl l ↦ inl (tt, (tail_of look h, walk_of look (tail_of look h) (h ∷ hs) (tail_of look h) l))
  | inr c ↦ inr (both (is_closed (look h.edge)) (all (same h) hs) c)
]

pub round_joins : (look : Look) (hs : List Halfedge) → Some hs → Round look hs → T (joins look hs)
round_joins look [] s k = absurd s
round_joins look (h ∷ hs) s k =
    or_left (leads look (tail_of look h) (h ∷ hs) (tail_of look h)) (is_closed (look h.edge) && all (same h) hs)
    (walk_leads look (tail_of look h) (h ∷ hs) (tail_of look h) (subst (λ (v : ℕ). Walk look v (h ∷ hs) v) k.1.1 k.1))

pub ring_joins : (look : Look) (hs : List Halfedge) → Ring look hs → T (joins look hs)
ring_joins look [] r = absurd r
ring_joins look (h ∷ hs) r =
    or_right (leads look (tail_of look h) (h ∷ hs) (tail_of look h)) (is_closed (look h.edge) && all (same h) hs)
    (pair (is_closed (look h.edge)) (all (same h) hs) r.0 r.1)
