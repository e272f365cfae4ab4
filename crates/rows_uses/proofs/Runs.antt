-- The steps of a cycle, counted one by one. Assumes nothing.
use Prim.Native.Nat.{ℕ, zero, suc, ◌+◌, ◌≤◌}
use mathlib.Core.Path.{◌≡◌, refl, ap, sym, ◌∙◌}
use mathlib.Core.List.{List, [], ◌∷◌, map}
use mathlib.Core.Bool.{Bool, true, false, ◌||◌, cond}
use native.Mathlib.Omega.{arith}
use lib.Dec.{eqb}
use borrow.Author.Tests.{eq-eqb, ne_eqb}
use lib.ListN.{length, take, get_or, length-map, length-take}
use Rattle.complex.specs.Lists.{any, total}
use Rattle.complex.specs.Cells.{Halfedge, Cycle, lone, path, steps_of}
use Rattle.complex.specs.Uses.{edge_use, step_use, ring_use, lone_use}
use Rattle.store.specs.View.{halfedge_of, width, cycle_of}
use Rattle.rows_uses.specs.declared.Use.{Use}
use Rattle.rows_uses.specs.declared.Use.TheVariants.{Step, Ring, Lone}
use Rattle.rows_uses.specs.Uses.{uses_in}

pub width_some : (c : ℕ) → (c ≡ 0 → ⊥) → width c ≡ c
width_some zero h = absurd (h refl)
width_some (suc c) h = refl

-- ---- how often a cycle uses a cell
module _ (i : ℕ) where
  any_used : (hs : List Halfedge) → ◌≡◌ {A = ℕ} (cond (any (λ (h : Halfedge). eqb i h.edge) hs) 1 0) (cond (eqb (total (edge_use i) hs) 0) 0 1)
  any_used [] = refl
  any_used (h ∷ hs) = go (eqb i h.edge) (any_used hs)
    where
      go : (b : Bool) → ◌≡◌ {A = ℕ} (cond (any (λ (x : Halfedge). eqb i x.edge) hs) 1 0) (cond (eqb (total (edge_use i) hs) 0) 0 1)
          → ◌≡◌ {A = ℕ} (cond (b || any (λ (x : Halfedge). eqb i x.edge) hs) 1 0) (cond (eqb (cond b 1 0 + total (edge_use i) hs) 0) 0 1)
      go true e = sym (rw (ne_eqb (1 + total (edge_use i) hs) 0 (omega arith)))
      go false e =
          let t : total (edge_use i) hs ≡ 0 + total (edge_use i) hs = omega arith in
          e ∙ ap (λ (n : ℕ). cond (eqb n 0) 0 1) t

pub ring_unused : (i n : ℕ) (k : Cycle) → n ≡ step_use i k → n ≡ 0 → 0 ≡ ring_use i k
ring_unused i n (lone v) e z = refl
ring_unused i n (path hs) e z = sym (any_used i hs ∙ rw (eq-eqb (total (edge_use i) hs) 0 (omega arith)))

pub ring_used : (i n : ℕ) (k : Cycle) → n ≡ step_use i k → (n ≡ 0 → ⊥) → 1 ≡ ring_use i k
ring_used i n (lone v) e z = absurd (z e)
ring_used i n (path hs) e z = sym (any_used i hs ∙ rw (ne_eqb (total (edge_use i) hs) 0 (λ g. z (e ∙ g))))

pub lone_unused : (i c : ℕ) (l : List ℕ) → (c ≡ 0 → ⊥) → 0 ≡ lone_use i (cycle_of c l)
lone_unused i zero l h = absurd (h refl)
lone_unused i (suc c) l h = refl

pub lone_use_lem : (i c : ℕ) (l : List ℕ) → c ≡ 0 → cond (eqb i (get_or l 0 0)) 1 0 ≡ lone_use i (cycle_of c l)
lone_use_lem i zero l e = refl
lone_use_lem i (suc c) l e = absurd (omega arith)

-- at most as often as it has places
edges_few : (i : ℕ) (hs : List Halfedge) → total (edge_use i) hs ≤ length hs
edges_few i [] = omega arith
edges_few i (h ∷ hs) = go (eqb i h.edge) (edges_few i hs)
  where
    go : (b : Bool) → total (edge_use i) hs ≤ length hs → cond b 1 0 + total (edge_use i) hs ≤ suc (length hs)
    go true e = omega arith
    go false e = omega arith

one_few : (b : Bool) (c : ℕ) → cond b 1 0 ≤ width c
one_few true zero = omega arith
one_few true (suc c) = omega arith
one_few false c = omega arith

pub uses_few : (u : Use) (i c : ℕ) (l : List ℕ) → uses_in u i (cycle_of c l) ≤ width c
uses_few Step i zero l = omega arith
uses_few Step i (suc c) l =
    omega (arith, edges_few i (map halfedge_of (take (suc c) l)), length-map (take (suc c) l) halfedge_of, length-take (suc c) l)
uses_few Ring i c l = one_few (any (λ (h : Halfedge). eqb i h.edge) (steps_of (cycle_of c l))) c
uses_few Lone i zero l = one_few (eqb i (get_or l 0 0)) 0
uses_few Lone i (suc c) l = omega arith

pub width_pos : (c : ℕ) → 1 ≤ width c
width_pos zero = omega arith
width_pos (suc c) = omega arith
