-- Steps of an edge counted by their direction: together they are its steps. Assumes nothing.
use Prim.Native.Nat.{ℕ, zero, suc, ◌+◌, ◌≤◌}
use mathlib.Core.Path.{◌≡◌, refl, ap}
use mathlib.Core.List.{List, [], ◌∷◌, map}
use mathlib.Core.Bool.{Bool, true, false, cond}
use native.Mathlib.Omega.{arith}
use lib.Dec.{eqb}
use lib.ListN.{length, take, drop, length-map, length-take}
use Rattle.complex.specs.Lists.{total}
use Rattle.complex.specs.Cells.{Halfedge, Cycle, steps_of}
use Rattle.complex.specs.Uses.{edge_use, step_use}
use Rattle.store.specs.View.{halfedge_of, width, width_sum, cycle_of, cycles_from}
use Rattle.rows_sides.specs.Sides.{side_use, forward_use, backward_use, forward_in, backward_in}

pub total_map : {A B : Type 0} (f : B → ℕ) (g : A → B) (l : List A) → total (λ (x : A). f (g x)) l ≡ total f (map g l)
total_map f g [] = refl
total_map f g (x ∷ l) = ap (λ (n : ℕ). f (g x) + n) (total_map f g l)

-- ---- a cycle by its number of steps
module _ (f : Halfedge → ℕ) where
  pub path_total : (c : ℕ) (l : List ℕ) → (c ≡ 0 → ⊥) → (n : ℕ) → n ≡ c → total f (map halfedge_of (take n l)) ≡ total f (steps_of (cycle_of c l))
  path_total zero l h n e = absurd (h refl)
  path_total (suc c) l h n e = ap (λ (k : ℕ). total f (map halfedge_of (take k l))) e

  pub lone_total : (c : ℕ) (l : List ℕ) → c ≡ 0 → 0 ≡ total f (steps_of (cycle_of c l))
  lone_total zero l e = refl
  lone_total (suc c) l e = absurd (omega arith)

  -- at most one for each place
  module _ (one : (h : Halfedge) → f h ≤ 1) where
    few : (hs : List Halfedge) → total f hs ≤ length hs
    few [] = omega arith
    few (h ∷ hs) = let a = one h in let b = few hs in omega arith

    pub cycle_few : (c : ℕ) (l : List ℕ) → total f (steps_of (cycle_of c l)) ≤ width c
    cycle_few zero l = omega arith
    cycle_few (suc c) l = omega (arith, few (map halfedge_of (take (suc c) l)), length-map (take (suc c) l) halfedge_of, length-take (suc c) l)

module _ (e : ℕ) where
  side_one : (y n : ℕ) → y ≤ 1 → n ≤ 1 → (h : Halfedge) → side_use y n e h ≤ 1
  side_one y n hy hn h = go (eqb e h.edge) h.backward
    where
      go : (a b : Bool) → cond a (cond b y n) 0 ≤ 1
      go true true = hy
      go true false = hn
      go false b = omega arith

  pub forward_one : (h : Halfedge) → forward_use e h ≤ 1
  forward_one = side_one 0 1 (omega arith) (omega arith)

  pub backward_one : (h : Halfedge) → backward_use e h ≤ 1
  backward_one = side_one 1 0 (omega arith) (omega arith)

  -- ---- both directions together
  both_use : (h : Halfedge) → forward_use e h + backward_use e h ≡ edge_use e h
  both_use h = go (eqb e h.edge) h.backward
    where
      go : (a b : Bool) → cond a (cond b 0 1) 0 + cond a (cond b 1 0) 0 ≡ cond a 1 0
      go true true = refl
      go true false = refl
      go false b = refl

  steps_both : (hs : List Halfedge) → total (forward_use e) hs + total (backward_use e) hs ≡ total (edge_use e) hs
  steps_both [] = refl
  steps_both (h ∷ hs) = let a = both_use h in let b = steps_both hs in omega arith

  pub cycle_both : (k : Cycle) → forward_in e k + backward_in e k ≡ step_use e k
  cycle_both k = steps_both (steps_of k)

  pub cycles_both : (ks : List Cycle) → total (forward_in e) ks + total (backward_in e) ks ≡ total (step_use e) ks
  cycles_both [] = refl
  cycles_both (k ∷ ks) = let a = cycle_both k in let b = cycles_both ks in omega arith

  -- at most as many as the cycles have places
  edge_one : (h : Halfedge) → edge_use e h ≤ 1
  edge_one h = go (eqb e h.edge)
    where
      go : (a : Bool) → cond a 1 0 ≤ 1
      go true = omega arith
      go false = omega arith

  pub steps_few : (ns st : List ℕ) → total (step_use e) (cycles_from ns st) ≤ width_sum ns
  steps_few [] st = omega arith
  steps_few (n ∷ ns) st = let a = cycle_few (edge_use e) edge_one n st in let b = steps_few ns (drop (width n) st) in omega arith
