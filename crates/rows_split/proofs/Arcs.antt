-- Arcs between two corners of a cycle, as steps in memory and as halfedges. Assumes nothing.
use Prim.Native.Nat.{ℕ, zero, suc, ◌+◌, ◌-◌, ◌*◌, ◌<◌, ◌≤◌}
use mathlib.Core.Path.{◌≡◌, refl, ap, ap₂, sym, ◌∙◌}
use mathlib.Core.Bool.{Bool, true, false, cond}
use mathlib.Core.List.{List, ◌++◌, map}
use native.Mathlib.Omega.{arith}
use borrow.Author.Tests.{leb-true, leb-false}
use lib.Dec.{leb}
use lib.ListN.{length, take, drop, length-map, length-drop}
use lib.Seq.{length-take-le, take_all, take-take, take-append-le, take-append-add, drop-append-le, drop-append-add, drop-drop}
use Rattle.complex.specs.Lists.{one, rotated, distance}
use Rattle.complex.specs.Cells.{Halfedge, path, steps_of}
use Rattle.complex.specs.Cut.{stretch, remainder}
use Rattle.complex.proofs.Split.{length_rotated}
use Rattle.store.specs.View.{halfedge_of, width, cycle_of}
use Rattle.rows_spans.proofs.Splicing.{run_take}
use Rattle.rows_corners.specs.Arcs.{arc_of}
use Rattle.rows_corners.proofs.Lists.{take_map, drop_map, rotated_map, along_read, against_read}
use Rattle.rows_split.specs.Parts.{near_cycle, far_cycle}

-- ---- rotated lists
-- what follows the arc from s to t is the arc from t to s
module _ {A : Type 0} (l : List A) (s t : ℕ) (hs : s ≤ length l) (ht : t ≤ length l) where
  abbrev n : ℕ
  n = length l

  onward : drop (distance n s t) (rotated s l) ≡ take (n - distance n s t) (rotated t l)
  onward = go (leb s t) refl
    where
      go : (b : Bool) → leb s t ≡ b → drop (cond b (t - s) (t + n - s)) (rotated s l) ≡ take (n - cond b (t - s) (t + n - s)) (rotated t l)
      go true e =
          let h = leb-true s t e in
          let a = length-drop s l in
          let b = length-drop t l in
          let i : s + (t - s) ≡ t = omega arith in
          let j : n - (t - s) ≡ length (drop t l) + s = omega arith in
          drop-append-le (t - s) (drop s l) (take s l) (omega arith)
          ∙ ap (λ (x : List A). x ++ take s l) (drop-drop (t - s) s l ∙ ap (λ (k : ℕ). drop k l) i)
          ∙ ap (λ (x : List A). drop t l ++ x) (sym (take-take s t l h))
          ∙ sym (ap (λ (k : ℕ). take k (rotated t l)) j ∙ take-append-add (drop t l) (take t l) s)
      go false e =
          let h = leb-false s t e in
          let a = length-drop s l in
          let b = length-drop t l in
          let c = length-take-le s l hs in
          let i : t + n - s ≡ length (drop s l) + t = omega arith in
          let j : n - (t + n - s) ≡ s - t = omega arith in
          ap (λ (k : ℕ). drop k (rotated s l)) i ∙ drop-append-add (drop s l) (take s l) t
          ∙ sym (take_all (s - t) (drop t (take s l)) (omega (arith, length-drop t (take s l))))
          ∙ run_take (s - t) t s l (omega arith)
          ∙ sym (ap (λ (k : ℕ). take k (rotated t l)) j ∙ take-append-le (s - t) (drop t l) (take t l) (omega arith))

-- ---- a corner's number is at most the number of steps
pub corner_most : (m s : ℕ) → s < width m → s ≤ m
corner_most zero s h = omega arith
corner_most (suc m) s h = omega arith

pub distance_most : (m s t : ℕ) → s < width m → t < width m → (distance m s t ≤ m) × (distance m s t < width m)
distance_most m s t hs ht = go m (leb s t) refl hs ht
  where
    go : (m : ℕ) (b : Bool) → leb s t ≡ b → s < width m → t < width m → (cond b (t - s) (t + m - s) ≤ m) × (cond b (t - s) (t + m - s) < width m)
    go zero true e hs ht = (omega arith, omega arith)
    go zero false e hs ht = let h = leb-false s t e in (omega arith, omega arith)
    go (suc m) true e hs ht = (omega arith, omega arith)
    go (suc m) false e hs ht = let h = leb-false s t e in (omega arith, omega arith)

-- ---- the steps of a cycle in memory
pub steps_of_lem : (m : ℕ) (st : List ℕ) → steps_of (cycle_of m st) ≡ map halfedge_of (take m st)
steps_of_lem zero st = refl
steps_of_lem (suc m) st = refl

module _ (steps : List ℕ) (at m : ℕ) (h : at + m ≤ length steps) where
  abbrev own : List ℕ
  own = take m (drop at steps)

  abbrev halves : List Halfedge
  halves = steps_of (cycle_of m (drop at steps))

  own_length : length own ≡ m
  own_length = length-take-le m (drop at steps) (omega (arith, length-drop at steps))

  halves_are : halves ≡ map halfedge_of own
  halves_are = steps_of_lem m (drop at steps)

  pub halves_length : length halves ≡ m
  halves_length = ap length halves_are ∙ length-map own halfedge_of ∙ own_length

  rotated_is : (s : ℕ) → rotated s halves ≡ map halfedge_of (rotated s own)
  rotated_is s = ap (rotated s) halves_are ∙ rotated_map halfedge_of s own

  -- all of it, from a corner on
  pub whole_arc : (s : ℕ) → map halfedge_of (arc_of steps at m s m) ≡ rotated s halves
  whole_arc s = sym (rotated_is s ∙ ap (map halfedge_of) (sym (take_all m (rotated s own) (omega (arith, length_rotated s own, own_length)))))

  module _ (s t : ℕ) (hs : s ≤ m) (ht : t ≤ m) where
    pub near_arc : map halfedge_of (arc_of steps at m s (distance m s t)) ≡ stretch s t halves
    near_arc =
        sym (take_map halfedge_of (distance m s t) (rotated s own))
        ∙ ap₂ (λ (k : ℕ) (l : List Halfedge). take (distance k s t) l) (sym halves_length) (sym (rotated_is s))

    pub far_arc : map halfedge_of (arc_of steps at m t (m - distance m s t)) ≡ remainder s t halves
    far_arc =
        let l = own_length in
        ap (λ (k : ℕ). map halfedge_of (take (k - distance k s t) (rotated t own))) (sym l)
        ∙ ap (map halfedge_of) (sym (onward own s t (omega arith) (omega arith)))
        ∙ sym (drop_map halfedge_of (distance (length own) s t) (rotated s own))
        ∙ ap₂ (λ (k : ℕ) (l : List Halfedge). drop (distance k s t) l) (l ∙ sym halves_length) (sym (rotated_is s))

    pub near_is : (e : ℕ) → path (map halfedge_of (arc_of steps at m s (distance m s t)) ++ one (halfedge_of (2 * e + 1)))
        ≡ near_cycle e s t (cycle_of m (drop at steps))
    near_is e = ap₂ (λ (a b : List Halfedge). path (a ++ b)) near_arc (against_read e)

    pub far_is : (e : ℕ) → path (map halfedge_of (arc_of steps at m t (m - distance m s t)) ++ one (halfedge_of (2 * e)))
        ≡ far_cycle e s t (cycle_of m (drop at steps))
    far_is e = ap₂ (λ (a b : List Halfedge). path (a ++ b)) far_arc (along_read e)
