-- The cycles that two faces or one cycle become when an edge goes. Assumes nothing.
use Prim.Native.Nat.{ℕ, suc, ◌+◌, ◌-◌, ◌<◌, ◌≤◌}
use mathlib.Core.Path.{◌≡◌, refl, ap, ap₂, sym, subst, subst₂, ◌∙◌}
use mathlib.Core.Bool.{Bool, true, false, cond}
use mathlib.Core.List.{List, ◌++◌, map, append-nil}
use native.Mathlib.Omega.{arith}
use native.Mathlib.Numerals.{add-one}
use borrow.Author.Tests.{leb-false}
use lib.Dec.{leb}
use lib.ListN.{length, take, drop, set, length-map, length-drop}
use lib.Seq.{length-take-le, take-append-add, take-take}
use Rattle.complex.specs.Lists.{one, rotated, distance}
use Rattle.complex.specs.Cells.{Halfedge, Cycle}
use Rattle.complex.specs.Cut.{stretch}
use Rattle.complex.specs.Uncut.{path_or}
use Rattle.store.specs.View.{halfedge_of}
use Rattle.rows_spans.specs.declared.Used.{Used}
use Rattle.rows_spans.specs.Building.{Built, built, RoomFor}
use Rattle.rows_corners.proofs.Lists.{take_map, rotated_map}
use Rattle.rows_stretches.specs.declared.Stretch.{Stretch}
use Rattle.rows_stretches.specs.declared.Place.{Place}
use Rattle.rows_stretches.specs.Paths.{stretch_of, path_of, InCycle, list_at, steps_at, others_at, put_at, all_but, between, no_steps, Lies}
use Rattle.rows_stretches.specs.Paths.{following_in, merged_list, Merging, parted_list, Parting}
use Rattle.rows_stretches.proofs.Places.{cycle_in}

-- the elements but one, from the next on
rotated_but : {A : Type 0} (l : List A) (n : ℕ) → n < length l → take (length l - 1) (rotated (suc n) l) ≡ drop (suc n) l ++ take n l
rotated_but {A} l n h =
    let d = length-drop (suc n) l in
    let e : length l - 1 ≡ length (drop (suc n) l) + n = omega arith in
    ap (λ (k : ℕ). take k (rotated (suc n) l)) e ∙ take-append-add (drop (suc n) l) (take (suc n) l) n
    ∙ ap (λ (r : List A). drop (suc n) l ++ r) (take-take n (suc n) l (omega arith))

distance_least : (n s t : ℕ) → s ≤ n → t < n → distance n s t ≤ n
distance_least n s t h k = go (leb s t) refl
  where
    go : (b : Bool) → leb s t ≡ b → cond b (t - s) (t + n - s) ≤ n
    go true e = omega arith
    go false e = let l = leb-false s t e in omega arith

-- ---- stretches of a cycle
module _ (cycles steps : List ℕ) (p : Place) (l : Lies cycles steps p) where
  abbrev run : List ℕ
  run = take p.count (drop p.at steps)

  run_length : length run ≡ p.count
  run_length = let i = cycle_in cycles steps p l in
      length-take-le p.count (drop p.at steps) (omega (arith, length-drop p.at steps, l.within.steps_size))

  pub steps_length : length (steps_at steps p) ≡ p.count
  steps_length = length-map run halfedge_of ∙ run_length

  -- some of them from the step after s on
  after_is : (s n : ℕ) → map halfedge_of (take n (rotated (s + 1) run)) ≡ take n (rotated (suc s) (steps_at steps p))
  after_is s n =
      sym (take_map halfedge_of n (rotated (s + 1) run))
      ∙ ap (take n) (sym (rotated_map halfedge_of (s + 1) run) ∙ ap (λ (k : ℕ). rotated k (steps_at steps p)) (add-one s))

  all_but_is : (s : ℕ) → s < p.count → stretch_of steps (all_but p s) ≡ following_in s (steps_at steps p)
  all_but_is s h =
      let n = steps_length in
      after_is s (p.count - 1) ∙ ap (λ (k : ℕ). take (k - 1) (rotated (suc s) (steps_at steps p))) (sym n) ∙ rotated_but (steps_at steps p) s (omega arith)

  between_is : (s t : ℕ) → stretch_of steps (between p s t) ≡ stretch (suc s) t (steps_at steps p)
  between_is s t =
      after_is s (distance p.count (s + 1) t)
      ∙ ap₂ (λ (n k : ℕ). take (distance n k t) (rotated (suc s) (steps_at steps p))) (sym steps_length) (add-one s)

  all_but_in : (s : ℕ) → s < p.count → InCycle (all_but p s)
  all_but_in s h = record { cycle = cycle_in cycles steps p l; start = omega arith; least = omega arith }

  between_in : (s t : ℕ) → s < p.count → t < p.count → InCycle (between p s t)
  between_in s t h k = record { cycle = cycle_in cycles steps p l; start = omega arith; least = distance_least p.count (s + 1) t (omega arith) k }

  none_in : InCycle (no_steps p)
  none_in = record { cycle = cycle_in cycles steps p l; start = omega arith; least = omega arith }

  up_to_asks : (s t : ℕ) → s < p.count → t < p.count → (p.count ≤ 2048) × ((s < p.count) × (t < p.count))
  up_to_asks s t h k = let i = cycle_in cycles steps p l in (omega arith, (h, k))

-- a list and what follows it
pub few_after : {ks : List Cycle} {counts : List ℕ} {u : Used} {out : List ℕ} → Built ks counts u out → (xs : List Cycle) {n m : ℕ} → RoomFor n m (ks ++ xs)
    → length counts ≡ n → length out ≡ m → RoomFor (length counts) (length out) (built counts u out ++ xs)
few_after {ks} {counts} {u} {out} b xs {n} {m} f lc ls =
    subst₂ (λ (i j : ℕ). RoomFor i j (built counts u out ++ xs)) (sym lc) (sym ls) (subst (λ (l : List Cycle). RoomFor n m (l ++ xs)) (sym b.list) f)

-- ---- two faces become one
module _ {cycles steps : List ℕ} {p : Place} {s : ℕ} {q : Place} {t v : ℕ} (m : Merging cycles steps p s q t v) {a b : Stretch} (ea : a ≡ all_but p s)
    (eb : b ≡ all_but q t) where
  pub merged_is : put_at cycles steps p a b v ++ others_at cycles steps q ≡ merged_list cycles steps p s q t v
  merged_is =
      ap₂ (λ (x y : List Halfedge). set (list_at cycles steps p) p.cycle (path_or v (x ++ y)) ++ others_at cycles steps q)
      (ap (stretch_of steps) ea ∙ all_but_is cycles steps p m.first s m.here)
      (ap (stretch_of steps) eb ∙ all_but_is cycles steps q m.second t m.there)

  pub first_in_lem : InCycle a
  first_in_lem = subst InCycle (sym ea) (all_but_in cycles steps p m.first s m.here)

  pub second_in_lem : InCycle b
  second_in_lem = subst InCycle (sym eb) (all_but_in cycles steps q m.second t m.there)

-- ---- a cycle becomes two
module _ {cycles steps : List ℕ} {p : Place} {s t v w : ℕ} (m : Parting cycles steps p s t v w) where
  stretch_is : (i j : ℕ) {c : Stretch} → c ≡ between p i j → stretch_of steps c ++ stretch_of steps (no_steps p) ≡ stretch (suc i) j (steps_at steps p)
  stretch_is i j {c} e = append-nil (stretch_of steps c) ∙ ap (stretch_of steps) e ∙ between_is cycles steps p m.first i j

  pub parted_is : {a b : Stretch} → a ≡ between p s t → b ≡ between p t s
      → put_at cycles steps p a (no_steps p) v ++ one (path_of steps b (no_steps p) w) ≡ parted_list cycles steps p s t v w
  parted_is ea eb =
      ap₂ (λ (x y : List Halfedge). set (list_at cycles steps p) p.cycle (path_or v x) ++ one (path_or w y)) (stretch_is s t ea) (stretch_is t s eb)

  pub here_in : {a : Stretch} → a ≡ between p s t → InCycle a
  here_in ea = subst InCycle (sym ea) (between_in cycles steps p m.first s t m.here m.there)

  pub there_in : {b : Stretch} → b ≡ between p t s → InCycle b
  there_in eb = subst InCycle (sym eb) (between_in cycles steps p m.first t s m.there m.here)

  pub nothing_in : InCycle (no_steps p)
  nothing_in = none_in cycles steps p m.first

  -- what is asked of the two stretches
  pub here_asks : (p.count ≤ 2048) × ((s < p.count) × (t < p.count))
  here_asks = up_to_asks cycles steps p m.first s t m.here m.there

  pub there_asks : (p.count ≤ 2048) × ((t < p.count) × (s < p.count))
  there_asks = up_to_asks cycles steps p m.first t s m.there m.here
