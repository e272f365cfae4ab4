-- The cycles that two faces or one cycle become when an edge goes, put together in order. Assumes nothing.
use Prim.Native.Nat.{ℕ}
use mathlib.Core.Path.{◌≡◌, refl, sym, subst}
use mathlib.Core.List.{List, ◌++◌}
use native.Mathlib.Omega.{arith}
use lib.ListN.{length}
use Rattle.complex.specs.Lists.{one}
use Rattle.rows_spans.specs.declared.Used.{Used}
use Rattle.rows_spans.specs.Building.{Built, built, RoomFor}
use Rattle.rows_spans.proofs.Building.{built_none}
use Rattle.rows_corners.proofs.Lists.{built_as, built_then}
use Rattle.rows_stretches.specs.declared.Stretch.{Stretch}
use Rattle.rows_stretches.specs.declared.Place.{Place}
use Rattle.rows_stretches.specs.Paths.{path_of, all_but, between, no_steps, PathRoom, others_at, put_at, Besides, merged_list, Merging, parted_list, Parting}
use Rattle.rows_stretches.specs.Paths.{ringed_list, Ringing}
use Rattle.rows_stretches.proofs.Paths.{few_front}
use Rattle.rows_stretches.proofs.Lists.{few_after, merged_is, first_in_lem, second_in_lem, parted_is, here_in, there_in, nothing_in}
use Rattle.kernel_paths.specs.Runs.{Puts}

-- ---- two faces become one
module _ {cycles steps : List ℕ} {p : Place} {s : ℕ} {q : Place} {t v : ℕ} (m : Merging cycles steps p s q t v) {a b : Stretch} (ea : a ≡ all_but p s)
    (eb : b ≡ all_but q t) {i j : ℕ} (f : RoomFor i j (merged_list cycles steps p s q t v)) where
  merged_room : RoomFor i j (put_at cycles steps p a b v ++ others_at cycles steps q)
  merged_room = subst (RoomFor i j) (sym (merged_is m ea eb)) f

  pub merged_puts : Puts cycles steps p a b v i j
  merged_puts =
      record {
        lies = m.first;
        first = first_in_lem m ea eb;
        second = second_in_lem m ea eb;
        room = few_front (put_at cycles steps p a b v) (others_at cycles steps q) merged_room;
      }

  module _ {numbers : List ℕ} {u : Used} {places : List ℕ} (x : Built (put_at cycles steps p a b v) numbers u places) where
    pub merged_others : length numbers ≡ i → length places ≡ j → Besides cycles steps q numbers u places
    merged_others lc ls = record { lies = m.second; building = x.building; room = few_after x (others_at cycles steps q) merged_room lc ls }

    pub merged_done : {numbers₁ : List ℕ} {u₁ : Used} {places₁ : List ℕ} → Built (built numbers u places ++ others_at cycles steps q) numbers₁ u₁ places₁
        → Built (merged_list cycles steps p s q t v) numbers₁ u₁ places₁
    merged_done y = built_as (merged_is m ea eb) (built_then (others_at cycles steps q) x y)

-- ---- a cycle becomes two
module _ {cycles steps : List ℕ} {p : Place} {s t v w : ℕ} (m : Parting cycles steps p s t v w) {a : Stretch} (ea : a ≡ between p s t) {i j : ℕ}
    (f : RoomFor i j (parted_list cycles steps p s t v w)) where
  parted_room : {b : Stretch} → b ≡ between p t s → RoomFor i j (put_at cycles steps p a (no_steps p) v ++ one (path_of steps b (no_steps p) w))
  parted_room eb = subst (RoomFor i j) (sym (parted_is m ea eb)) f

  pub parted_puts : Puts cycles steps p a (no_steps p) v i j
  parted_puts =
      record {
        lies = m.first;
        first = here_in m ea;
        second = nothing_in m;
        room = few_front (put_at cycles steps p a (no_steps p) v) (one (path_of steps (between p t s) (no_steps p) w)) (parted_room refl);
      }

  module _ {numbers : List ℕ} {u : Used} {places : List ℕ} (x : Built (put_at cycles steps p a (no_steps p) v) numbers u places) {b : Stretch}
      (eb : b ≡ between p t s) where
    pub parted_path : length numbers ≡ i → length places ≡ j → PathRoom steps b (no_steps p) w numbers u places
    parted_path lc ls =
        record {
          building = x.building;
          steps_size = m.first.within.steps_size;
          first = there_in m eb;
          second = nothing_in m;
          room = few_after x (one (path_of steps b (no_steps p) w)) (parted_room eb) lc ls;
        }

    pub parted_done : {numbers₁ : List ℕ} {u₁ : Used} {places₁ : List ℕ}
        → Built (built numbers u places ++ one (path_of steps b (no_steps p) w)) numbers₁ u₁ places₁
        → Built (parted_list cycles steps p s t v w) numbers₁ u₁ places₁
    parted_done y = built_as (parted_is m ea eb) (built_then (one (path_of steps b (no_steps p) w)) x y)

-- ---- two faces become one without a cycle of each
module _ {cycles steps : List ℕ} {p q : Place} (m : Ringing cycles steps p q) {i j : ℕ} (f : RoomFor i j (ringed_list cycles steps p q)) where
  pub ringed_first : {numbers places : List ℕ} → length numbers ≡ i → length places ≡ j
      → Besides cycles steps p numbers (record { cycles = 0; steps = 0 }) places
  ringed_first {numbers} {places} lc ls =
      let n = built_none numbers places (omega (arith, f.few_counts)) (omega (arith, f.few_steps)) in
      record {
        lies = m.first;
        building = n.building;
        room = few_after n (others_at cycles steps p) (few_front (others_at cycles steps p) (others_at cycles steps q) f) lc ls;
      }

  module _ {numbers : List ℕ} {u : Used} {places : List ℕ} (x : Built (others_at cycles steps p) numbers u places) where
    pub ringed_second : length numbers ≡ i → length places ≡ j → Besides cycles steps q numbers u places
    ringed_second lc ls = record { lies = m.second; building = x.building; room = few_after x (others_at cycles steps q) f lc ls }

    pub ringed_done : {numbers₁ : List ℕ} {u₁ : Used} {places₁ : List ℕ} → Built (built numbers u places ++ others_at cycles steps q) numbers₁ u₁ places₁
        → Built (ringed_list cycles steps p q) numbers₁ u₁ places₁
    ringed_done y = built_then (others_at cycles steps q) x y
