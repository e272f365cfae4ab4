-- How many cycles and steps the lists of 0C have. Assumes nothing.
use Prim.Native.Nat.{ℕ, ◌+◌, ◌<◌, ◌≤◌}
use native.Mathlib.Omega.{arith}
use mathlib.Core.Path.{◌≡◌, sym, ap, subst}
use mathlib.Core.Bool.{not}
use mathlib.Core.List.{List, ◌∷◌, ◌++◌}
use lib.ListN.{length, get_or, set, length-append, length-set, length-map}
use lib.Seq.{get_or-set_other}
use lib.Dec.{T}
use Rattle.complex.specs.Lists.{total, holds, places, one, rotated, chosen}
use Rattle.complex.specs.Cells.{Cycle, lone, path, along, against, steps_of}
use Rattle.complex.specs.Sound.{step_count}
use Rattle.complex.specs.Cut.{no_cycle, stretch, remainder}
use Rattle.complex.proofs.Split.{length_rotated}
use Rattle.complex.proofs.Sums.{total_set, total_left, total_but_one, length_left, length_but_one, chosen_set}
use Rattle.answer.proofs.SizesCut.{parted_length}
use Rattle.rows_split.specs.Along.{near_side, far_side, bridge}

steps_few : (k : Cycle) → length (steps_of k) ≤ step_count k
steps_few (lone v) = omega arith
steps_few (path hs) = omega arith

module _ (ks : List Cycle) (e c1 : ℕ) (l1 : c1 < length ks) (s1 s2 : ℕ) where
  abbrev k1 : Cycle
  k1 = get_or ks c1 no_cycle

  -- both sides of one cycle: a cycle and two steps more than there were
  pub sides_few : (ms : List ℕ) → T (places 0 ms (length ks)) → T (not (holds c1 ms))
      → (length (near_side e c1 s1 s2 ms ks) + length (far_side e c1 s1 s2 ms ks) ≤ length ks + 1)
      × (total step_count (near_side e c1 s1 s2 ms ks) + total step_count (far_side e c1 s1 s2 ms ks) ≤ total step_count ks + 2)
  sides_few ms there h =
      let P = stretch s1 s2 (steps_of k1) in
      let Q = remainder s1 s2 (steps_of k1) in
      let y = path (P ++ one (against e)) in
      let x = set ks c1 y in
      let a = length-set ks c1 y in
      let there' : T (places 0 ms (length x)) = subst (λ (n : ℕ). T (places 0 ms n)) (sym a) there in
      let b = length_left no_cycle ms x there' in
      let d = total_left step_count no_cycle ms x there' in
      let n = ap (total step_count) (chosen_set no_cycle ms ks c1 y h) in
      let g = total_set step_count ks c1 y no_cycle l1 in
      let i = steps_few k1 in
      let j = length-append P (one (against e)) in
      let k = length-append Q (one (along e)) in
      let l = parted_length s1 s2 (steps_of k1) in
      let m : length (chosen no_cycle ms ks) ≡ length ms = length-map ms _ in
      (omega arith, omega arith)

  -- two cycles as one: a cycle less, and at most two steps more
  pub bridge_few : (c2 : ℕ) → c2 < length ks → (c1 ≡ c2 → ⊥)
      → (length (bridge e c1 s1 c2 s2 ks) ≤ length ks) × (total step_count (bridge e c1 s1 c2 s2 ks) ≤ total step_count ks + 2)
  bridge_few c2 l2 ne =
      let k2 = get_or ks c2 no_cycle in
      let R = rotated s2 (steps_of k2) ++ one (against e) in
      let y = path (rotated s1 (steps_of k1) ++ (along e ∷ R)) in
      let x = set ks c1 y in
      let a = length-set ks c1 y in
      let l : c2 < length x = omega arith in
      let b = length_but_one no_cycle c2 x l in
      let d = total_but_one step_count no_cycle c2 x l in
      let n = ap step_count (get_or-set_other ks c1 c2 y no_cycle (λ z. ne (sym z))) in
      let g = total_set step_count ks c1 y no_cycle l1 in
      let i = steps_few k1 in
      let j = steps_few k2 in
      let k = length-append (rotated s1 (steps_of k1)) (along e ∷ R) in
      let m = length-append (rotated s2 (steps_of k2)) (one (against e)) in
      let o = length_rotated s1 (steps_of k1) in
      let q = length_rotated s2 (steps_of k2) in
      (omega arith, omega arith)
