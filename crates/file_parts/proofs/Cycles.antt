-- The bytes of cycles that stand in number arrays. Assumes nothing.
use Prim.Native.Nat.{ℕ, zero, suc, ◌+◌, ◌<◌, ◌≤◌}
use mathlib.Core.Path.{◌≡◌, refl, ap, ap₂, sym, ◌∙◌, subst}
use mathlib.Core.List.{List, [], ◌∷◌, ◌++◌, map, append-nil}
use mathlib.Core.Bool.{true}
use native.Mathlib.Omega.{arith}
use lib.Dec.{T}
use lib.Ieee.Fits.{and_i, and_l, and_r}
use lib.ListN.{length, take, drop, get_or, length-map}
use lib.Seq.{length-take-le, drop-drop, take_all}
use Rattle.number.specs.Readers.{spread, all}
use Rattle.number.specs.Numbers.{spell}
use Rattle.complex.specs.Cells.{Cycle, lone}
use Rattle.complex.specs.Decode.{step_bytes, cycle_bytes}
use Rattle.complex.proofs.FileReaders.{number_same}
use Rattle.store.specs.View.{halfedge_of, width, cycle_of, cycles_from, width_sum}
use Rattle.file_parts.specs.Parts.{spells, step_spells, cycle_spells, run_of, Rings}
use Rattle.store.proofs.Encode.{length_cycles, cycle_at_lem}
use Rattle.store.proofs.Lists.{sum_more, sum_le}
use Rattle.file_parts.proofs.Laying.{run_length, run_get, all_get}

step_bytes_lem : (l : List ℕ) → spread step_bytes (map halfedge_of l) ≡ spread spell l
step_bytes_lem [] = refl
step_bytes_lem (n ∷ l) = ap₂ (λ (a b : List ℕ). a ++ b) (ap spell (number_same n)) (step_bytes_lem l)

step_spells_lem : (l : List ℕ) → T (all step_spells (map halfedge_of l)) → T (all spells l)
step_spells_lem [] t = tt
step_spells_lem (n ∷ l) t =
    and_i (spells n) (all spells l) (subst (λ (k : ℕ). T (spells k)) (number_same n) (and_l (step_spells (halfedge_of n)) (all step_spells (map halfedge_of l)) t))
    (step_spells_lem l (and_r (step_spells (halfedge_of n)) (all step_spells (map halfedge_of l)) t))

-- a count, and the numbers at its places
pub cycle_bytes_lem : (n : ℕ) (st : List ℕ) → width n ≤ length st → cycle_bytes (cycle_of n st) ≡ spell n ++ spread spell (take (width n) st)
cycle_bytes_lem zero [] h = absurd (omega arith)
cycle_bytes_lem zero (x ∷ st) h = ap (λ (r : List ℕ). spell 0 ++ r) (sym (append-nil (spell x)))
cycle_bytes_lem (suc n) st h =
    ap₂ (λ (k : ℕ) (r : List ℕ). spell k ++ r) (length-map (take (suc n) st) halfedge_of ∙ length-take-le (suc n) st h) (step_bytes_lem (take (suc n) st))

pub cycle_spells_lem : (n : ℕ) (st : List ℕ) → width n ≤ length st → T (cycle_spells (cycle_of n st)) → T (all spells (take (width n) st))
cycle_spells_lem zero [] h t = absurd (omega arith)
cycle_spells_lem zero (x ∷ st) h t = and_i (spells x) true t tt
cycle_spells_lem (suc n) st h t = step_spells_lem (take (suc n) st) t

pub width_le : (n : ℕ) → n ≤ width n
width_le zero = omega arith
width_le (suc n) = omega arith

-- ---- a run of cycles, and the places of its first i
module _ (ns : List ℕ) (from n i sum : ℕ) (r : from + n ≤ length ns) (h : i < n) (e : sum ≡ width_sum (take i (run_of from n ns))) where
  pub steps_more : sum + width (get_or ns (from + i) 0) ≡ width_sum (take (i + 1) (run_of from n ns))
  steps_more =
      let k = run_length from n ns r in
      ap₂ (λ (a v : ℕ). a + width v) e (sym (run_get from n ns i 0 h)) ∙ sym (sum_more width (run_of from n ns) i 0 (omega arith))

  pub steps_within : sum + width (get_or ns (from + i) 0) ≤ width_sum (run_of from n ns)
  steps_within =
      let k = run_length from n ns r in
      let m = steps_more in
      let g = sum_le width (run_of from n ns) (i + 1) n (omega arith) in
      let u : width_sum (take n (run_of from n ns)) ≡ width_sum (run_of from n ns) = ap width_sum (take_all n (run_of from n ns) (omega arith)) in
      omega arith

-- the i-th of a run of cycles, whose steps begin at step
pub record NextRing (ns : List ℕ) (from n : ℕ) (st : List ℕ) (first i step : ℕ) : Type 0 where
  pub is : get_or (cycles_from (run_of from n ns) (drop first st)) i (lone 0) ≡ cycle_of (get_or ns (from + i) 0) (drop step st)
  pub after : step + width (get_or ns (from + i) 0) ≡ first + width_sum (take (i + 1) (run_of from n ns))
  pub within : step + width (get_or ns (from + i) 0) ≤ 2048
  pub spelled : T (cycle_spells (cycle_of (get_or ns (from + i) 0) (drop step st)))

module _ (ns : List ℕ) (from n : ℕ) (st : List ℕ) (first : ℕ) (r : Rings ns from n st first) where
  rings_room : from + n ≤ length ns
  rings_room = let a = r.room in let b = r.sizes.0 in omega arith

  pub rings_size : length (cycles_from (run_of from n ns) (drop first st)) ≡ n
  rings_size = length_cycles (run_of from n ns) (drop first st) ∙ run_length from n ns rings_room

  module _ (i step : ℕ) (h : i < n) (e : step ≡ first + width_sum (take i (run_of from n ns))) where
    ring_at : get_or (cycles_from (run_of from n ns) (drop first st)) i (lone 0) ≡ cycle_of (get_or ns (from + i) 0) (drop step st)
    ring_at =
        let k = run_length from n ns rings_room in
        cycle_at_lem (run_of from n ns) (drop first st) i (lone 0) (omega arith)
        ∙ ap₂ cycle_of (run_get from n ns i 0 h) (drop-drop (width_sum (take i (run_of from n ns))) first st ∙ ap (λ (m : ℕ). drop m st) (sym e))

    pub next_ring : NextRing ns from n st first i step
    next_ring =
        record {
          is = ring_at;
          after = let m = steps_more ns from n i (width_sum (take i (run_of from n ns))) rings_room h refl in omega arith;
          within = let m = steps_within ns from n i (width_sum (take i (run_of from n ns))) rings_room h refl in let p = r.places in omega arith;
          spelled =
              let k = rings_size in
              subst (λ (c : Cycle). T (cycle_spells c)) ring_at
              (all_get cycle_spells (cycles_from (run_of from n ns) (drop first st)) i (lone 0) r.spelled (omega arith));
        }
