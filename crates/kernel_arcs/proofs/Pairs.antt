-- A list in the front of two arrays, and another after it. Assumes nothing.
use Prim.Native.Nat.{ℕ, ◌+◌, ◌-◌, ◌≤◌}
use mathlib.Core.Path.{◌≡◌, sym, ap, subst₂, ◌∙◌}
use mathlib.Core.List.{List, ◌++◌, append-nil}
use native.Mathlib.Omega.{arith}
use borrow.Rule.Slice.PartMut.{put_mid, mid_of, take_put, same_len_mid}
use lib.ListN.{length, take, drop, length-drop, drop_of_length-le}
use lib.Seq.{length-take-le, drop-append_seam}
use Rattle.complex.specs.Cells.{Cycle}
use Rattle.store.specs.View.{cycles_from, width_sum}
use Rattle.rows_spans.specs.declared.Used.{Used}
use Rattle.rows_spans.specs.Building.{Built, RoomFor}
use Rattle.rows_spans.proofs.Building.{built_same}
use Rattle.rows_split.specs.Parts.{RoomForBoth}
use Rattle.rows_split.proofs.Places.{built_size}

pub first_room : {n m : ℕ} {ks ls : List Cycle} → RoomForBoth n m ks ls → RoomFor n m ks
first_room r =
    let c = r.cycles in
    let s = r.steps in
    record { few_counts = r.few_counts; few_steps = r.few_steps; cycles = omega arith; steps = omega arith }

-- the places from i on, and what is written there
abbrev rest : ℕ → List ℕ → List ℕ
rest i l = mid_of i (length l - i) l

abbrev filled : ℕ → List ℕ → List ℕ → List ℕ
filled i l part = put_mid i (length l - i) l part

rest_length : (i : ℕ) (l : List ℕ) → length (rest i l) ≡ length l - i
rest_length i l = length-take-le (length l - i) (drop i l) (omega (arith, length-drop i l))

rest_filled : (i : ℕ) (l part : List ℕ) → i ≤ length l → drop i (filled i l part) ≡ part
rest_filled i l part h =
    ap (λ (k : ℕ). drop k (filled i l part)) (sym (length-take-le i l h))
    ∙ drop-append_seam (take i l) (part ++ drop (length l - i) (drop i l))
    ∙ ap (λ (x : List ℕ). part ++ x) (drop_of_length-le (drop i l) {i = length l - i} (omega (arith, length-drop i l)))
    ∙ append-nil part

module _ {ks : List Cycle} {counts : List ℕ} {u : Used} {steps : List ℕ} (b : Built ks counts u steps) where
  pub rest_room : {n m : ℕ} {ls : List Cycle} → length counts ≡ n → length steps ≡ m → RoomForBoth n m ks ls
      → RoomFor (length (rest u.cycles counts)) (length (rest u.steps steps)) ls
  rest_room en em r =
      let z = built_size b in
      let zc = z.0 in
      let zs = z.1 in
      let lc = rest_length u.cycles counts in
      let ls' = rest_length u.steps steps in
      let fc = r.few_counts in
      let fs = r.few_steps in
      let rc = r.cycles in
      let rs = r.steps in
      record { few_counts = omega arith; few_steps = omega arith; cycles = omega arith; steps = omega arith }

  -- the second leaves the first
  module _ (cs st : List ℕ) (lc : length cs ≡ length (rest u.cycles counts)) (lt : length st ≡ length (rest u.steps steps)) where
    pub front_stays : Built ks (filled u.cycles counts cs) u (filled u.steps steps st)
    front_stays =
        let g = b.building in
        let n = same_len_mid u.cycles (length counts - u.cycles) counts cs lc in
        let e = take_put u.cycles (length counts - u.cycles) counts cs g.cycle_room in
        let s = built_same counts u steps g (filled u.steps steps st) (same_len_mid u.steps (length steps - u.steps) steps st lt)
        (take_put u.steps (length steps - u.steps) steps st g.step_room) in
        record {
          list = ap (λ (l : List ℕ). cycles_from l (filled u.steps steps st)) e ∙ s.list ∙ b.list;
          building =
              record {
                counts_size = omega (arith, n, g.counts_size);
                steps_size = s.building.steps_size;
                width = ap width_sum e ∙ g.width;
                cycle_room = omega (arith, n, g.cycle_room);
                step_room = s.building.step_room;
              };
        }

  pub back_stands : {ls : List Cycle} {w : Used} (cs st : List ℕ) → Built ls cs w st
      → Built ls (drop u.cycles (filled u.cycles counts cs)) w (drop u.steps (filled u.steps steps st))
  back_stands {ls} {w} cs st x =
      let g = b.building in
      subst₂ (λ (c s : List ℕ). Built ls c w s) (sym (rest_filled u.cycles counts cs g.cycle_room)) (sym (rest_filled u.steps steps st g.step_room)) x
