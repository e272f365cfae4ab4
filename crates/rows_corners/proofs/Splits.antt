-- One cycle of a face replaced among those that stay. Assumes nothing.
use Prim.Native.Nat.{ℕ, zero, suc, ◌+◌, ◌-◌, ◌<◌, ◌≤◌}
use mathlib.Core.Path.{◌≡◌, refl, ap, ap₂, sym, ◌∙◌}
use mathlib.Core.Bool.{Bool, true, false, cond}
use mathlib.Core.List.{List, [], ◌∷◌, ◌++◌}
use native.Mathlib.Omega.{arith}
use native.Mathlib.Numerals.{add-one}
use lib.ListN.{length, take, drop, get_or, length-drop}
use lib.Seq.{length-take-le, take_all, split_at, take-take, get_or-take}
use Rattle.complex.specs.Lists.{total}
use Rattle.complex.specs.Sound.{step_count}
use Rattle.store.specs.View.{width, cycle_of, cycles_from, width_sum}
use Rattle.store.specs.Edits.{kept}
use Rattle.rows_spans.proofs.Splicing.{run_take}
use Rattle.rows_corners.proofs.Rows.{list_steps}

-- what a part of the flags that reaches to the end has
pub part_flags : (l : List Bool) (i : ℕ) → take (length l - i) (drop i l) ≡ drop i l
part_flags l i = take_all (length l - i) (drop i l) (omega (arith, length-drop i l))

-- a front about one of its elements
pub front_about : {A : Type 0} (l : List A) (z : A) (i k : ℕ) → i < k → k ≤ length l → take k l ≡ take i l ++ (get_or l i z ∷ take (k - (i + 1)) (drop (i + 1) l))
front_about {A} l z i k h g =
    let lk = length-take-le k l g in
    let r = drop (suc i) (take k l) in
    let lr = length-drop (suc i) (take k l) in
    split_at (take k l) i z (omega arith)
    ∙ ap₂ (λ (p : List A) (q : List A). p ++ q) (take-take i k l (omega arith))
    (ap₂ (λ (x : A) (q : List A). x ∷ q) (get_or-take k l i z h)
    (sym (take_all (k - (i + 1)) r (omega arith)) ∙ run_take (k - (i + 1)) (suc i) k l (omega arith)
    ∙ ap (λ (n : ℕ). take (k - (i + 1)) (drop n l)) (sym (add-one i))))

-- what is kept of cycles that are read has as many steps as its counts are wide
pub kept_steps : (bs : List Bool) (ns st : List ℕ) → width_sum ns ≤ length st → total step_count (kept bs (cycles_from ns st)) ≡ width_sum (kept bs ns)
kept_steps [] ns st h = refl
kept_steps (b ∷ bs) [] st h = refl
kept_steps (b ∷ bs) (n ∷ ns) st h = go b (list_steps (n ∷ []) st (omega arith)) (kept_steps bs ns (drop (width n) st) (omega (arith, length-drop (width n) st)))
  where
    go : (b : Bool) → total step_count (cycle_of n st ∷ []) ≡ width_sum (n ∷ [])
        → total step_count (kept bs (cycles_from ns (drop (width n) st))) ≡ width_sum (kept bs ns)
        → total step_count (cond b (kept bs (cycles_from ns (drop (width n) st))) (cycle_of n st ∷ kept bs (cycles_from ns (drop (width n) st))))
        ≡ width_sum (cond b (kept bs ns) (n ∷ kept bs ns))
    go true e f = f
    go false e f = omega arith
