-- The cycles in number arrays, counted one after another. Assumes nothing.
use Prim.Native.Nat.{ℕ, ◌+◌, ◌-◌, ◌<◌, ◌≤◌}
use mathlib.Core.Path.{◌≡◌, refl, ap, ap₂, sym, ◌∙◌}
use mathlib.Core.List.{List, [], ◌∷◌, ◌++◌}
use native.Mathlib.Omega.{arith}
use native.Mathlib.Numerals.{add-one}
use lib.ListN.{length, take, drop, get_or, length-drop}
use lib.Seq.{take_all, take-suc}
use Rattle.complex.specs.Lists.{total}
use Rattle.complex.specs.Cells.{Cycle}
use Rattle.store.specs.View.{width, width_sum, cycle_of, cycles_from}
use Rattle.store.proofs.Lists.{sum_append, sum_more, sum_le}
use Rattle.rows_marks.proofs.Faces.{cycles_snoc}

-- one cycle more
pub cycles_more : (ns : List ℕ) (j from c : ℕ) (st : List ℕ) → j < length ns → from ≡ width_sum (take j ns) → c ≡ get_or ns j 0
    → cycles_from (take (j + 1) ns) st ≡ cycles_from (take j ns) st ++ (cycle_of c (drop from st) ∷ [])
cycles_more ns j from c st h f e =
    rw (add-one, take-suc ns j 0 h) (cycles_snoc (take j ns) (get_or ns j 0) st ∙ ap₂ (λ (k n : ℕ). cycles_from (take j ns) st ++ (cycle_of k (drop n st) ∷ []))
    (sym e) (sym f))

pub from_more : (ns : List ℕ) (j from c : ℕ) → j < length ns → from ≡ width_sum (take j ns) → c ≡ get_or ns j 0 → from + width c ≡ width_sum (take (j + 1) ns)
from_more ns j from c h f e = ap₂ (λ (a k : ℕ). a + width k) f e ∙ sym (sum_more width ns j 0 h)

pub from_within : (ns : List ℕ) (j n from c : ℕ) → n ≤ length ns → j < n → from ≡ width_sum (take j ns) → c ≡ get_or ns j 0 → from + width c ≤ width_sum (take n ns)
from_within ns j n from c h k f e =
    let g : j < length ns = omega arith in
    omega (arith, from_more ns j from c g f e, sum_le width ns (j + 1) n (omega arith))

-- ---- the part of an array from a place on
pub part_is : (from : ℕ) (st : List ℕ) → take (length st - from) (drop from st) ≡ drop from st
part_is from st = take_all (length st - from) (drop from st) (omega (arith, length-drop from st))

pub part_room : (from w : ℕ) (st : List ℕ) → from + w ≤ length st → w ≤ length (take (length st - from) (drop from st))
part_room from w st h = rw (part_is from st) (omega (arith, length-drop from st))

-- the place after one cycle more
pub from_next : (ns : List ℕ) (j from c w : ℕ) → j < length ns → from ≡ width_sum (take j ns) → c ≡ get_or ns j 0 → w ≡ width c
    → from + w ≡ width_sum (take (j + 1) ns)
from_next ns j from c w h f e g = ap (λ (x : ℕ). from + x) g ∙ from_more ns j from c h f e

-- ---- a walk over the first n cycles that stands before cycle j, whose steps begin at a place
pub record Walked (ns st : List ℕ) (n j from : ℕ) : Type 0 where
  pub few : j ≤ n
  pub place : from ≡ width_sum (take j ns)
  pub inside : from ≤ length st

module _ (ns st : List ℕ) (n : ℕ) (hn : n ≤ length ns) (hs : width_sum (take n ns) ≤ length st) where
  pub walked_none : Walked ns st n 0 0
  walked_none = record { few = omega arith; place = refl; inside = omega arith }

  module _ {j from : ℕ} (w : Walked ns st n j from) (h : j < n) (c : ℕ) (e : c ≡ get_or ns j 0) where
    -- the steps of the cycle are there
    pub walked_room : from + width c ≤ length st
    walked_room = omega (arith, from_within ns j n from c hn h w.place e)

    pub walked_part : width c ≤ length (take (length st - from) (drop from st))
    walked_part = part_room from (width c) st walked_room

    pub walked_on : (k : ℕ) → k ≡ width c → Walked ns st n (j + 1) (from + k)
    walked_on k g = record { few = omega arith; place = from_next ns j from c k (omega arith) w.place e g; inside = omega (arith, walked_room) }

-- ---- counting
module _ (uses : Cycle → ℕ) where
  pub total_more : (ns : List ℕ) (j from c : ℕ) (st : List ℕ) → j < length ns → from ≡ width_sum (take j ns) → c ≡ get_or ns j 0
      → total uses (cycles_from (take (j + 1) ns) st) ≡ total uses (cycles_from (take j ns) st) + uses (cycle_of c (drop from st))
  total_more ns j from c st h f e =
      ap (total uses) (cycles_more ns j from c st h f e) ∙ sum_append uses (cycles_from (take j ns) st) (cycle_of c (drop from st) ∷ []) ∙ omega arith

  -- a sum, and what the cycle in the part from there on counts
  pub sum_next : (ns : List ℕ) (j from c : ℕ) (st : List ℕ) (s x : ℕ) → j < length ns → from ≡ width_sum (take j ns) → c ≡ get_or ns j 0
      → s ≡ total uses (cycles_from (take j ns) st) → x ≡ uses (cycle_of c (take (length st - from) (drop from st)))
      → s + x ≡ total uses (cycles_from (take (j + 1) ns) st)
  sum_next ns j from c st s x h f e es ex =
      omega (arith, es, ex ∙ ap (λ (l : List ℕ). uses (cycle_of c l)) (part_is from st), total_more ns j from c st h f e)
