-- Tests of a list of numbers, one number after another, and flags for the numbers that it holds. Assumes nothing.
use mathlib.Core.Path.{◌≡◌, refl, sym, ap, ◌∙◌, subst}
use mathlib.Core.Bool.{Bool, true, false, ◌&&◌, ◌||◌}
use mathlib.Core.Logic.{⊎_elim}
use mathlib.Core.List.{List, [], ◌∷◌}
use Prim.Native.Nat.{ℕ, suc, ◌+◌, ◌≤◌, ◌<◌}
use native.Mathlib.Numerals.{add-one}
use native.Mathlib.Omega.{arith}
use borrow.Author.Tests.{le-leb, lt-leb, lt-ltb, le-ltb, eq-eqb, ne_eqb, eqb-true, eqb-false}
use lib.Dec.{leb, ltb, eqb, ltb→lt, lt→ltb}
use lib.ListN.{length, get_or, set, replicate, length-replicate, length-set, get_or-replicate}
use lib.Seq.{get_or-set_same, get_or-set_other}
use Rattle.complex.specs.Lists.{places, holds}
use Rattle.complex.proofs.Bools.{truth, true_of, both, pair, either}
use Rattle.script.specs.Walks.{below, Marks}

or_false : (b : Bool) → (b || false) ≡ b
or_false true = refl
or_false false = refl

or_true : (b : Bool) → (b || true) ≡ true
or_true true = refl
or_true false = refl

-- ---- rising places
module _ {lo n : ℕ} (ns : List ℕ) where
  pub rise_low : (hi : ℕ) → n < lo → false ≡ places lo (n ∷ ns) hi
  rise_low hi h = ap (λ (b : Bool). b && (ltb n hi && places (suc n) ns hi)) (sym (lt-leb lo n h))

  pub rise_high : {hi : ℕ} → lo ≤ n → hi ≤ n → false ≡ places lo (n ∷ ns) hi
  rise_high {hi} l h = λ i. sym (le-leb lo n l) i && (sym (le-ltb n hi h) i && places (suc n) ns hi)

  pub rise_next : {hi : ℕ} → lo ≤ n → n < hi → places (n + 1) ns hi ≡ places lo (n ∷ ns) hi
  rise_next {hi} l h =
      ap (λ (k : ℕ). places k ns hi) (add-one n)
      ∙ (λ i. sym (le-leb lo n l) i && (sym (lt-ltb n hi h) i && places (suc n) ns hi))

-- what rises below hi is below a bound that is not below hi
pub places_below : (lo : ℕ) (ns : List ℕ) (hi most : ℕ) → hi ≤ most → places lo ns hi ≡ true → below most ns ≡ true
places_below lo [] hi most h e = refl
places_below lo (n ∷ ns) hi most h e =
    let t = both (ltb n hi) (places (suc n) ns hi) (both (leb lo n) (ltb n hi && places (suc n) ns hi) (truth e)).1 in
    let l = ltb→lt n hi t.0 in
    let r = places_below (suc n) ns hi most h (true_of (places (suc n) ns hi) t.1) in
    true_of (below most (n ∷ ns)) (pair (ltb n most) (below most ns) (lt→ltb n most (omega arith)) (truth r))

-- ---- a number among others
pub has_here : {n m : ℕ} (ms : List ℕ) → n ≡ m → true ≡ holds n (m ∷ ms)
has_here {n} {m} ms e = ap (λ (b : Bool). b || holds n ms) (sym (eq-eqb n m e))

pub has_later : {n m : ℕ} (ms : List ℕ) → (n ≡ m → ⊥) → holds n ms ≡ holds n (m ∷ ms)
has_later {n} {m} ms e = ap (λ (b : Bool). b || holds n ms) (sym (ne_eqb n m e))

-- ---- flags
-- the numbers ms are flagged, but for those that are left
pub record Marking (ms left : List ℕ) (flags : List Bool) : Type 0 where
  pub size : length flags ≡ 512
  pub at : (i : ℕ) → i < 512 → (get_or flags i false || holds i left) ≡ holds i ms
  pub small : below 512 left ≡ true

pub marking_start : (ms : List ℕ) → below 512 ms ≡ true → Marking ms ms (replicate 512 false)
marking_start ms h =
    record {
      size = length-replicate 512 false;
      at = λ i l. ap (λ (b : Bool). b || holds i ms) (get_or-replicate 512 i false false l);
      small = h;
    }

pub marking_as : {ms left left' : List ℕ} {flags : List Bool} → left ≡ left' → Marking ms left flags → Marking ms left' flags
marking_as {ms} {left} {left'} {flags} e m = subst (λ (ns : List ℕ). Marking ms ns flags) e m

module _ {ms : List ℕ} {n : ℕ} {left : List ℕ} {flags : List Bool} (m : Marking ms (n ∷ left) flags) where
  pub marking_small : n < 512
  marking_small = ltb→lt n 512 (both (ltb n 512) (below 512 left) (truth m.small)).0

  flagged : (i : ℕ) → i < 512 → (get_or (set flags n true) i false || holds i left) ≡ (get_or flags i false || holds i (n ∷ left))
  flagged i l = ⊎_elim (λ e. here (eqb-true i n e)) (λ e. other (eqb-false i n e)) (either (eqb i n))
    where
      here : i ≡ n → (get_or (set flags n true) i false || holds i left) ≡ (get_or flags i false || holds i (n ∷ left))
      here e =
          let h = marking_small in
          let z = m.size in
          ap (λ (b : Bool). b || holds i left) (ap (λ (j : ℕ). get_or (set flags n true) j false) e ∙ get_or-set_same flags n true false (omega arith))
          ∙ sym (or_true (get_or flags i false))
          ∙ ap (λ (b : Bool). get_or flags i false || b) (has_here left e)

      other : (i ≡ n → ⊥) → (get_or (set flags n true) i false || holds i left) ≡ (get_or flags i false || holds i (n ∷ left))
      other e = ap (λ (b : Bool). b || holds i left) (get_or-set_other flags n i true false e) ∙ ap (λ (b : Bool). get_or flags i false || b) (has_later left e)

  pub marking_turn : {k : ℕ} → k ≡ n → Marking ms left (set flags k true)
  marking_turn {k} e =
      subst (λ (j : ℕ). Marking ms left (set flags j true)) (sym e)
      (record {
        size = length-set flags n true ∙ m.size;
        at = λ i l. flagged i l ∙ m.at i l;
        small = true_of (below 512 left) (both (ltb n 512) (below 512 left) (truth m.small)).1;
      })

pub marking_end : {ms : List ℕ} {flags : List Bool} → Marking ms [] flags → Marks ms flags
marking_end {ms} {flags} m = record { size = m.size; at = λ i l. sym (or_false (get_or flags i false)) ∙ m.at i l }
