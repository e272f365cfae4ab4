-- Where a number stands in a rising list. Assumes nothing.
use Prim.Native.Nat.{ℕ, zero, suc, ◌<◌, ◌≤◌}
use mathlib.Core.Path.{◌≡◌, refl, sym, ap, ap₂, ◌∙◌}
use mathlib.Core.List.{List, [], ◌∷◌}
use mathlib.Core.Bool.{Bool, true, false, cond}
use mathlib.Core.Option.{some}
use native.Mathlib.Omega.{arith}
use native.Mathlib.Decide.{dec_lt}
use lib.ListN.{length, get_or, take}
use lib.Seq.{get_or-take, length-take-le}
use lib.Dec.{eqb}
use borrow.Author.Tests.{eq-eqb, ne_eqb}
use Rattle.std.specs.Prelude.{Result, Ok, Err}
use Rattle.std.specs.Result.{result_unwrap_or}
use Rattle.std.specs.List.Sorted.{IsBinarySearchResult}
use Rattle.std.specs.Ordering.{nat_cmp}
use Rattle.std.proofs.lemmas.List.Sorted.{searched}
use Rattle.complex.specs.Cells.{LiveCell, ids, lookup, some_if}
use Rattle.store.specs.Index.{row_of, Rising, value_at}

pub row_found : (x : ℕ) (l : List ℕ) (i : ℕ) → i < length l → get_or l i 0 ≡ x → ((k : ℕ) → k < i → get_or l k 0 < x) → row_of x l ≡ i
row_found x [] i h e f = absurd (omega arith)
row_found x (y ∷ l) zero h e f = ap (λ (b : Bool). cond b 0 (suc (row_of x l))) (eq-eqb y x e)
row_found x (y ∷ l) (suc i) h e f =
    let g : y < x = f 0 (omega arith) in
    ap₂ (λ (b : Bool) (r : ℕ). cond b 0 (suc r)) (ne_eqb y x (omega arith)) (row_found x l i (omega arith) e (λ k u. f (suc k) (omega arith)))

pub row_none : (x : ℕ) (l : List ℕ) → ((k : ℕ) → k < length l → get_or l k 0 ≡ x → ⊥) → row_of x l ≡ length l
row_none x [] f = refl
row_none x (y ∷ l) f =
    ap₂ (λ (b : Bool) (r : ℕ). cond b 0 (suc r)) (ne_eqb y x (f 0 (omega arith))) (row_none x l (λ k u. f (suc k) (omega arith)))

pub row_le : (i : ℕ) (is : List ℕ) → row_of i is ≤ length is
row_le i [] = omega arith
row_le i (j ∷ is) = go (eqb j i) (row_le i is)
  where
    go : (b : Bool) → row_of i is ≤ length is → cond b 0 (suc (row_of i is)) ≤ suc (length is)
    go true h = omega arith
    go false h = omega arith

pub rising_le : (l : List ℕ) → Rising l → (i j : ℕ) → i ≤ j → j < length l → get_or l i 0 ≤ get_or l j 0
rising_le l r i j h k = go (dec_lt i j)
  where
    go : Dec (i < j) → get_or l i 0 ≤ get_or l j 0
    go (yes u) = let v = r.below i j u k in omega arith
    go (no u) = let e : i ≡ j = omega arith in rw e (omega arith)

-- what a search of the list finds is the place, or that there is none
pub row_searched : (x : ℕ) (l : List ℕ) (r : Result ℕ ℕ) → Rising l → IsBinarySearchResult (λ (y : ℕ). nat_cmp y x) l r → result_unwrap_or r (length l) ≡ row_of x l
row_searched x l (Ok i) up s =
    let f = searched l x (Ok i) s (rising_le l up) in
    sym (row_found x l i f.0 f.1 (λ k h. let b = up.below k i h f.0 in omega (arith, f.1)))
row_searched x l (Err i) up s = sym (row_none x l (λ k h e. go k h e (dec_lt k i)))
  where
    f : (i ≤ length l) × ((k : ℕ) → k < i → get_or l k 0 < x) × ((k : ℕ) → i ≤ k → k < length l → x < get_or l k 0)
    f = searched l x (Err i) s (rising_le l up)

    go : (k : ℕ) → k < length l → get_or l k 0 ≡ x → Dec (k < i) → ⊥
    go k h e (yes u) = let v = f.1 k u in omega arith
    go k h e (no u) = let v = f.2 k (omega arith) h in omega arith

-- ---- what stands in a row
module _ {A : Type 0} where
  -- a place of the list has the same element whatever stands for none
  pub get_d_any : (l : List A) (i : ℕ) (y z : A) → i < length l → get_or l i y ≡ get_or l i z
  get_d_any [] i y z h = absurd (omega arith)
  get_d_any (x ∷ l) zero y z h = refl
  get_d_any (x ∷ l) (suc i) y z h = get_d_any l i y z (omega arith)

  pub get_d_past : (l : List A) (i : ℕ) (z : A) → length l ≤ i → get_or l i z ≡ z
  get_d_past [] i z h = refl
  get_d_past (x ∷ l) zero z h = absurd (omega arith)
  get_d_past (x ∷ l) (suc i) z h = get_d_past l i z (omega arith)

module _ (is vs : List ℕ) (n r x z : ℕ) (h : n ≤ length vs) (e : r ≡ row_of x (take n is)) where
  pub value_found : (y : ℕ) → r < n → get_or vs r y ≡ value_at z (take n is) (take n vs) x
  value_found y k = get_d_any vs r y z (omega arith) ∙ sym (get_or-take n vs r z k) ∙ ap (λ (m : ℕ). get_or (take n vs) m z) e

  pub value_none : n ≤ r → z ≡ value_at z (take n is) (take n vs) x
  value_none k = sym (ap (λ (m : ℕ). get_or (take n vs) m z) (sym e) ∙ get_d_past (take n vs) r z (let g = length-take-le n vs h in omega arith))

-- the figure of an id stands in its row
pub row_lookup : (cs : List LiveCell) (i : ℕ) (z : LiveCell) → row_of i (ids cs) < length cs → lookup cs i ≡ some (get_or cs (row_of i (ids cs)) z).figure
row_lookup [] i z h = absurd (omega arith)
row_lookup (c ∷ cs) i z h = go (eqb c.id i) h (row_lookup cs i z)
  where
    go : (b : Bool) → cond b 0 (suc (row_of i (ids cs))) < suc (length cs)
        → (row_of i (ids cs) < length cs → lookup cs i ≡ some (get_or cs (row_of i (ids cs)) z).figure)
        → some_if b c.figure (lookup cs i) ≡ some (get_or (c ∷ cs) (cond b 0 (suc (row_of i (ids cs)))) z).figure
    go true u ih = refl
    go false u ih = ih (omega arith)
