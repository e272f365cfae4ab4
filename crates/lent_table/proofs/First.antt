-- The first row of an id. Assumes nothing.
use Prim.Native.Nat.{ℕ, zero, suc, ◌+◌, ◌%◌, ◌<◌, ◌≤◌}
use mathlib.Core.Path.{◌≡◌, refl, ap, ap₂, sym, ◌∙◌}
use mathlib.Core.List.{List, [], ◌∷◌}
use mathlib.Core.Bool.{Bool, true, false, cond}
use native.Mathlib.Omega.{arith}
use native.Mathlib.Decide.{ℕ_discrete, dec_lt}
use lib.ListN.{length, take, get_or, set, length-set}
use lib.Seq.{get_or-take, length-take-le, get_or-set_same, get_or-set_other}
use lib.Dec.{eqb}
use borrow.Author.Tests.{eq-eqb, ne_eqb, lt-ltb, le-ltb}
use Rattle.std.specs.Prelude.{Some, None, not, position, ◌==◌}
use Rattle.std.specs.List.{position_or_len}
use Rattle.std.specs.Prelude.{unwrap_or}
use Rattle.complex.specs.Sound.{cells_most}
use Rattle.store.specs.Index.{row_of}
use Rattle.store.proofs.Rows.{row_le}
use Rattle.lent_table.specs.Table.{table_places, row_hinted, Table}

row_first : (x : ℕ) (l : List ℕ) (i : ℕ) → i < length l → get_or l i 0 ≡ x → ((k : ℕ) → k < i → get_or l k 0 ≡ x → ⊥) → row_of x l ≡ i
row_first x [] i h e f = absurd (omega arith)
row_first x (y ∷ l) zero h e f = ap (λ (b : Bool). cond b 0 (suc (row_of x l))) (eq-eqb y x e)
row_first x (y ∷ l) (suc i) h e f =
    ap₂ (λ (b : Bool) (r : ℕ). cond b 0 (suc r)) (ne_eqb y x (f 0 (omega arith))) (row_first x l i (omega arith) e (λ k u. f (suc k) (omega arith)))

-- ---- one row after another
place_is : (x : ℕ) (l : List ℕ) → row_of x l ≡ position_or_len (λ (y : ℕ). y == x) l
place_is x [] = refl
place_is x (y ∷ l) = go (eqb y x) (place_is x l)
  where
    go : (b : Bool) → row_of x l ≡ position_or_len (λ (z : ℕ). z == x) l → cond b 0 (suc (row_of x l)) ≡ cond (not b) (1 + position_or_len (λ (z : ℕ). z == x) l) 0
    go true h = refl
    go false h = omega arith

pub searched_row : (x : ℕ) (l : List ℕ) → unwrap_or (position (λ (y : ℕ). y == x) l) (length l) ≡ row_of x l
searched_row x l = go (dec_lt q (length l))
  where
    q : ℕ
    q = position_or_len (λ (y : ℕ). y == x) l

    found : Bool → ℕ
    found b = unwrap_or (cond b (Some q) None) (length l)

    go : Dec (q < length l) → unwrap_or (position (λ (y : ℕ). y == x) l) (length l) ≡ row_of x l
    go (yes h) = ap found (lt-ltb q (length l) h) ∙ sym (place_is x l)
    go (no h) = let e = place_is x l in let r = row_le x l in ap found (le-ltb q (length l) (omega arith)) ∙ omega arith

-- ---- the table from the last row to the first: the place of each row from i on has that row or one before it
pub record Filling (ts is : List ℕ) (n i : ℕ) : Type 0 where
  pub places : length ts ≡ table_places
  pub low : (j : ℕ) → i ≤ j → j < n → row_hinted ts (get_or is j 0) ≤ j

pub filling_start : (ts is : List ℕ) (n : ℕ) → length ts ≡ table_places → Filling ts is n n
filling_start ts is n h = record { places = h; low = λ j u v. absurd (omega arith) }

pub filling_turn : (ts is : List ℕ) (n k i at : ℕ) → Filling ts is n k → k ≡ i + 1 → at ≡ get_or is i 0 % table_places → at < table_places
    → Filling (set ts at i) is n i
filling_turn ts is n k i at f z e h =
    record { places = length-set ts at i ∙ f.places; low = λ j u v. go j u v (ℕ_discrete (get_or is j 0 % table_places) at) }
  where
    go : (j : ℕ) → i ≤ j → j < n → Dec (get_or is j 0 % table_places ≡ at) → row_hinted (set ts at i) (get_or is j 0) ≤ j
    go j u v (yes q) =
        let a : row_hinted (set ts at i) (get_or is j 0) ≡ i = ap (λ (k : ℕ). get_or (set ts at i) k 0) q ∙ get_or-set_same ts at i 0 (omega (arith, f.places)) in
        omega (arith, a)
    go j u v (no q) =
        let a : row_hinted (set ts at i) (get_or is j 0) ≡ row_hinted ts (get_or is j 0) = get_or-set_other ts at (get_or is j 0 % table_places) i 0 q in
        let b : i + 1 ≤ j = later (ℕ_discrete j i) in
        let l = f.low j (omega (arith, b, z)) v in
        omega (arith, a, l)
      where
        later : Dec (j ≡ i) → i + 1 ≤ j
        later (yes w) = absurd (q (ap (λ (k : ℕ). get_or is k 0 % table_places) w ∙ sym e))
        later (no w) = omega (arith, w)

-- the first row of an id has it, and no row that has it comes before
first_le : (x : ℕ) (l : List ℕ) (i : ℕ) → i < length l → get_or l i 0 ≡ x → row_of x l ≤ i
first_le x [] i h e = absurd (omega arith)
first_le x (y ∷ l) zero h e = let g = ap (λ (b : Bool). cond b 0 (suc (row_of x l))) (eq-eqb y x e) in omega (arith, g)
first_le x (y ∷ l) (suc i) h e = go (ℕ_discrete y x) (first_le x l i (omega arith) e)
  where
    go : Dec (y ≡ x) → row_of x l ≤ i → row_of x (y ∷ l) ≤ suc i
    go (yes q) r = let g = ap (λ (b : Bool). cond b 0 (suc (row_of x l))) (eq-eqb y x q) in omega (arith, g)
    go (no q) r = let g = ap (λ (b : Bool). cond b 0 (suc (row_of x l))) (ne_eqb y x q) in omega (arith, g, r)

first_has : (x : ℕ) (l : List ℕ) (i : ℕ) → i < length l → get_or l i 0 ≡ x → get_or l (row_of x l) 0 ≡ x
first_has x [] i h e = absurd (omega arith)
first_has x (y ∷ l) zero h e = ap (λ (b : Bool). get_or (y ∷ l) (cond b 0 (suc (row_of x l))) 0) (eq-eqb y x e) ∙ e
first_has x (y ∷ l) (suc i) h e = go (ℕ_discrete y x) (first_has x l i (omega arith) e)
  where
    go : Dec (y ≡ x) → get_or l (row_of x l) 0 ≡ x → get_or (y ∷ l) (row_of x (y ∷ l)) 0 ≡ x
    go (yes q) r = ap (λ (b : Bool). get_or (y ∷ l) (cond b 0 (suc (row_of x l))) 0) (eq-eqb y x q) ∙ q
    go (no q) r = ap (λ (b : Bool). get_or (y ∷ l) (cond b 0 (suc (row_of x l))) 0) (ne_eqb y x q) ∙ r

pub filling_end : (ts is : List ℕ) (n i : ℕ) → i ≡ 0 → Filling ts is n i → n ≤ cells_most → length is ≡ cells_most → Table n ts is
filling_end ts is n i z f h l = record { few = h; places = f.places; ids = l; first = go }
  where
    go : (x : ℕ) → row_hinted ts x < n → get_or is (row_hinted ts x) 0 ≡ x → row_hinted ts x ≡ row_of x (take n is)
    go x k e =
        let r = row_hinted ts x in
        let t = length-take-le n is (omega (arith, h, l)) in
        let g : get_or (take n is) r 0 ≡ x = get_or-take n is r 0 k ∙ e in
        let w = first_le x (take n is) r (omega (arith, t, k)) g in
        let has : get_or is (row_of x (take n is)) 0 ≡ x = sym (get_or-take n is (row_of x (take n is)) 0 (omega (arith, w, k)))
        ∙ first_has x (take n is) r (omega (arith, t, k)) g in
        let low = f.low (row_of x (take n is)) (omega (arith, z)) (omega (arith, w, k)) in
        let same : row_hinted ts (get_or is (row_of x (take n is)) 0) ≡ r = ap (row_hinted ts) has in
        omega (arith, w, low, same)

-- the hinted row r has the id x
pub hinted : (n : ℕ) (ts is : List ℕ) → Table n ts is → (x w r : ℕ) → w ≡ x → r ≡ get_or ts (w % table_places) 0 → r < n → get_or is r 0 ≡ x
    → r ≡ row_of x (take n is)
hinted n ts is t x w r e g h k =
    let q : r ≡ row_hinted ts x = g ∙ ap (row_hinted ts) e in
    q ∙ t.first x (omega (arith, q, h)) (ap (λ (j : ℕ). get_or is j 0) (sym q) ∙ k)
