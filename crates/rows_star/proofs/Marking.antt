-- The star's marks from those of rows, and the marked ids in a buffer. Assumes nothing.
use Prim.Native.Nat.{ℕ, zero, suc, ◌+◌, ◌<◌, ◌≤◌}
use mathlib.Core.Path.{◌≡◌, refl, ap, ap₂, sym, ◌∙◌}
use mathlib.Core.List.{List, [], ◌∷◌, ◌++◌, map, append-nil}
use mathlib.Core.Bool.{Bool, true, false, ◌||◌, cond}
use native.Mathlib.Omega.{arith}
use mir.Val.{bool_byte}
use native.Mathlib.Numerals.{add-one}
use lib.Dec.{eqb}
use lib.ListN.{length, take, drop, set, get_or}
use lib.Seq.{append_snoc, drop-cons, length-take-le, set_at, take-set-lt, get_or-set_same, get_or-set_other}
use borrow.Author.Tests.{le-leb, lt-leb, eqb-true, eqb-false}
use Rattle.complex.specs.Calls.{filled}
use Rattle.complex.specs.Lists.{any, cons_if, total}
use Rattle.complex.specs.Cells.{Cycle, lone, path}
use Rattle.store.specs.Index.{row_of}
use Rattle.store.specs.Places.{bit}
use Rattle.store.specs.View.{cycles_from}
use Rattle.store.proofs.Lists.{sum_more}
use Rattle.rows_spans.proofs.Replaced.{row_has}
use Rattle.rows_marks.specs.Marks.{edge_marks, mark_at, step_marked, cycle_marked, sum_of, cell_marks, face_marks}
use Rattle.rows_star.specs.Marks.{step_holds, cycle_holds, star_marks, picked}

-- ---- the own row marked beside the open edges
module _ {A : Type 0} where
  pub map_same : {B : Type 0} (f g : A → B) → ((x : A) → f x ≡ g x) → (xs : List A) → map f xs ≡ map g xs
  map_same f g h [] = refl
  map_same {B} f g h (x ∷ xs) = ap₂ (λ (y : B) (ys : List B). y ∷ ys) (h x) (map_same f g h xs)

  any_same : (f g : A → Bool) → ((x : A) → f x ≡ g x) → (xs : List A) → any f xs ≡ any g xs
  any_same f g h [] = refl
  any_same f g h (x ∷ xs) = ap₂ ◌||◌ (h x) (any_same f g h xs)

module _ (is : List ℕ) (ms : List Bool) (i row : ℕ) (e : row ≡ row_of i is) (h : row < length is) (l : length ms ≡ length is) where
  -- a step of a marked row is one of i or of an edge that was marked
  own_mark : (k : ℕ) → mark_at is (set ms row true) k ≡ eqb i k || mark_at is ms k
  own_mark k = go (eqb i k) refl
    where
      go : (b : Bool) → eqb i k ≡ b → mark_at is (set ms row true) k ≡ b || mark_at is ms k
      go true q =
          ap (λ (r : ℕ). get_or (set ms row true) r false) (sym (e ∙ ap (λ (j : ℕ). row_of j is) (eqb-true i k q))) ∙ get_or-set_same ms row true false (omega arith)
      go false q =
          get_or-set_other ms row (row_of k is) true false
          (λ f. eqb-false i k q (sym (row_has i is (omega arith)) ∙ ap (λ (r : ℕ). get_or is r 0) (sym e ∙ sym f) ∙ row_has k is (omega arith)))

  own_cycle : (c : Cycle) → cycle_marked is (set ms row true) i c ≡ cycle_holds is ms i c
  own_cycle (lone v) = refl
  own_cycle (path hs) = any_same (step_marked is (set ms row true)) (step_holds is ms i) (λ x. own_mark x.edge) hs

  -- the faces marked by it, beside the open edges, are the star
  star_marked : (ks ss es cs ns st : List ℕ) → ms ≡ edge_marks i ks ss es
      → face_marks (cycle_marked is (set ms row true) i) ms cs ns st ≡ star_marks is ks ss es cs ns st i
  unfolding star_marks
  star_marked ks ss es cs ns st g =
      ap (cell_marks ms cs) (map_same (cycle_marked is (set ms row true) i) (cycle_holds is ms i) own_cycle (cycles_from (take (sum_of cs) ns) st))
      ∙ ap (λ (x : List Bool). face_marks (cycle_holds is x i) x cs ns st) g

-- the same of the first n rows of arrays
pub star_after : (n : ℕ) (is : List ℕ) (ms : List Bool) (i row : ℕ) (ks ss es cs ns st : List ℕ) → n ≤ length is → n ≤ length ms
    → row ≡ row_of i (take n is) → row < n → take n ms ≡ edge_marks i ks ss es
    → face_marks (cycle_marked (take n is) (take n (set ms row true)) i) (take n ms) cs ns st ≡ star_marks (take n is) ks ss es cs ns st i
star_after n is ms i row ks ss es cs ns st hi hm e h g =
    let li = length-take-le n is hi in
    let lm = length-take-le n ms hm in
    ap (λ (l : List Bool). face_marks (cycle_marked (take n is) l i) (take n ms) cs ns st) (take-set-lt n ms row true h)
    ∙ star_marked (take n is) (take n ms) i row e (omega arith) (lm ∙ sym li) ks ss es cs ns st g

-- ---- the marked elements, one row more
module _ {A : Type 0} where
  pub picked_length : (ms : List Bool) (xs : List A) → length ms ≡ length xs → length (picked ms xs) ≡ total bit ms
  picked_length [] xs h = refl
  picked_length (m ∷ ms) [] h = absurd (omega arith)
  picked_length (true ∷ ms) (x ∷ xs) h = let e = picked_length ms xs (omega arith) in omega arith
  picked_length (false ∷ ms) (x ∷ xs) h = let e = picked_length ms xs (omega arith) in omega arith

  cons_if_append : (b : Bool) (x : A) (xs ys : List A) → cons_if b x (xs ++ ys) ≡ cons_if b x xs ++ ys
  cons_if_append true x xs ys = refl
  cons_if_append false x xs ys = refl

  picked_suc : (ms : List Bool) (xs : List A) (j : ℕ) (y : Bool) (z : A) → j < length ms → j < length xs
      → picked (take (suc j) ms) (take (suc j) xs) ≡ picked (take j ms) (take j xs) ++ cons_if (get_or ms j y) (get_or xs j z) []
  picked_suc [] xs j y z h g = absurd (omega arith)
  picked_suc (m ∷ ms) [] j y z h g = absurd (omega arith)
  picked_suc (m ∷ ms) (x ∷ xs) zero y z h g = refl
  picked_suc (m ∷ ms) (x ∷ xs) (suc j) y z h g =
      ap (cons_if m x) (picked_suc ms xs j y z (omega arith) (omega arith))
      ∙ cons_if_append m x (picked (take j ms) (take j xs)) (cons_if (get_or ms j y) (get_or xs j z) [])

  -- the marked ones of the first i stand in the first k places of out, and the others are as they were
  pub record Picking (ms : List Bool) (xs out₀ : List A) (i k : ℕ) (out : List A) : Type 0 where
    pub count : k ≡ total bit (take i ms)
    pub whole : out ≡ picked (take i ms) (take i xs) ++ drop k out₀

  module _ (ms : List Bool) (xs out₀ : List A) (i k : ℕ) (out : List A) (y : Bool) (z : A) (hm : i < length ms) (hx : i < length xs)
      (p : Picking ms xs out₀ i k out) where
    front_length : length (picked (take i ms) (take i xs)) ≡ k
    front_length =
        picked_length (take i ms) (take i xs) (length-take-le i ms (omega arith) ∙ sym (length-take-le i xs (omega arith))) ∙ sym p.count

    grown : picked (take (i + 1) ms) (take (i + 1) xs) ≡ picked (take i ms) (take i xs) ++ cons_if (get_or ms i y) (get_or xs i z) []
    grown = ap (λ (n : ℕ). picked (take n ms) (take n xs)) (add-one i) ∙ picked_suc ms xs i y z hm hx

    put : (b : Bool) → get_or ms i y ≡ b → k + bit b ≤ length out₀
        → cond b (set out k (get_or xs i z)) out ≡ picked (take (i + 1) ms) (take (i + 1) xs) ++ drop (k + bit b) out₀
    put true e h =
        ap (λ (l : List A). set l k (get_or xs i z)) (p.whole ∙ ap (λ (l : List A). picked (take i ms) (take i xs) ++ l) (drop-cons out₀ k z (omega arith)))
        ∙ set_at (picked (take i ms) (take i xs)) (get_or out₀ k z) (drop (suc k) out₀) (get_or xs i z) k front_length
        ∙ sym (append_snoc (picked (take i ms) (take i xs)) (get_or xs i z) (drop (suc k) out₀))
        ∙ ap₂ (λ (l : List A) (n : ℕ). l ++ drop n out₀) (sym (grown ∙ ap (λ (b : Bool). picked (take i ms) (take i xs) ++ cons_if b (get_or xs i z) []) e))
        (sym (add-one k))
    put false e h =
        let q : k ≡ k + 0 = omega arith in
        p.whole
        ∙ ap₂ (λ (l : List A) (n : ℕ). l ++ drop n out₀)
        (sym (grown ∙ ap (λ (b : Bool). picked (take i ms) (take i xs) ++ cons_if b (get_or xs i z) []) e ∙ append-nil (picked (take i ms) (take i xs)))) q

    pub picking_turn : (b : Bool) → get_or ms i y ≡ b → (w : ℕ) → w ≡ bit b → k + w ≤ length out₀ → (out' : List A) → out' ≡ cond b (set out k (get_or xs i z)) out
        → Picking ms xs out₀ (i + 1) (k + w) out'
    picking_turn b e w g h out' f =
        record {
          count = ap₂ ◌+◌ p.count (g ∙ sym (ap bit e)) ∙ sym (sum_more bit ms i y hm);
          whole = f ∙ put b e (omega (arith, g)) ∙ ap (λ (n : ℕ). picked (take (i + 1) ms) (take (i + 1) xs) ++ drop (k + n) out₀) (sym g);
        }

pub bit_most : (b : Bool) → bit b ≤ 1
bit_most true = omega arith
bit_most false = omega arith

-- a mark as a number
pub one_is : (b : Bool) → bool_byte b ≡ bit b
one_is true = refl
one_is false = refl

-- ---- an answer in a buffer
module _ (xs buffer : List ℕ) (k : ℕ) (e : k ≡ length xs) where
  pub filled_room : k ≤ length buffer → (out : List ℕ) → out ≡ xs ++ drop k buffer → record { number = 0; count = k; buffer = out } ≡ filled xs buffer
  filled_room h out g =
      (λ j. record { number = 0; count = e j; buffer = (g ∙ ap (λ (n : ℕ). xs ++ drop n buffer) e) j })
      ∙ sym (ap (λ (b : Bool). cond b (record { number = 0; count = length xs; buffer = xs ++ drop (length xs) buffer })
      (record { number = 9; count = length xs; buffer = buffer }))
      (le-leb (length xs) (length buffer) (omega arith)))

  pub filled_short : length buffer < k → record { number = 9; count = k; buffer = buffer } ≡ filled xs buffer
  filled_short h =
      (λ j. record { number = 9; count = e j; buffer = buffer })
      ∙ sym (ap (λ (b : Bool). cond b (record { number = 0; count = length xs; buffer = xs ++ drop (length xs) buffer })
      (record { number = 9; count = length xs; buffer = buffer }))
      (lt-leb (length xs) (length buffer) (omega arith)))
