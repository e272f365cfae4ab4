-- Turns along paths and cycles. Assumes nothing.
use Prim.Native.Nat.{ℕ, zero, suc, ◌+◌, ◌<◌, ◌≤◌, ◌/◌, ◌%◌}
use mathlib.Core.Path.{◌≡◌, refl, ap, sym, ◌∙◌}
use mathlib.Core.Bool.{Bool, true, false, not, ◌&&◌, ◌||◌, beq}
use mathlib.Core.List.{List, [], ◌∷◌, ◌++◌, map}
use native.Mathlib.Omega.{arith}
use lib.Dec.{eqb}
use lib.ListN.{length, take, drop, get_or, get_or-eq_default}
use lib.Seq.{get_or-drop, drop-drop}
use borrow.Author.Tests.{eqb-true, eqb-false, eq-eqb, ne_eqb}
use Rattle.number.specs.Readers.{spread}
use Rattle.complex.specs.Lists.{any}
use Rattle.complex.specs.Cells.{Cycle, steps_of}
use Rattle.complex.specs.Uses.{Passage, passage, passages_from, passages}
use Rattle.complex.proofs.Bools.{or_none, or_assoc}
use Rattle.store.specs.View.{halfedge_of, width, width_sum, cycle_of, cycles_from}
use Rattle.store.proofs.Lists.{sum_more, sum_le}
use Rattle.sound.proofs.Testing.{left_cons, left_none}
use Rattle.store.specs.Index.{row_of, value_at}
use Rattle.sound.specs.Rows.{Rows, goes_on_at}
use Rattle.sound.proofs.Walking.{room}
use Rattle.ask_uncut_turns.specs.Turns.{side_in, leaves_in, turns_back, turns_at}

-- ---- tests
pub and_one_lem : (b : Bool) → b && true ≡ b
and_one_lem true = refl
and_one_lem false = refl

pub and_none : (b : Bool) → b && false ≡ false
and_none true = refl
and_none false = refl

module _ {A : Type 0} where
  pub any_append : (p : A → Bool) (xs ys : List A) → any p (xs ++ ys) ≡ any p xs || any p ys
  any_append p [] ys = refl
  any_append p (x ∷ xs) ys = ap (λ (b : Bool). p x || b) (any_append p xs ys) ∙ or_assoc (p x) (any p xs) (any p ys)

-- ---- two directions
pub opposite_back : (p q : Bool) → p ≡ true → not q ≡ beq (not p) q
opposite_back p true e = sym (ap (λ (b : Bool). beq (not b) true) e)
opposite_back p false e = sym (ap (λ (b : Bool). beq (not b) false) e)

pub opposite_forth : (p q : Bool) → p ≡ false → q ≡ beq (not p) q
opposite_forth p true e = sym (ap (λ (b : Bool). beq (not b) true) e)
opposite_forth p false e = sym (ap (λ (b : Bool). beq (not b) false) e)

eqb_turned : (a b : ℕ) → eqb a b ≡ eqb b a
eqb_turned a b = go (eqb a b) refl
  where
    go : (t : Bool) → eqb a b ≡ t → t ≡ eqb b a
    go true e = sym (eq-eqb b a (sym (eqb-true a b e)))
    go false e = sym (ne_eqb b a (λ f. eqb-false a b e (sym f)))

-- ---- one halfedge
module _ (t : Rows) (v s r : ℕ) (er : r ≡ row_of (s / 2) t.ids) where
  -- a row that goes on with it has an edge that leaves
  pub leaves_row : goes_on_at t.kinds t.starts t.ends r v s ≡ leaves_in t v (halfedge_of s)
  leaves_row =
      ap (λ (i : ℕ). goes_on_at t.kinds t.starts t.ends i v s) er
      ∙ ap (λ (b : Bool). eqb (value_at 4 t.ids t.kinds (s / 2)) 1 && b) (eqb_turned v (side_in t.ids t.starts t.ends (halfedge_of s)))

  -- the id of no row leaves nothing
  pub leaves_none : length t.kinds ≤ r → false ≡ leaves_in t v (halfedge_of s)
  leaves_none h =
      sym (ap (λ (k : ℕ). eqb k 1 && eqb (side_in t.ids t.starts t.ends (halfedge_of s)) v)
      (ap (λ (i : ℕ). get_or t.kinds i 4) (sym er) ∙ get_or-eq_default t.kinds 4 h))

-- ---- one passage
bits : (x y : ℕ) → x < 2 → y < 2 → not (eqb x y) ≡ beq (not (eqb x 1)) (eqb y 1)
bits zero zero h g = refl
bits zero (suc zero) h g = refl
bits (suc zero) zero h g = refl
bits (suc zero) (suc zero) h g = refl
bits (suc (suc x)) y h g = absurd (omega arith)
bits zero (suc (suc y)) h g = absurd (omega arith)
bits (suc zero) (suc (suc y)) h g = absurd (omega arith)

module _ (h k : ℕ) where
  whole_turn : h / 2 ≡ k / 2 → not (eqb (h % 2) (k % 2)) ≡ turns_back true (passage (halfedge_of h) (halfedge_of k))
  whole_turn e =
      bits (h % 2) (k % 2) (omega arith) (omega arith)
      ∙ sym (ap (λ (b : Bool). b && beq (not (eqb (h % 2) 1)) (eqb (k % 2) 1)) (eq-eqb (h / 2) (k / 2) e))

  pub back_whole : (whole : Bool) → whole ≡ true → h / 2 ≡ k / 2 → not (eqb (h % 2) (k % 2)) ≡ turns_back whole (passage (halfedge_of h) (halfedge_of k))
  back_whole whole w e = whole_turn e ∙ ap (λ (b : Bool). turns_back b (passage (halfedge_of h) (halfedge_of k))) (sym w)

  pub back_edge : (whole : Bool) → whole ≡ false → h / 2 ≡ k / 2 → true ≡ turns_back whole (passage (halfedge_of h) (halfedge_of k))
  back_edge whole w e = sym (eq-eqb (h / 2) (k / 2) e) ∙ ap (λ (b : Bool). turns_back b (passage (halfedge_of h) (halfedge_of k))) (sym w)

  pub back_none : (whole : Bool) → (h / 2 ≡ k / 2 → ⊥) → false ≡ turns_back whole (passage (halfedge_of h) (halfedge_of k))
  back_none true e = sym (ap (λ (b : Bool). b && beq (not (eqb (h % 2) 1)) (eqb (k % 2) 1)) (ne_eqb (h / 2) (k / 2) e))
  back_none false e = sym (ne_eqb (h / 2) (k / 2) e)

module _ (t : Rows) (whole : Bool) (v : ℕ) (q : Passage) where
  pub turns_then : turns_back whole q ≡ true → leaves_in t v q.leaves ≡ turns_at t whole v q
  turns_then e = sym (ap (λ (b : Bool). leaves_in t v q.leaves && b) e ∙ and_one_lem (leaves_in t v q.leaves))

  pub turns_not : turns_back whole q ≡ false → false ≡ turns_at t whole v q
  turns_not e = sym (ap (λ (b : Bool). leaves_in t v q.leaves && b) e ∙ and_none (leaves_in t v q.leaves))

-- ---- a path: h is the step before place i, and the passages from there on decide
module _ (p : Passage → Bool) (st : List ℕ) (from m first : ℕ) where
  pub record Turning (h i : ℕ) : Type 0 where
    pub rest : any p (passages (map halfedge_of (take m (drop from st))))
        ≡ any p (passages_from (halfedge_of first) (halfedge_of h) (map halfedge_of (drop i (take m (drop from st)))))

  pub turning_start : from + m ≤ length st → 1 ≤ m → first ≡ get_or st from 0 → Turning first 1
  turning_start g h e =
      let z : from ≡ from + 0 = omega arith in
      let f : first ≡ get_or (drop from st) 0 0 = e ∙ ap (λ (n : ℕ). get_or st n 0) z ∙ sym (get_or-drop from st 0 0) in
      record {
        rest =
            ap (λ (l : List ℕ). any p (passages (map halfedge_of l)))
            (left_cons (drop from st) m 0 0 (room st from m g) h ∙ ap (λ (x : ℕ). x ∷ drop 1 (take m (drop from st))) (sym f));
      }

module _ {p : Passage → Bool} {st : List ℕ} {from m first h i : ℕ} (t : Turning p st from m first h i) (g : from + m ≤ length st) where
  module _ (j : i < m) where
    next : any p (passages (map halfedge_of (take m (drop from st))))
        ≡ p (passage (halfedge_of h) (halfedge_of (get_or st (from + i) 0)))
        || any p (passages_from (halfedge_of first) (halfedge_of (get_or st (from + i) 0)) (map halfedge_of (drop (i + 1) (take m (drop from st)))))
    next =
        t.rest
        ∙ ap (λ (l : List ℕ). any p (passages_from (halfedge_of first) (halfedge_of h) (map halfedge_of l)))
        (left_cons (drop from st) m i 0 (room st from m g) j
        ∙ ap (λ (x : ℕ). x ∷ drop (i + 1) (take m (drop from st))) (get_or-drop from st i 0))

    pub turning_found : p (passage (halfedge_of h) (halfedge_of (get_or st (from + i) 0))) ≡ true → true ≡ any p (passages (map halfedge_of (take m (drop from st))))
    turning_found e =
        sym (next ∙ ap (λ (b : Bool). b || any p
        (passages_from (halfedge_of first) (halfedge_of (get_or st (from + i) 0)) (map halfedge_of (drop (i + 1) (take m (drop from st)))))) e)

    pub turning_turn : p (passage (halfedge_of h) (halfedge_of (get_or st (from + i) 0))) ≡ false → Turning p st from m first (get_or st (from + i) 0) (i + 1)
    turning_turn e =
        record {
          rest = next ∙ ap
              (λ (b : Bool). b || any p
              (passages_from (halfedge_of first) (halfedge_of (get_or st (from + i) 0)) (map halfedge_of (drop (i + 1) (take m (drop from st)))))) e;
        }

  pub turning_end : i ≡ m → p (passage (halfedge_of h) (halfedge_of first)) ≡ any p (passages (map halfedge_of (take m (drop from st))))
  turning_end e =
      sym (t.rest
      ∙ ap (λ (l : List ℕ). any p (passages_from (halfedge_of first) (halfedge_of h) (map halfedge_of l))) (left_none (drop from st) m i (room st from m g) e)
      ∙ or_none (p (passage (halfedge_of h) (halfedge_of first))))

-- ---- a cycle by its number of steps
module _ (p : Passage → Bool) (l : List ℕ) where
  pub lone_turns : (c : ℕ) → c ≡ 0 → false ≡ any p (passages (steps_of (cycle_of c l)))
  lone_turns c e = sym (ap (λ (n : ℕ). any p (passages (steps_of (cycle_of n l)))) e)

  steps_turn : (c : ℕ) → (c ≡ 0 → ⊥) → any p (passages (map halfedge_of (take c l))) ≡ any p (passages (steps_of (cycle_of c l)))
  steps_turn zero h = absurd (h refl)
  steps_turn (suc c) h = refl

  pub path_turned : (c : ℕ) → (c ≡ 0 → ⊥) → (m : ℕ) → m ≡ c → any p (passages (map halfedge_of (take m l))) ≡ any p (passages (steps_of (cycle_of c l)))
  path_turned c h m e = ap (λ (n : ℕ). any p (passages (map halfedge_of (take n l)))) e ∙ steps_turn c h

-- ---- the cycles: those of the first i have no p among what g gives, and the steps of the others begin at `from`
module _ {A : Type 0} (p : A → Bool) (g : Cycle → List A) (ns st : List ℕ) (m : ℕ) where
  pub record Rounding (from i : ℕ) : Type 0 where
    pub from_is : from ≡ width_sum (take i ns)
    pub rest : any p (spread g (cycles_from (take m ns) st)) ≡ any p (spread g (cycles_from (drop i (take m ns)) (drop from st)))

  pub rounding_start : Rounding 0 0
  rounding_start = record { from_is = refl; rest = refl }

module _ {A : Type 0} {p : A → Bool} {g : Cycle → List A} {ns st : List ℕ} {m from i : ℕ} (x : Rounding p g ns st m from i) (h : m ≤ length ns) where
  module _ (k : i < m) where
    after : any p (spread g (cycles_from (take m ns) st))
        ≡ any p (g (cycle_of (get_or ns i 0) (drop from st)))
        || any p (spread g (cycles_from (drop (i + 1) (take m ns)) (drop (width (get_or ns i 0)) (drop from st))))
    after =
        x.rest ∙ ap (λ (y : List ℕ). any p (spread g (cycles_from y (drop from st)))) (left_cons ns m i 0 h k)
        ∙ any_append p (g (cycle_of (get_or ns i 0) (drop from st))) (spread g (cycles_from (drop (i + 1) (take m ns)) (drop (width (get_or ns i 0)) (drop from st))))

    sum : from + width (get_or ns i 0) ≡ width_sum (take (i + 1) ns)
    sum = ap (λ (y : ℕ). y + width (get_or ns i 0)) x.from_is ∙ sym (sum_more width ns i 0 (omega arith))

    pub rounding_room : (n : ℕ) → width_sum (take m ns) ≤ n → from + width (get_or ns i 0) ≤ n
    rounding_room n r = let a = sum in let b = sum_le width ns (i + 1) m (omega arith) in omega arith

    pub rounding_found : any p (g (cycle_of (get_or ns i 0) (drop from st))) ≡ true → true ≡ any p (spread g (cycles_from (take m ns) st))
    rounding_found e =
        sym (after ∙ ap (λ (b : Bool). b || any p (spread g (cycles_from (drop (i + 1) (take m ns)) (drop (width (get_or ns i 0)) (drop from st))))) e)

    pub rounding_turn : any p (g (cycle_of (get_or ns i 0) (drop from st))) ≡ false → (w : ℕ) → w ≡ width (get_or ns i 0) → Rounding p g ns st m (from + w) (i + 1)
    rounding_turn e w f =
        record {
          from_is = ap (λ (y : ℕ). from + y) f ∙ sum;
          rest =
              after ∙ ap (λ (b : Bool). b || any p (spread g (cycles_from (drop (i + 1) (take m ns)) (drop (width (get_or ns i 0)) (drop from st))))) e
              ∙ ap (λ (l : List ℕ). any p (spread g (cycles_from (drop (i + 1) (take m ns)) l)))
              (drop-drop (width (get_or ns i 0)) from st ∙ ap (λ (y : ℕ). drop (from + y) st) (sym f));
        }

  pub rounding_end : i ≡ m → false ≡ any p (spread g (cycles_from (take m ns) st))
  rounding_end e = sym (x.rest ∙ ap (λ (y : List ℕ). any p (spread g (cycles_from y (drop from st)))) (left_none ns m i h e))
