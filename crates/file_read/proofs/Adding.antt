-- Lists put one after another into an array, from a place on. Assumes nothing.
use Prim.Native.Nat.{ℕ, zero, suc, ◌+◌, ◌*◌, ◌≤◌, ◌<◌}
use native.Mathlib.Omega.{arith}
use native.Mathlib.Numerals.{add-one}
use mathlib.Core.Path.{◌≡◌, refl, ap, ◌∙◌}
use mathlib.Core.List.{List, [], ◌∷◌, ◌++◌, append_assoc, map}
use lib.ListN.{length, take, set, length-append, length-set}
use lib.Seq.{take-suc-set}
use Rattle.number.proofs.Counted.{Each}
use Rattle.coordinate.specs.declared.Position.{Position}
use Rattle.coordinate.specs.Positions.{position_at}
use Rattle.bends.specs.Bends.{positions_at}
use Rattle.store.proofs.Stands.{Begins}
use Rattle.store.proofs.Grow.{begins_more, no_more}
use Rattle.file_read.specs.Filling.{Added, spots_from}

module _ {A : Type 0} where
  pub added_none : (l : List A) (n : ℕ) → n ≤ length l → Added l n [] l
  added_none l n h = record { size = refl; room = omega arith; front = no_more l n }

  pub added_one : (l : List A) (n : ℕ) (v : A) → n < length l → Added l n (v ∷ []) (set l n v)
  added_one l n v h =
      record {
        size = length-set l n v;
        room = omega arith;
        front = ap (λ (k : ℕ). take k (set l n v)) (add-one n) ∙ take-suc-set l n v h;
      }

  pub added_then : {l x l' y l'' : List A} {n : ℕ} (m : ℕ) → m ≡ n + length x → Added l n x l' → Added l' m y l'' → Added l n (x ++ y) l''
  added_then {l} {x} {l'} {y} {l''} {n} m e a b =
      let g = length-append x y in
      let k : n + length (x ++ y) ≡ m + length y = omega arith in
      record {
        size = b.size ∙ a.size;
        room = omega (arith, a.size, b.room);
        front =
            ap (λ (j : ℕ). take j l'') k ∙ b.front ∙ ap (λ (j : ℕ). take j l' ++ y) e ∙ ap (λ (z : List A). z ++ y) a.front ∙ append_assoc (take n l) x y;
      }

  -- an array that begins with x, and then has y
  pub begins_added : {l x y l' : List A} (n : ℕ) → n ≡ length x → Begins l x → Added l n y l' → Begins l' (x ++ y)
  begins_added {l} {x} {y} {l'} n e b a = begins_more l' y n e (omega (arith, a.size, a.room)) a.front b

  pub each_append : (P : A → Type 0) (xs ys : List A) → Each P xs → Each P ys → Each P (xs ++ ys)
  each_append P [] ys h g = g
  each_append P (x ∷ xs) ys h g = (h.0, each_append P xs ys h.1 g)

-- ---- the places of bends
pub spots_length : (first n : ℕ) → length (spots_from first n) ≡ n
spots_length first zero = refl
spots_length first (suc n) = ap suc (spots_length (first + 16) n)

pub spots_positions : (s : List ℕ) (first n : ℕ) → map (position_at s) (spots_from first n) ≡ positions_at s first n
spots_positions s first zero = refl
spots_positions s first (suc n) = ap (λ (l : List Position). position_at s first ∷ l) (spots_positions s (first + 16) n)

pub spots_inside : (m first n : ℕ) → first + 16 * n ≤ m → Each (λ (p : ℕ). p + 16 ≤ m) (spots_from first n)
spots_inside m first zero h = tt
spots_inside m first (suc n) h = (omega arith, spots_inside m (first + 16) n (omega arith))
