-- The tests of bends and of bounds, one number after another. Assumes nothing.
use Prim.Native.Nat.{ℕ, suc, ◌+◌, ◌-◌, ◌<◌, ◌≤◌}
use mathlib.Core.Path.{◌≡◌, refl, ap, sym, ◌∙◌}
use mathlib.Core.Bool.{Bool, true, false, ◌&&◌, cond}
use native.Mathlib.Omega.{arith}
use lib.Dec.{leb}
use borrow.Author.Tests.{le-leb, lt-leb}
use Rattle.complex.specs.Sound.{cells_most, ids_end}
use Rattle.complex.specs.Visits.{bounds_right}
use Rattle.sound.specs.Rows.{all_from}
use Rattle.sound.proofs.Testing.{and_true, and_false}
use Rattle.sound.proofs.Parts.{and_unit, and_assoc}

-- ---- the numbers from k to below m: b tells whether those before i are right, and the rest decides
module _ (p : ℕ → Bool) (k m : ℕ) where
  pub record Ranging (b : Bool) (i : ℕ) : Type 0 where
    pub rest : all_from p k (m - k) ≡ b && all_from p i (m - i)

  pub ranging_start : Ranging true k
  ranging_start = record { rest = refl }

  pub ranging_turn : (b : Bool) (i : ℕ) → i < m → Ranging b i → (r q : Bool) → q ≡ p i → r ≡ b && q → Ranging r (i + 1)
  ranging_turn b i h g r q eq er =
      let x : m - i ≡ suc (m - (i + 1)) = omega arith in
      let y : suc i ≡ i + 1 = omega arith in
      record {
        rest =
            g.rest ∙ ap (λ (n : ℕ). b && all_from p i n) x ∙ ap (λ (j : ℕ). b && (p i && all_from p j (m - (i + 1)))) y
            ∙ and_assoc b (p i) (all_from p (i + 1) (m - (i + 1)))
            ∙ ap (λ (t : Bool). t && all_from p (i + 1) (m - (i + 1))) (ap (λ (t : Bool). b && t) (sym eq) ∙ sym er);
      }

  pub ranging_end : (b : Bool) (i : ℕ) → m ≤ i → Ranging b i → b ≡ all_from p k (m - k)
  ranging_end b i e g = let z : m - i ≡ 0 = omega arith in sym (g.rest ∙ ap (λ (n : ℕ). b && all_from p i n) z ∙ and_unit b)

-- ---- where they are looked at
pub looked_at : (b x r : Bool) → b ≡ true → r ≡ x → r ≡ cond b x true
looked_at b x r e f = f ∙ sym (ap (λ (t : Bool). cond t x true) e)

pub passed_over : (b x : Bool) → b ≡ false → true ≡ cond b x true
passed_over b x e = sym (ap (λ (t : Bool). cond t x true) e)

-- ---- the next id and the number of cells
module _ (next count : ℕ) where
  pub bounds_first : next ≡ 0 → false ≡ bounds_right next count
  bounds_first e = sym (and_false _ (lt-leb 1 next (omega (arith, e))))

  module _ (n : next ≡ 0 → ⊥) where
    pub bounds_late : ids_end < next → false ≡ bounds_right next count
    bounds_late e = sym (and_true _ (le-leb 1 next (omega (arith, n))) ∙ and_false _ (lt-leb next ids_end e))

    pub bounds_count : next ≤ ids_end → leb count cells_most ≡ bounds_right next count
    bounds_count e = sym (and_true _ (le-leb 1 next (omega (arith, n))) ∙ and_true _ (le-leb next ids_end e))
