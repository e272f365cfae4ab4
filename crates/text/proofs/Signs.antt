-- A signed number without its sign. Assumes nothing.
use Prim.Native.Nat.{ℕ, ◌+◌, ◌≤◌}
use native.Mathlib.Omega.{arith}
use borrow.Author.Tests.{ltb-true}
use mathlib.Core.Path.{◌≡◌, refl, sym, ap, ◌∙◌, subst}
use mathlib.Core.Bool.{true, false}
use mathlib.Core.List.{◌∷◌}
use lib.Dec.{T}
use lib.ListN.{length}
use lib.IntN.{ℤ, pos, negsuc, nat_abs, ◌-ℤ◌}
use lib.Signed.{mag, lt_z, non_neg}
use Rattle.complex.specs.Program.{decimal, signed}
use Rattle.complex.proofs.Bools.{false_not}
use Rattle.text.proofs.Decimal.{decimal_few}
use mir.Syntax.{w32, w64}
use mir.Val.{Fits, SFits, of_z, to_z}
use mir.ValLaws.{to_z-of_z}

turned : (v : ℤ) → lt_z v (pos 0) ≡ true → pos 0 -ℤ v ≡ pos (nat_abs v)
turned (pos n) e = absurd (omega (arith, ltb-true n 0 e))
turned (negsuc n) e = ap pos (omega arith)

kept : (v : ℤ) → lt_z v (pos 0) ≡ false → T (non_neg v)
kept (pos n) e = tt
kept (negsuc n) e = absurd (false_not e tt)

negative : (v : ℤ) → lt_z v (pos 0) ≡ true → 45 ∷ decimal (nat_abs v) ≡ signed v
negative (pos n) e = absurd (omega (arith, ltb-true n 0 e))
negative (negsuc n) e = refl

plain : (v : ℤ) → lt_z v (pos 0) ≡ false → decimal (nat_abs v) ≡ signed v
plain (pos n) e = refl
plain (negsuc n) e = absurd (false_not e tt)

abs_most : (v : ℤ) → nat_abs v ≤ mag v + 1
abs_most (pos n) = omega arith
abs_most (negsuc n) = omega arith

signed_most : (v : ℤ) → length (signed v) ≤ length (decimal (nat_abs v)) + 1
signed_most (pos n) = omega arith
signed_most (negsuc n) = omega arith

-- v as the code reads it
module _ (v : ℤ) (f : SFits w32 v) where
  pub back : to_z w32 (of_z w32 v) ≡ v
  back = to_z-of_z w32 v f

  pub abs_fits : Fits w32 (nat_abs v)
  abs_fits = let h = f.sfits in let m = abs_most v in record { fits = omega arith }

  -- ten digits at most, and the hyphen
  pub signed_few : length (signed v) ≤ 11
  signed_few = let h = decimal_few (nat_abs v) abs_fits.fits in let g = signed_most v in omega arith

  pub wide_fits : SFits w64 (to_z w32 (of_z w32 v))
  wide_fits = subst (SFits w64) (sym back) (let h = f.sfits in record { sfits = omega arith })

  wide_back : to_z w64 (of_z w64 (to_z w32 (of_z w32 v))) ≡ v
  wide_back = to_z-of_z w64 (to_z w32 (of_z w32 v)) wide_fits ∙ back

  module _ (t : lt_z (to_z w32 (of_z w32 v)) (pos 0) ≡ true) where
    minus : pos 0 -ℤ to_z w64 (of_z w64 (to_z w32 (of_z w32 v))) ≡ pos (nat_abs v)
    minus = ap (λ (x : ℤ). pos 0 -ℤ x) wide_back ∙ turned v (ap (λ (x : ℤ). lt_z x (pos 0)) (sym back) ∙ t)

    pub minus_fits : SFits w64 (pos 0 -ℤ to_z w64 (of_z w64 (to_z w32 (of_z w32 v))))
    minus_fits = subst (SFits w64) (sym minus) (let h = f.sfits in let m = abs_most v in record { sfits = omega arith })

    minus_back : to_z w64 (of_z w64 (pos 0 -ℤ to_z w64 (of_z w64 (to_z w32 (of_z w32 v))))) ≡ pos (nat_abs v)
    minus_back = to_z-of_z w64 _ minus_fits ∙ minus

    pub minus_cast : T (non_neg (to_z w64 (of_z w64 (pos 0 -ℤ to_z w64 (of_z w64 (to_z w32 (of_z w32 v)))))))
        × Fits w32 (nat_abs (to_z w64 (of_z w64 (pos 0 -ℤ to_z w64 (of_z w64 (to_z w32 (of_z w32 v)))))))
    minus_cast = subst (λ (x : ℤ). T (non_neg x) × Fits w32 (nat_abs x)) (sym minus_back) (tt, abs_fits)

    pub minus_abs : nat_abs (to_z w64 (of_z w64 (pos 0 -ℤ to_z w64 (of_z w64 (to_z w32 (of_z w32 v)))))) ≡ nat_abs v
    minus_abs = ap nat_abs minus_back

  pub plain_cast : lt_z (to_z w32 (of_z w32 v)) (pos 0) ≡ false → T (non_neg (to_z w32 (of_z w32 v))) × Fits w32 (nat_abs (to_z w32 (of_z w32 v)))
  plain_cast t = (kept (to_z w32 (of_z w32 v)) t, subst (λ (x : ℤ). Fits w32 (nat_abs x)) (sym back) abs_fits)

  pub plain_abs : nat_abs (to_z w32 (of_z w32 v)) ≡ nat_abs v
  plain_abs = ap nat_abs back

  -- what is put for it
  pub signed_negative : lt_z (to_z w32 (of_z w32 v)) (pos 0) ≡ true → (n : ℕ) → n ≡ nat_abs (to_z w32 (of_z w32 v)) → 45 ∷ decimal n ≡ signed v
  signed_negative t n e = ap (λ (m : ℕ). 45 ∷ decimal m) (e ∙ ap nat_abs back) ∙ negative v (ap (λ (x : ℤ). lt_z x (pos 0)) (sym back) ∙ t)

  pub signed_plain : lt_z (to_z w32 (of_z w32 v)) (pos 0) ≡ false → (n : ℕ) → n ≡ nat_abs (to_z w32 (of_z w32 v)) → decimal n ≡ signed v
  signed_plain t n e = ap decimal (e ∙ ap nat_abs back) ∙ plain v (ap (λ (x : ℤ). lt_z x (pos 0)) (sym back) ∙ t)
