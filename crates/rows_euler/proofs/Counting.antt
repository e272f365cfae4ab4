-- Sums of gains and losses, and their difference as a signed number. Assumes nothing.
use Prim.Native.Nat.{ℕ, zero, suc, ◌+◌, ◌-◌, ◌*◌, ◌<◌, ◌≤◌}
use mathlib.Core.Path.{◌≡◌, refl, ap, ap₂, sym, subst, ◌∙◌}
use mathlib.Core.List.{List, [], ◌∷◌}
use mathlib.Core.Bool.{Bool, true, false, cond}
use native.Mathlib.Omega.{arith}
use native.Mathlib.Numerals.{add-one}
use lib.Dec.{eqb, ltb}
use lib.IntN.{pos, negsuc, sub_ℕ, ◌-ℤ◌}
use lib.Signed.{mag}
use lib.ListN.{length, take, get_or}
use mir.Syntax.{w32}
use mir.Val.{SFits, to_z}
use mir.ValLaws.{to_z_pos}
use Rattle.complex.specs.Lists.{total}
use Rattle.complex.proofs.Gains.{pos_sub}
use Rattle.rows_marks.specs.Marks.{sum_of}
use Rattle.rows_euler.specs.Shares.{gain_in, loss_in, losses_in}

-- ---- gains and losses
pub gain_most : (k : ℕ) → gain_in k ≤ 2
gain_most k = go (eqb k 0) (eqb k 3)
  where
    go : (a b : Bool) → cond a 1 (cond b 2 0) ≤ 2
    go true b = omega arith
    go false true = omega arith
    go false false = omega arith

pub gains_most : (ks : List ℕ) → total gain_in ks ≤ 2 * length ks
gains_most [] = omega arith
gains_most (k ∷ ks) = let a = gain_most k in let b = gains_most ks in omega arith

loss_most : (k c : ℕ) → loss_in k c ≤ 1 + c
loss_most k c = go (eqb k 1)
  where
    go : (a : Bool) → cond a 1 c ≤ 1 + c
    go true = omega arith
    go false = omega arith

pub losses_most : (ks cs : List ℕ) → losses_in ks cs ≤ length ks + sum_of cs
losses_most [] cs = omega arith
losses_most (k ∷ ks) [] = omega arith
losses_most (k ∷ ks) (c ∷ cs) = let a = loss_most k c in let b = losses_most ks cs in omega arith

losses_suc : (ks cs : List ℕ) (i : ℕ) → i < length ks → i < length cs
    → losses_in (take (suc i) ks) (take (suc i) cs) ≡ losses_in (take i ks) (take i cs) + loss_in (get_or ks i 0) (get_or cs i 0)
losses_suc [] cs i h g = absurd (omega arith)
losses_suc (k ∷ ks) [] i h g = absurd (omega arith)
losses_suc (k ∷ ks) (c ∷ cs) zero h g = omega arith
losses_suc (k ∷ ks) (c ∷ cs) (suc i) h g = let e = losses_suc ks cs i (omega arith) (omega arith) in omega arith

-- one row more
pub losses_more : (ks cs : List ℕ) (i : ℕ) → i < length ks → i < length cs → (down w : ℕ) → down ≡ losses_in (take i ks) (take i cs)
    → w ≡ loss_in (get_or ks i 0) (get_or cs i 0)
    → down + w ≡ losses_in (take (i + 1) ks) (take (i + 1) cs)
losses_more ks cs i h g down w e f =
    ap₂ ◌+◌ e f ∙ sym (losses_suc ks cs i h g) ∙ ap (λ (n : ℕ). losses_in (take n ks) (take n cs)) (sym (add-one i))

-- ---- the difference
minus : (a b : ℕ) → pos a -ℤ pos b ≡ sub_ℕ a b
minus a zero = ap pos (omega arith) ∙ pos_sub a
minus a (suc b) = refl

sub_most : (a b : ℕ) → mag (sub_ℕ a b) ≤ a + b
sub_most a b = go (ltb a b) refl
  where
    go : (x : Bool) → ltb a b ≡ x → mag (cond x (negsuc (b - suc a)) (pos (a - b))) ≤ a + b
    go true e = omega arith
    go false e = omega arith

module _ (a b : ℕ) (h : a ≤ 1024) (g : b ≤ 1024) where
  pub difference_is : to_z w32 a -ℤ to_z w32 b ≡ sub_ℕ a b
  difference_is = ap₂ ◌-ℤ◌ (to_z_pos w32 a (omega arith)) (to_z_pos w32 b (omega arith)) ∙ minus a b

  pub difference_fits : SFits w32 (to_z w32 a -ℤ to_z w32 b)
  difference_fits = subst (SFits w32) (sym difference_is) (record { sfits = (let m = sub_most a b in omega arith) })
