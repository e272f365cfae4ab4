-- The positions of two arrays, both cut, joined or moved alike. Assumes nothing.
use Prim.Native.Nat.{ℕ, zero, suc, ◌+◌, ◌-◌, ◌≤◌}
use native.Mathlib.Omega.{arith}
use mathlib.Core.Path.{◌≡◌, refl, sym, ap, ap₂, ◌∙◌}
use mathlib.Core.List.{List, [], ◌∷◌, ◌++◌}
use lib.Ieee.{Float}
use lib.ListN.{length, take, drop}
use lib.Seq.{slice, length-take-le, length-slice}
use Rattle.coordinate.specs.declared.Position.{Position}
use Rattle.lent.specs.Arrays.{positions_in}
use Rattle.kernel_bends.specs.Turned.{rotated, moved_last}
use Rattle.kernel_bends.proofs.Last.{rotated_length}

pub positions_none : (xs : List Float) → positions_in xs [] ≡ []
positions_none [] = refl
positions_none (x ∷ xs) = refl

pub positions_take : (n : ℕ) (xs ys : List Float) → positions_in (take n xs) (take n ys) ≡ take n (positions_in xs ys)
positions_take zero xs ys = refl
positions_take (suc n) [] ys = refl
positions_take (suc n) (x ∷ xs) [] = refl
positions_take (suc n) (x ∷ xs) (y ∷ ys) = ap (λ (l : List Position). record { x = x; y = y } ∷ l) (positions_take n xs ys)

pub positions_drop : (n : ℕ) (xs ys : List Float) → positions_in (drop n xs) (drop n ys) ≡ drop n (positions_in xs ys)
positions_drop zero xs ys = refl
positions_drop (suc n) [] ys = refl
positions_drop (suc n) (x ∷ xs) [] = positions_none (drop n xs)
positions_drop (suc n) (x ∷ xs) (y ∷ ys) = positions_drop n xs ys

pub positions_append : (xs us ys vs : List Float) → length xs ≡ length ys → positions_in (xs ++ us) (ys ++ vs) ≡ positions_in xs ys ++ positions_in us vs
positions_append [] us [] vs h = refl
positions_append [] us (y ∷ ys) vs h = absurd (omega (arith, h))
positions_append (x ∷ xs) us [] vs h = absurd (omega (arith, h))
positions_append (x ∷ xs) us (y ∷ ys) vs h = ap (λ (l : List Position). record { x = x; y = y } ∷ l) (positions_append xs us ys vs (omega (arith, h)))

pub positions_rotated : (f m t : ℕ) (xs ys : List Float) → length xs ≡ length ys → f ≤ m → m ≤ t → t ≤ length xs
    → positions_in (rotated f m t xs) (rotated f m t ys) ≡ rotated f m t (positions_in xs ys)
positions_rotated f m t xs ys e hm ht hl =
    positions_append (take f xs) (slice m t xs ++ (slice f m xs ++ drop t xs)) (take f ys) (slice m t ys ++ (slice f m ys ++ drop t ys))
    (length-take-le f xs (omega arith) ∙ sym (length-take-le f ys (omega (arith, e))))
    ∙ ap₂ ◌++◌ (positions_take f xs ys)
    (positions_append (slice m t xs) (slice f m xs ++ drop t xs) (slice m t ys) (slice f m ys ++ drop t ys)
    (length-slice m t xs hl ∙ sym (length-slice m t ys (omega (arith, e))))
    ∙ ap₂ ◌++◌ (part m t)
    (positions_append (slice f m xs) (drop t xs) (slice f m ys) (drop t ys) (length-slice f m xs (omega arith) ∙ sym (length-slice f m ys (omega (arith, e))))
    ∙ ap₂ ◌++◌ (part f m) (positions_drop t xs ys)))
  where
    part : (g u : ℕ) → positions_in (slice g u xs) (slice g u ys) ≡ slice g u (positions_in xs ys)
    part g u = positions_drop g (take u xs) (take u ys) ∙ ap (drop g) (positions_take u xs ys)

pub positions_moved : (base m i j t : ℕ) (xs ys : List Float) → length xs ≡ length ys → i ≤ j → j ≤ m → base + m ≤ t → t ≤ length xs
    → positions_in (moved_last base m i j t xs) (moved_last base m i j t ys) ≡ moved_last base m i j t (positions_in xs ys)
positions_moved base m i j t xs ys e hi hj hb hl =
    let lx = rotated_length base (base + m) t xs (omega arith) hb hl in
    let ly = rotated_length base (base + m) t ys (omega arith) hb (omega (arith, e)) in
    positions_rotated (t - m + i) (t - m + j) t (rotated base (base + m) t xs) (rotated base (base + m) t ys) (lx ∙ e ∙ sym ly) (omega arith) (omega arith)
    (omega (arith, lx))
    ∙ ap (rotated (t - m + i) (t - m + j) t) (positions_rotated base (base + m) t xs ys e (omega arith) hb hl)
