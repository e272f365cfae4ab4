-- A list by its parts, two of them changing places, and the positions of two arrays turned alike. Assumes nothing.
use Prim.Native.Nat.{ℕ, ◌+◌, ◌≤◌}
use native.Mathlib.Omega.{arith}
use mathlib.Core.Path.{◌≡◌, refl, sym, ap, ap₂, ◌∙◌}
use mathlib.Core.List.{List, [], ◌∷◌, ◌++◌, append_assoc, reverse, reverse-cons}
use lib.Ieee.{Float}
use lib.ListN.{length, take, drop, length-append, length-reverse}
use lib.Seq.{slice, take_at, drop_at, length-take-le, length-slice}
use Rattle.coordinate.specs.declared.Position.{Position}
use Rattle.lent.specs.Arrays.{positions_in}
use Rattle.kernel_bends.specs.Turned.{turned, rotated}
use Rattle.kernel_bends.proofs.Positions.{positions_take, positions_drop, positions_append}

module _ {A : Type 0} where
  pub rotated_is : (a b c z : List A) (f m t : ℕ) → length a ≡ f → f + length b ≡ m → m + length c ≡ t
      → rotated f m t (a ++ (b ++ (c ++ z))) ≡ a ++ (c ++ (b ++ z))
  rotated_is a b c z f m t ha hb hc =
      let l = a ++ (b ++ (c ++ z)) in
      let lab : length (a ++ b) ≡ m = length-append a b ∙ ap (λ (n : ℕ). n + length b) ha ∙ hb in
      let labc : length ((a ++ b) ++ c) ≡ t = length-append (a ++ b) c ∙ ap (λ (n : ℕ). n + length c) lab ∙ hc in
      let l2 : l ≡ (a ++ b) ++ (c ++ z) = sym (append_assoc a b (c ++ z)) in
      let l3 : l ≡ ((a ++ b) ++ c) ++ z = l2 ∙ sym (append_assoc (a ++ b) c z) in
      let tf : take f l ≡ a = take_at a (b ++ (c ++ z)) f ha in
      let tm : slice f m l ≡ b = ap (λ (q : List A). drop f (take m q)) l2 ∙ ap (drop f) (take_at (a ++ b) (c ++ z) m lab) ∙ drop_at a b f ha in
      let tt' : slice m t l ≡ c = ap (λ (q : List A). drop m (take t q)) l3 ∙ ap (drop m) (take_at ((a ++ b) ++ c) z t labc) ∙ drop_at (a ++ b) c m lab in
      let dt : drop t l ≡ z = ap (drop t) l3 ∙ drop_at ((a ++ b) ++ c) z t labc in
      λ i. tf i ++ (tt' i ++ (tm i ++ dt i))

positions_snoc : (xs ys : List Float) (x y : Float) → length xs ≡ length ys
    → positions_in (xs ++ (x ∷ [])) (ys ++ (y ∷ [])) ≡ positions_in xs ys ++ (record { x = x; y = y } ∷ [])
positions_snoc xs ys x y e = positions_append xs (x ∷ []) ys (y ∷ []) e

positions_reverse : (xs ys : List Float) → length xs ≡ length ys → positions_in (reverse xs) (reverse ys) ≡ reverse (positions_in xs ys)
positions_reverse [] [] e = refl
positions_reverse [] (y ∷ ys) e = absurd (omega (arith, e))
positions_reverse (x ∷ xs) [] e = absurd (omega (arith, e))
positions_reverse (x ∷ xs) (y ∷ ys) e =
    let p : Position = record { x = x; y = y } in
    ap₂ positions_in (reverse-cons x xs) (reverse-cons y ys)
    ∙ positions_snoc (reverse xs) (reverse ys) x y (omega (arith, e, length-reverse xs, length-reverse ys))
    ∙ ap (λ (l : List Position). l ++ (p ∷ [])) (positions_reverse xs ys (omega (arith, e)))
    ∙ sym (reverse-cons p (positions_in xs ys))

pub positions_turned : (f t : ℕ) (xs ys : List Float) → length xs ≡ length ys → f ≤ t → t ≤ length xs
    → positions_in (turned f t xs) (turned f t ys) ≡ turned f t (positions_in xs ys)
positions_turned f t xs ys e ht hl =
    let sx = length-slice f t xs hl in
    let sy = length-slice f t ys (omega (arith, e, hl)) in
    positions_append (take f xs) (reverse (slice f t xs) ++ drop t xs) (take f ys) (reverse (slice f t ys) ++ drop t ys)
    (length-take-le f xs (omega arith) ∙ sym (length-take-le f ys (omega (arith, e))))
    ∙ ap₂ ◌++◌ (positions_take f xs ys)
    (positions_append (reverse (slice f t xs)) (drop t xs) (reverse (slice f t ys)) (drop t ys)
    (length-reverse (slice f t xs) ∙ sx ∙ sym sy ∙ sym (length-reverse (slice f t ys)))
    ∙ ap₂ ◌++◌ (positions_reverse (slice f t xs) (slice f t ys) (sx ∙ sym sy)
    ∙ ap reverse (positions_drop f (take t xs) (take t ys) ∙ ap (drop f) (positions_take t xs ys))) (positions_drop t xs ys))
