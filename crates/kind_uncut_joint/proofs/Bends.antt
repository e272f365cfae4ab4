-- A position between two runs at the end, and runs turned round: what stands there then. Assumes nothing.
use Prim.Native.Nat.{ℕ, ◌+◌, ◌-◌, ◌<◌, ◌≤◌}
use native.Mathlib.Omega.{arith}
use mathlib.Core.Path.{◌≡◌, refl, sym, ap, ◌∙◌}
use mathlib.Core.Bool.{Bool, true, false}
use mathlib.Core.List.{List, [], ◌∷◌, ◌++◌, append_assoc, reverse}
use lib.Ieee.{Float}
use lib.ListN.{length, take, drop, set, length-append, length-drop, length-set, length-reverse}
use lib.Seq.{slice, length-slice, length-take-le, set_at}
use Rattle.coordinate.specs.declared.Position.{Position}
use Rattle.rows_new.specs.Runs.{turn}
use Rattle.lent.specs.Arrays.{positions_in}
use Rattle.lent.proofs.Held.{positions_set}
use Rattle.kernel_bends.specs.Turned.{turned, rotated}
use Rattle.kernel_bends.proofs.Turning.{turned_is}
use Rattle.kernel_bends.proofs.Last.{rotated_length}
use Rattle.kernel_bends.proofs.Positions.{positions_rotated}
use Rattle.kernel_bends.proofs.Parts.{rotated_is, positions_turned}
use Rattle.kind_uncut_joint.specs.Joining.{turned_if, joined_runs}

module _ {A : Type 0} where
  pub turn_length : (b : Bool) (l : List A) → length (turn b l) ≡ length l
  turn_length true l = length-reverse l
  turn_length false l = refl

  if_is : (b : Bool) (p q r : List A) (f u : ℕ) → length p ≡ f → length p + length q ≡ u → turned_if b f u (p ++ (q ++ r)) ≡ p ++ (turn b q ++ r)
  if_is true p q r f u hp hq = turned_is p q r f u hp hq
  if_is false p q r f u hp hq = refl

  -- the front, two runs, and what stands behind them
  module _ (f x y : List A) (d : A) (z : List A) (t m1 m2 : ℕ) (b1 b2 : Bool) (v : A) (lx : length x ≡ m1) (ly : length y ≡ m2)
      (lt : length f + m1 + m2 ≡ t) where
    abbrev start : List A
    start = f ++ (x ++ (y ++ (d ∷ z)))

    lfx : length (f ++ x) ≡ t - m2
    lfx = length-append f x ∙ omega (arith, lx, lt)

    lfxy : length ((f ++ x) ++ y) ≡ t
    lfxy = length-append (f ++ x) y ∙ omega (arith, lfx, ly, lt)

    put : set start t v ≡ (f ++ x) ++ (y ++ ((v ∷ []) ++ z))
    put =
        ap (λ (l : List A). set l t v) (sym (append_assoc f x (y ++ (d ∷ z))) ∙ sym (append_assoc (f ++ x) y (d ∷ z)))
        ∙ set_at ((f ++ x) ++ y) d z v t lfxy ∙ append_assoc (f ++ x) y (v ∷ z)

    between : rotated (t - m2) t (t + 1) (set start t v) ≡ f ++ (x ++ (v ∷ (y ++ z)))
    between =
        ap (rotated (t - m2) t (t + 1)) put
        ∙ rotated_is (f ++ x) y (v ∷ []) z (t - m2) t (t + 1) lfx (omega (arith, ly, lt)) refl ∙ append_assoc f x (v ∷ (y ++ z))

    first : turned_if b1 (t - m2 - m1) (t - m2) (rotated (t - m2) t (t + 1) (set start t v)) ≡ f ++ (turn b1 x ++ (v ∷ (y ++ z)))
    first = ap (turned_if b1 (t - m2 - m1) (t - m2)) between ∙ if_is b1 f x (v ∷ (y ++ z)) (t - m2 - m1) (t - m2) (omega (arith, lt)) (omega (arith, lt, lx))

    lp : length (f ++ (turn b1 x ++ (v ∷ []))) ≡ t - m2 + 1
    lp =
        length-append f (turn b1 x ++ (v ∷ []))
        ∙ ap (λ (n : ℕ). length f + n) (length-append (turn b1 x) (v ∷ []) ∙ ap (λ (n : ℕ). n + 1) (turn_length b1 x)) ∙ omega (arith, lx, lt)

    apart : (q : List A) → (f ++ (turn b1 x ++ (v ∷ []))) ++ q ≡ f ++ (turn b1 x ++ (v ∷ q))
    apart q = append_assoc f (turn b1 x ++ (v ∷ [])) q ∙ ap (λ (l : List A). f ++ l) (append_assoc (turn b1 x) (v ∷ []) q)

    pub joined_are : joined_runs t m1 b1 m2 b2 v start ≡ f ++ (turn b1 x ++ (v ∷ (turn b2 y ++ z)))
    joined_are =
        ap (turned_if b2 (t - m2 + 1) (t + 1)) (first ∙ sym (apart (y ++ z)))
        ∙ if_is b2 (f ++ (turn b1 x ++ (v ∷ []))) y z (t - m2 + 1) (t + 1) lp (omega (arith, lp, ly, lt)) ∙ apart (turn b2 y ++ z)

  -- ---- nothing is lost
  turned_length : (f u : ℕ) (l : List A) → f ≤ u → u ≤ length l → length (turned f u l) ≡ length l
  turned_length f u l h g =
      let a = length-append (take f l) (reverse (slice f u l) ++ drop u l) in
      let b = length-append (reverse (slice f u l)) (drop u l) in
      let c = length-reverse (slice f u l) in
      let d = length-slice f u l g in
      let e = length-take-le f l (omega arith) in
      omega (arith, a, b, c, d, e, length-drop u l, h, g)

  if_length : (b : Bool) (f u : ℕ) (l : List A) → f ≤ u → u ≤ length l → length (turned_if b f u l) ≡ length l
  if_length true f u l h g = turned_length f u l h g
  if_length false f u l h g = refl

  module _ (t m1 m2 : ℕ) (b1 b2 : Bool) (v : A) (l : List A) (hm : m1 + m2 ≤ t) (ht : t < length l) where
    pub rotated_long : length (rotated (t - m2) t (t + 1) (set l t v)) ≡ length l
    rotated_long = let e = length-set l t v in rotated_length (t - m2) t (t + 1) (set l t v) (omega arith) (omega arith) (omega (arith, e, ht)) ∙ e

    pub first_long : length (turned_if b1 (t - m2 - m1) (t - m2) (rotated (t - m2) t (t + 1) (set l t v))) ≡ length l
    first_long = if_length b1 (t - m2 - m1) (t - m2) (rotated (t - m2) t (t + 1) (set l t v)) (omega arith) (omega (arith, rotated_long, ht)) ∙ rotated_long

    pub joined_long : length (joined_runs t m1 b1 m2 b2 v l) ≡ length l
    joined_long =
        if_length b2 (t - m2 + 1) (t + 1) (turned_if b1 (t - m2 - m1) (t - m2) (rotated (t - m2) t (t + 1) (set l t v))) (omega arith)
        (omega (arith, first_long, ht)) ∙ first_long

-- ---- the positions of two arrays
positions_if : (b : Bool) (f u : ℕ) (xs ys : List Float) → length xs ≡ length ys → f ≤ u → u ≤ length xs
    → positions_in (turned_if b f u xs) (turned_if b f u ys) ≡ turned_if b f u (positions_in xs ys)
positions_if true f u xs ys e h g = positions_turned f u xs ys e h g
positions_if false f u xs ys e h g = refl

pub positions_joined : (t m1 m2 : ℕ) (b1 b2 : Bool) (p : Position) (xs ys : List Float) → m1 + m2 ≤ t → t < length xs → length xs ≡ length ys
    → positions_in (joined_runs t m1 b1 m2 b2 p.x xs) (joined_runs t m1 b1 m2 b2 p.y ys) ≡ joined_runs t m1 b1 m2 b2 p (positions_in xs ys)
positions_joined t m1 m2 b1 b2 p xs ys hm ht e =
    let hy : t < length ys = omega (arith, ht, e) in
    let rx = rotated_long t m1 m2 b1 b2 p.x xs hm ht in
    let ry = rotated_long t m1 m2 b1 b2 p.y ys hm hy in
    let fx = first_long t m1 m2 b1 b2 p.x xs hm ht in
    let fy = first_long t m1 m2 b1 b2 p.y ys hm hy in
    let sx = length-set xs t p.x in
    let sy = length-set ys t p.y in
    positions_if b2 (t - m2 + 1) (t + 1) (turned_if b1 (t - m2 - m1) (t - m2) (rotated (t - m2) t (t + 1) (set xs t p.x)))
    (turned_if b1 (t - m2 - m1) (t - m2) (rotated (t - m2) t (t + 1) (set ys t p.y)))
    (fx ∙ e ∙ sym fy) (omega arith) (omega (arith, fx, ht))
    ∙ ap (turned_if b2 (t - m2 + 1) (t + 1))
    (positions_if b1 (t - m2 - m1) (t - m2) (rotated (t - m2) t (t + 1) (set xs t p.x)) (rotated (t - m2) t (t + 1) (set ys t p.y)) (rx ∙ e ∙ sym ry)
    (omega arith) (omega (arith, rx, ht))
    ∙ ap (turned_if b1 (t - m2 - m1) (t - m2))
    (positions_rotated (t - m2) t (t + 1) (set xs t p.x) (set ys t p.y) (sx ∙ e ∙ sym sy) (omega arith) (omega arith) (omega (arith, sx, ht))
    ∙ ap (rotated (t - m2) t (t + 1)) (positions_set xs ys t p)))
