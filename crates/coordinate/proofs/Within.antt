-- The middle of two positions in bounds is in bounds, and what is in bounds is a number.
-- `Small x K` says that x is finite and at most K in size. Assumes nothing.
use mathlib.Core.Path.{◌≡◌, sym, ap, ◌∙◌, subst}
use mathlib.Core.Logic.{inl, inr}
use Prim.Native.Nat.{ℕ, zero, suc, ◌+◌, ◌-◌, ◌*◌, ◌/◌, ◌%◌, ◌^◌, ◌≤◌, ◌<◌, compare}
use native.Mathlib.Nat.{le_trans, le_of_eq, le_of_lt, eq-or-lt_of_le, mul-one, two-mul, mul_comm, mul_assoc, mul_left_comm, mul_right_comm, mul-le-mul_right}
use native.Mathlib.Nat.{le_of_mul-le-mul_right, mul-pos}
use native.Mathlib.Omega.{arith}
use mathlib.Core.Bool.{Bool, true, false, not, ◌&&◌, ◌||◌, beq, cond, true≢false}
use lib.Dec.{T, ltb, eqb, eqb→eq, eqb_refl, ltb→lt, lt→ltb, lit≤, lit<}
use lib.Ieee.{Float, nan, inf, fin, Format, binary64, prec, emax, low, up, down, odd, units, round, sum, add, mul, le, size, nearest, unlike, is_nan}
use lib.Ieee.Fits.{down_pos, and_i, and_l, and_r, round_is}
use lib.Ieee.Exact.{HasValue, odd_sign}
use lib.Ieee.Order.{round_mono}
use lib.Ieee.Back.{round_whole}
use Rattle.coordinate.specs.declared.Position.{Position}
use Rattle.coordinate.specs.Bounds.{half, most, least, in_bounds, within, halfway, middle}

abbrev Small : Float → ℕ → Type 0
Small nan K = ⊥
Small (inf s) K = ⊥
Small (fin s m e) K = m * up e ≤ K * down e

-- ---- the order as a test
or_le : (a b : ℕ) (c : Bool) → T (ltb a b || (eqb a b && c)) → a ≤ b
or_le a b c t = go (ltb a b) (eqb a b) c (ltb→lt a b) (eqb→eq a b) t
  where
    go : (x y z : Bool) → (T x → a < b) → (T y → a ≡ b) → T (x || (y && z)) → a ≤ b
    go true y z l e t = le_of_lt (l tt)
    go false true z l e t = le_of_eq (e tt)
    go false false z l e t = absurd t

-- the same with the equation the other way round
or_ge : (a b : ℕ) (c : Bool) → T (ltb a b || (eqb b a && c)) → a ≤ b
or_ge a b c t = go (ltb a b) (eqb b a) c (ltb→lt a b) (eqb→eq b a) t
  where
    go : (x y z : Bool) → (T x → a < b) → (T y → b ≡ a) → T (x || (y && z)) → a ≤ b
    go true y z l e t = le_of_lt (l tt)
    go false true z l e t = le_of_eq (sym (e tt))
    go false false z l e t = absurd t

left : (x y : Bool) → T x → T (x || y)
left true y t = tt
left false y t = absurd t

right : (x y : Bool) → T y → T (x || (y && true))
right true y Y = tt
right false true Y = tt
right false false Y = Y

ge_or : (a b : ℕ) → a ≤ b → T (ltb a b || (eqb b a && true))
ge_or a b h = elim (eq-or-lt_of_le h) [
  | inl p ↦ right (ltb a b) (eqb b a) (subst (λ (x : ℕ). T (eqb x a)) p (eqb_refl a))
  | inr q ↦ left (ltb a b)
      (eqb b a && true) (lt→ltb a b q)
]

le_or : (a b : ℕ) → a ≤ b → T (ltb a b || (eqb a b && true))
le_or a b h = elim (eq-or-lt_of_le h) [
  | inl p ↦ right (ltb a b) (eqb a b) (subst (λ (x : ℕ). T (eqb a x)) p (eqb_refl a))
  | inr q ↦ left (ltb a b)
      (eqb a b && true) (lt→ltb a b q)
]

-- ---- from the order to the size, and back
small_of_le : (x y : Float) (w l K : ℕ) → HasValue x false w l → HasValue y false K 1 → T (le x y) → Small x K
unfolding le
small_of_le nan y w l K p q t = absurd p
small_of_le (inf s) y w l K p q t = absurd p
small_of_le (fin true m e) y w l K p q t = absurd (true≢false p.0)
small_of_le (fin false m e) nan w l K p q t = absurd q
small_of_le (fin false m e) (inf s) w l K p q t = absurd q
small_of_le (fin false m e) (fin true n d) w l K p q t = absurd (true≢false q.0)
small_of_le (fin false m e) (fin false n d) w l K p q t =
    let h : m * up e * down d ≤ n * up d * down e = or_le (m * up e * down d) (n * up d * down e) true t in
    let k : n * up d ≡ K * down d = sym (mul-one (n * up d)) ∙ q.1 in
    le_of_mul-le-mul_right (le_trans h (le_of_eq (ap (λ (z : ℕ). z * down e) k ∙ mul_right_comm K (down d) (down e)))) (down_pos d)

no_inf : (y : Float) (K : ℕ) → HasValue y false K 1 → T (le (inf false) y) → ⊥
unfolding le
no_inf nan K q t = q
no_inf (inf s) K q t = q
no_inf (fin s n d) K q t = t

-- ---- what is rounded from K at most is K at most
odd_small : (d : ℕ) (s : Bool) (q k l K : ℕ) → Small (odd d false q k l) K → Small (odd d s q k l) K
unfolding odd
odd_small d s zero k l K h = h
odd_small d s (suc q) k l K h = h

units_small : (f : Format) (s : Bool) (q k : ℕ) (y : Float) (K : ℕ) → HasValue y false K 1 → T (le (units f false q k) y) → Small (units f s q k) K
unfolding units
units_small f s q k y K v t = go (ltb (q * 2 ^ k) (2 ^ (low f + suc (emax f)))) t
  where
    go : (b : Bool) → T (le (cond b (odd (suc (prec f)) false q k (low f)) (inf false)) y) → Small (cond b (odd (suc (prec f)) s q k (low f)) (inf s)) K
    go true u = odd_small (suc (prec f)) s q k (low f) K
        (small_of_le (odd (suc (prec f)) false q k (low f)) y (q * 2 ^ k) (2 ^ low f) K (odd_sign (suc (prec f)) false q k (low f)) v u)
    go false u = absurd (no_inf y K v u)

round_small : (f : Format) (s : Bool) (a c K : ℕ) → 0 < c → K ≤ 2 ^ prec f → a ≤ K * c → Small (round f s a c) K
round_small f s a c K C P h =
    let n = a * 2 ^ low f in
    let k = size (n / c) - prec f in
    let q = nearest (n / (c * 2 ^ k)) (compare (n % (c * 2 ^ k) * 2) (c * 2 ^ k)) in
    subst (λ (z : Float). Small z K) (sym (round_is f s a c))
    (units_small f s q k (round f false K 1) K (round_whole f false K P)
    (subst (λ (z : Float). T (le z (round f false K 1))) (round_is f false a c)
    (round_mono f a c K 1 C (lit< tt) (le_trans (le_of_eq (mul-one a)) h))))

-- ---- the sum, and the half
twice : (K c : ℕ) → 2 * K * c ≡ K * c + K * c
twice K c = mul_assoc 2 K c ∙ two-mul (K * c)

sum_small : (f : Format) (s : Bool) (a : ℕ) (t : Bool) (b c K : ℕ) → 0 < c → 2 * K ≤ 2 ^ prec f → a ≤ K * c → b ≤ K * c → Small (sum f s a t b c) (2 * K)
unfolding sum
sum_small f s a t b c K C P h k = go (beq s t) (ltb a b)
  where
    go : (x y : Bool) → Small (cond x (round f s (a + b) c) (cond y (round f t (b - a) c) (round f (s && ltb b a) (a - b) c))) (2 * K)
    go true y = round_small f s (a + b) c (2 * K) C P (let e = twice K c in omega arith)
    go false true = round_small f t (b - a) c (2 * K) C P (let e = twice K c in omega arith)
    go false false = round_small f (s && ltb b a) (a - b) c (2 * K) C P (let e = twice K c in omega arith)

-- m / e ≤ K, over the denominators of both
over : (m u K d x : ℕ) → m * u ≤ K * d → m * u * x ≤ K * (d * x)
over m u K d x h = le_trans (mul-le-mul_right x h) (le_of_eq (mul_assoc K d x))

add_small : (f : Format) (x y : Float) (K : ℕ) → 2 * K ≤ 2 ^ prec f → Small x K → Small y K → Small (add f x y) (2 * K)
unfolding add
add_small f nan y K P h k = absurd h
add_small f (inf s) y K P h k = absurd h
add_small f (fin s m e) nan K P h k = absurd k
add_small f (fin s m e) (inf t) K P h k = absurd k
add_small f (fin s m e) (fin t n d) K P h k =
    sum_small f s (m * up e * down d) t (n * up d * down e) (down e * down d) K (mul-pos (down_pos e) (down_pos d)) P
    (over m (up e) K (down e) (down d) h)
    (le_trans (over n (up d) K (down d) (down e) k) (le_of_eq (ap (λ (z : ℕ). K * z) (mul_comm (down d) (down e)))))

halved : (a K d : ℕ) → a ≤ 2 * K * d → a * (1 * 1) ≤ K * (d * 2)
halved a K d h = le_trans (le_of_eq (mul-one a)) (le_trans h (le_of_eq (simp (mul_assoc, mul_comm, mul_left_comm))))

half_small : (f : Format) (x : Float) (K : ℕ) → K ≤ 2 ^ prec f → Small x (2 * K) → Small (mul f x half) K
unfolding mul
half_small f nan K P h = absurd h
half_small f (inf s) K P h = absurd h
half_small f (fin s m e) K P h = round_small f (unlike s false) (m * up e * (1 * 1)) (down e * 2) K (mul-pos (down_pos e) (lit< tt)) P
    (halved (m * up e) K (down e) h)

-- ---- the range, as a size
small_of_bounds : (x : Float) → T (in_bounds x) → Small x 1048576
unfolding le
small_of_bounds nan t = absurd t
small_of_bounds (inf true) t = absurd t
small_of_bounds (inf false) t = absurd t
small_of_bounds (fin true m e) t =
    le_trans (le_of_eq (sym (mul-one (m * up e))))
    (or_ge (m * up e * 1) (1048576 * down e) true (and_l (le least (fin true m e)) (le (fin true m e) most) t))
small_of_bounds (fin false m e) t =
    le_trans (le_of_eq (sym (mul-one (m * up e))))
    (or_le (m * up e * 1) (1048576 * down e) true (and_r (le least (fin false m e)) (le (fin false m e) most) t))

some : (d x : ℕ) → 0 < d → 0 < 1048576 * d + x
some d x D = omega arith

some' : (d x : ℕ) → 0 < d → 0 < x + 1048576 * d
some' d x D = omega arith

bounds_of_small : (x : Float) → Small x 1048576 → T (in_bounds x)
unfolding le
bounds_of_small nan h = h
bounds_of_small (inf s) h = absurd h
bounds_of_small (fin true m e) h =
    let a = m * up e * 1 in
    let b = 1048576 * down e in
    and_i (le least (fin true m e)) (le (fin true m e) most)
    (ge_or a b (le_trans (le_of_eq (mul-one (m * up e))) h))
    (left (ltb 0 (a + b)) (eqb a b && eqb a 0) (lt→ltb 0 (a + b) (some' (down e) a (down_pos e))))
bounds_of_small (fin false m e) h =
    let a = m * up e * 1 in
    let b = 1048576 * down e in
    and_i (le least (fin false m e)) (le (fin false m e) most)
    (left (ltb 0 (b + a)) (eqb b a && eqb b 0) (lt→ltb 0 (b + a) (some (down e) a (down_pos e))))
    (le_or a b (le_trans (le_of_eq (mul-one (m * up e))) h))

-- ---- the middle of two positions in bounds is in bounds
halfway_within : (a b : Float) → T (in_bounds a) → T (in_bounds b) → T (in_bounds (halfway a b))
halfway_within a b h k =
    bounds_of_small (halfway a b)
    (half_small binary64 (add binary64 a b) 1048576 (lit≤ tt)
    (add_small binary64 a b 1048576 (lit≤ tt) (small_of_bounds a h) (small_of_bounds b k)))

pub within_x : (p : Position) → T (within p) → T (in_bounds p.x)
unfolding within
within_x p w = and_l (in_bounds p.x) (in_bounds p.y) w

pub within_y : (p : Position) → T (within p) → T (in_bounds p.y)
unfolding within
within_y p w = and_r (in_bounds p.x) (in_bounds p.y) w

pub middle_within : (p q : Position) → T (within p) → T (within q) → T (within (middle p q))
unfolding within middle
middle_within p q w v =
    and_i (in_bounds (halfway p.x q.x)) (in_bounds (halfway p.y q.y))
    (halfway_within p.x q.x (within_x p w) (within_x q v))
    (halfway_within p.y q.y (within_y p w) (within_y q v))

-- ---- what is in bounds is a number
bounds_not_nan : (x : Float) → T (in_bounds x) → T (not (is_nan x))
unfolding le is_nan
bounds_not_nan nan t = absurd t
bounds_not_nan (inf s) t = tt
bounds_not_nan (fin s m e) t = tt

pub within_not_nan : (p : Position) → T (within p) → T (not (is_nan p.x)) × T (not (is_nan p.y))
within_not_nan p w = (bounds_not_nan p.x (within_x p w), bounds_not_nan p.y (within_y p w))
