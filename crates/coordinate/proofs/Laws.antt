-- Positions and their bytes: what is written is read back, and what is read was written so. Assumes nothing.
use mathlib.Core.Path.{◌≡◌, refl, sym, ap, ◌∙◌, subst}
use mathlib.Core.Logic.{⊎_elim}
use mathlib.Core.List.{List, [], ◌++◌, append_assoc}
use Prim.Native.Nat.{ℕ, ◌+◌, ◌-◌, ◌%◌, ◌≤◌, ◌<◌}
use native.Mathlib.Omega.{arith}
use mathlib.Core.Bool.{Bool, true, not, false≢true}
use borrow.Author.Tests.{lt-ltb, le-ltb, le-leb, lt-leb}
use lib.Dec.{T}
use lib.ListN.{length, take, drop, length-append, length-drop, take-append-drop}
use lib.Seq.{drop-drop}
use lib.Ieee.{Float, nan, inf, fin, binary64, of_bits, to_bits, fits, is_nan, nan_bits, add, div}
use lib.Ieee.Bits.{of_bits-to_bits, of_bits-fits, to_bits-lt, to_bits-of_bits, nan_bits_is, nan_bits_above}
use lib.Ieee.Fits.{mul-fits}
use Rattle.number.specs.Said.{Said, done, no, placed_or}
use Rattle.number.specs.Readers.{got, bad}
use Rattle.number.proofs.Bytes.{Bytes, bytes_drop}
use Rattle.number.proofs.Laws.{lt_or_le, done_two}
use Rattle.coordinate.specs.declared.Position.{Position}
use Rattle.coordinate.specs.Bounds.{within, half, middle}
use Rattle.coordinate.specs.Positions.{value_of, bytes_of, coordinate_in, read_coordinate, coordinate_bytes, FloatFits, position_at, read_position}
use Rattle.coordinate.specs.Positions.{position_bytes, located_at}
use Rattle.coordinate.proofs.Bytes.{value_bytes, value_lt, bytes_value}
use Rattle.coordinate.proofs.Within.{within_not_nan}

-- ---- a NaN's pattern
pub zero_by_zero : div binary64 (of_bits binary64 0) (of_bits binary64 0) ≡ nan
unfolding div of_bits
zero_by_zero = refl

is_nan_lem : (x : Float) → is_nan x ≡ true → x ≡ nan
unfolding is_nan
is_nan_lem nan e = refl
is_nan_lem (inf s) e = absurd (false≢true e)
is_nan_lem (fin s m d) e = absurd (false≢true e)

pub nan_at : (n : ℕ) → 9218868437227405312 < n % 9223372036854775808 → of_bits binary64 n ≡ nan
nan_at n h =
    is_nan_lem (of_bits binary64 n)
    (sym (nan_bits_is binary64 n) ∙ nan_bits_above binary64 n ∙ lt-ltb 9218868437227405312 (n % 9223372036854775808) h)

pub no_nan_at : (n : ℕ) → n % 9223372036854775808 ≤ 9218868437227405312 → T (not (nan_bits binary64 n))
no_nan_at n h = subst (λ (b : Bool). T (not b)) (sym (nan_bits_above binary64 n ∙ le-ltb 9218868437227405312 (n % 9223372036854775808) h)) tt

-- every pattern above the infinity's, sign aside, is read as the one NaN
pub nan_read : (s : List ℕ) → 9218868437227405312 < value_of (take 8 s) % 9223372036854775808 → coordinate_in s ≡ nan
unfolding coordinate_in
nan_read s h = nan_at (value_of (take 8 s)) h

-- ---- a coordinate
coordinate_back : (x : Float) (t : List ℕ) → T (fits binary64 x) → coordinate_in (coordinate_bytes x ++ t) ≡ x
unfolding coordinate_in coordinate_bytes
coordinate_back x t f =
    ap (of_bits binary64) (value_bytes 8 (to_bits binary64 x) (to_bits-lt binary64 x f)) ∙ of_bits-to_bits binary64 x f

bytes_back : (s : List ℕ) → 8 ≤ length s → Bytes s → T (not (is_nan (coordinate_in s))) → coordinate_bytes (coordinate_in s) ≡ take 8 s
unfolding coordinate_in coordinate_bytes
bytes_back s h B n =
    ap (bytes_of 8) (to_bits-of_bits binary64 (value_of (take 8 s)) (value_lt 8 s B) n) ∙ bytes_value 8 s h B

coordinate_fits : (s : List ℕ) → T (fits binary64 (coordinate_in s))
unfolding coordinate_in
coordinate_fits s = of_bits-fits binary64 (value_of (take 8 s))

pub eight_bytes : (x : Float) → length (coordinate_bytes x) ≡ 8
unfolding coordinate_bytes
eight_bytes x = refl

after_eight : (x : Float) (t : List ℕ) → drop 8 (coordinate_bytes x ++ t) ≡ t
unfolding coordinate_bytes
after_eight x t = refl

-- ---- a position is read where sixteen bytes are
clash : {X : Type 0} → ◌≡◌ {A = ℕ} 0 1 → X
clash e = let n : ⊥ = omega arith in absurd n

position_long : (s : List ℕ) → 16 ≤ length s → read_position s ≡ got (record { x = coordinate_in s; y = coordinate_in (drop 8 s) }) (drop 16 s)
position_long s h =
    let e : length (drop 8 s) ≡ length s - 8 = length-drop 8 s in
    simp (le-leb 8 (length s) (omega arith), le-leb 8 (length (drop 8 s)) (omega arith), drop-drop 8 8 s)

position_none : (s : List ℕ) → length s < 16 → read_position s ≡ bad
position_none s h =
    let e : length (drop 8 s) ≡ length s - 8 = length-drop 8 s in
    ⊎_elim
    (λ (l : length s < 8). simp (lt-leb 8 (length s) l))
    (λ (l : 8 ≤ length s). simp (le-leb 8 (length s) l, lt-leb 8 (length (drop 8 s)) (omega arith)))
    (lt_or_le (length s) 8)

module _ (s : List ℕ) (at : ℕ) where
  pub position_at_lem : at + 16 ≤ length s → read_position (drop at s) ≡ got (position_at s at) (drop (at + 16) s)
  position_at_lem h =
      let e : length (drop at s) ≡ length s - at = length-drop at s in
      position_long (drop at s) (omega arith) ∙ simp drop-drop

  pub position_short : length s < at + 16 → read_position (drop at s) ≡ bad
  position_short h = let e : length (drop at s) ≡ length s - at = length-drop at s in position_none (drop at s) (omega arith)

  pub located_long : at + 16 ≤ length s → located_at s at ≡ done (position_at s at, at + 16)
  located_long h =
      let e : length (drop (at + 16) s) ≡ length s - (at + 16) = length-drop (at + 16) s in
      let n : length s - length (drop (at + 16) s) ≡ at + 16 = omega arith in
      ap (placed_or 2 (length s)) (position_at_lem h) ∙ ap (λ (k : ℕ). done (position_at s at, k)) n

  pub located_short : length s < at + 16 → located_at s at ≡ no 2
  located_short h = ap (placed_or 2 (length s)) (position_short h)

  pub located_at_lem : (p : Position) (next : ℕ) → located_at s at ≡ done (p, next)
      → (read_position (drop at s) ≡ got p (drop next s)) × (next ≡ at + 16) × (next ≤ length s)
  located_at_lem p next e = ⊎_elim short long (lt_or_le (length s) (at + 16))
    where
      Reads : Type 0
      Reads = (read_position (drop at s) ≡ got p (drop next s)) × (next ≡ at + 16) × (next ≤ length s)

      long : at + 16 ≤ length s → Reads
      long h =
          let r = position_at_lem h in
          let l = done_two (position_at s at) p (at + 16) next (sym (located_long h) ∙ e) in
          let n = l.1 in
          (r ∙ (λ i. got (l.0 i) (drop (n i) s)), sym n, omega arith)

      short : length s < at + 16 → Reads
      short h = let l = located_short h in clash (cc)

  pub short_at : located_at s at ≡ no 2 → read_position (drop at s) ≡ bad
  short_at e = ⊎_elim (λ h. position_short h) long (lt_or_le (length s) (at + 16))
    where
      long : at + 16 ≤ length s → read_position (drop at s) ≡ bad
      long h = let l = located_long h in clash (cc)

-- ---- what is read is what stands at the front
read_parts_lem : (s t : List ℕ) (p : Position) → read_position s ≡ got p t → (16 ≤ length s) × (p ≡ position_at s 0) × (t ≡ drop 16 s)
read_parts_lem s t p e = ⊎_elim short long (lt_or_le (length s) 16)
  where
    long : 16 ≤ length s → (16 ≤ length s) × (p ≡ position_at s 0) × (t ≡ drop 16 s)
    long h = let l = position_long s h in (h, cc, cc)

    short : length s < 16 → (16 ≤ length s) × (p ≡ position_at s 0) × (t ≡ drop 16 s)
    short h = let l = position_none s h in clash (cc)

pub position_fits : (s t : List ℕ) (p : Position) → read_position s ≡ got p t → FloatFits p
position_fits s t p e = subst FloatFits (sym (read_parts_lem s t p e).1) (coordinate_fits s, coordinate_fits (drop 8 s))

pub at_fits : (s : List ℕ) (at : ℕ) → FloatFits (position_at s at)
at_fits s at = (coordinate_fits (drop at s), coordinate_fits (drop (at + 8) s))

pub middle_fits : (p q : Position) → FloatFits (middle p q)
unfolding middle
middle_fits p q = (mul-fits binary64 (add binary64 p.x q.x) half, mul-fits binary64 (add binary64 p.y q.y) half)

pub sixteen_bytes : (p : Position) → length (position_bytes p) ≡ 16
unfolding coordinate_bytes
sixteen_bytes p = refl

-- ---- there and back
read_coordinate_lem : (x : Float) (t : List ℕ) → T (fits binary64 x) → read_coordinate (coordinate_bytes x ++ t) ≡ got x t
read_coordinate_lem x t f =
    let e : length (coordinate_bytes x ++ t) ≡ 8 + length t = length-append (coordinate_bytes x) t ∙ ap (λ (n : ℕ). n + length t) (eight_bytes x) in
    simp (le-leb 8 (length (coordinate_bytes x ++ t)) (omega arith), coordinate_back x t f, after_eight x t)

pub read_position_lem : (p : Position) (t : List ℕ) → FloatFits p → read_position (position_bytes p ++ t) ≡ got p t
read_position_lem p t f =
    rw append_assoc
    (simp (read_coordinate_lem p.x (coordinate_bytes p.y ++ t) f.0, read_coordinate_lem p.y t f.1))

bytes_read : (s : List ℕ) → 16 ≤ length s → Bytes s → T (not (is_nan (coordinate_in s))) → T (not (is_nan (coordinate_in (drop 8 s))))
    → position_bytes (position_at s 0) ++ drop 16 s ≡ s
bytes_read s h B m n =
    let e : length (drop 8 s) ≡ length s - 8 = length-drop 8 s in
    let x = bytes_back s (omega arith) B m in
    let y = bytes_back (drop 8 s) (omega arith) (bytes_drop 8 s B) n in
    rw (x, y, append_assoc, ← drop-drop 8 8 s, take-append-drop, take-append-drop)

pub position_read : (s t : List ℕ) (p : Position) → Bytes s → read_position s ≡ got p t → T (within p) → s ≡ position_bytes p ++ t
position_read s t p B e w =
    let r = read_parts_lem s t p e in
    let n = within_not_nan p w in
    let m : T (not (is_nan (coordinate_in s))) = subst (λ (z : Position). T (not (is_nan z.x))) r.1 n.0 in
    let k : T (not (is_nan (coordinate_in (drop 8 s)))) = subst (λ (z : Position). T (not (is_nan z.y))) r.1 n.1 in
    let b = bytes_read s r.0 B m k in
    cc

-- positions with the same bytes are one position
pub same_bytes : (p q : Position) → FloatFits p → FloatFits q → position_bytes p ≡ position_bytes q → p ≡ q
same_bytes p q f g e =
    let a = read_position_lem p [] f in
    let b = read_position_lem q [] g in
    cc
