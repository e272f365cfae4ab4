-- A position as bytes: x then y, eight bytes each, low byte first. Definitions only.
use Rattle.std.specs.Prelude.{Option, Some, None}
use Rattle.std.specs.Prelude.{ℕ, zero, suc, ◌+◌, ◌-◌, ◌*◌, ◌/◌, ◌%◌, cond, List, [], ◌∷◌, ◌++◌, length, take, drop, T, leb, Float}
use Rattle.std.specs.Float.{binary64}
use Rattle.std.specs.Float.Ieee.{of_bits, to_bits, fits}
use Rattle.number.specs.Readers.{Read, got, bad, and_then}
use Rattle.number.specs.Said.{Said, done, no, placed_or}
use Rattle.coordinate.specs.declared.Position.{Position}

-- the number whose bytes these are
abbrev pub value_of : List ℕ → ℕ
value_of [] = 0
value_of (b ∷ bs) = b + 256 * value_of bs

-- the k low bytes of n
abbrev pub bytes_of : ℕ → ℕ → List ℕ
bytes_of zero n = []
bytes_of (suc k) n = n % 256 ∷ bytes_of k (n / 256)

-- the coordinate in the first eight bytes; every NaN's pattern is one NaN
unfoldable pub coordinate_in : List ℕ → Float
unfolding of_bits
coordinate_in s = of_bits binary64 (value_of (take 8 s))

abbrev pub read_coordinate : List ℕ → Read Float
read_coordinate s = cond (leb 8 (length s)) (got (coordinate_in s) (drop 8 s)) bad

unfoldable pub coordinate_bytes : Float → List ℕ
unfolding to_bits
coordinate_bytes x = bytes_of 8 (to_bits binary64 x)

-- ---- positions
-- both coordinates are values that an f64 can hold
abbrev pub FloatFits : Position → Type 0
FloatFits p = T (fits binary64 p.x) × T (fits binary64 p.y)

-- the position that stands at a place
abbrev pub position_at : List ℕ → ℕ → Position
position_at s at = record { x = coordinate_in (drop at s); y = coordinate_in (drop (at + 8) s) }

abbrev pub read_position : List ℕ → Read Position
read_position s = and_then (read_coordinate s) λ x t. and_then (read_coordinate t) λ y u. got (record { x = x; y = y }) u

abbrev pub position_bytes : Position → List ℕ
position_bytes p = coordinate_bytes p.x ++ coordinate_bytes p.y

-- 0 with a position and the place after it, or 2
abbrev pub located_says : Option (Position × ℕ) → Said (Position × ℕ)
located_says (Some (p, next)) = done (p, next)
located_says None = no 2

-- question 2 of the position at a place
abbrev pub located_at : List ℕ → ℕ → Said (Position × ℕ)
located_at s at = placed_or 2 (length s) (read_position (drop at s))
