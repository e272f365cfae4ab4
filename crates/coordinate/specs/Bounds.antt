-- The range of a coordinate, and the middle of two positions. Definitions only.
use Rattle.std.specs.Prelude.{Bool, true, false, ◌&&◌, pos, negsuc, Float}
use Rattle.std.specs.Float.{fin, binary64}
use Rattle.std.specs.Float.Ieee.{le, add, mul}
use Rattle.coordinate.specs.declared.Position.{Position}

-- 1,048,576 and −1,048,576
abbrev pub most : Float
most = fin false 1 (pos 20)

abbrev pub least : Float
least = fin true 1 (pos 20)

-- ends included; false at a NaN, as every comparison with one is
abbrev pub in_bounds : Float → Bool
in_bounds x = le least x && le x most

unfoldable pub within : Position → Bool
unfolding le
within p = in_bounds p.x && in_bounds p.y

-- 0.5
abbrev pub half : Float
half = fin false 1 (negsuc 0)

-- (a + b) × 0.5, each operation rounded once, to nearest, ties to even
abbrev pub halfway : Float → Float → Float
halfway a b = mul binary64 (add binary64 a b) half

unfoldable pub middle : Position → Position → Position
unfolding add mul
middle p q = record { x = halfway p.x q.x; y = halfway p.y q.y }
