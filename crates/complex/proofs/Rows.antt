-- The rows hold of the definitions, by computation. Assumes nothing.
use mathlib.Core.Path.{◌≡◌, refl}
use mathlib.Core.List.{map}
use Rattle.complex.specs.Rows.{Row, found, rows}

pub rows_hold : map (λ (r : Row). found r.given) rows ≡ map (λ (r : Row). r.gives) rows
unfolding found
rows_hold = refl
