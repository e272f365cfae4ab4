-- Copies of a cell, as they stand in the arrays. Definitions only.
use Rattle.std.specs.Prelude.{ℕ, zero, suc, List, [], ◌∷◌, ◌++◌}
use Rattle.store.specs.declared.Shape.{Shape}
use Rattle.store.specs.declared.Cell.{Cell}

-- a list n times
abbrev pub repeated : {A : Type 0} → ℕ → List A → List A
repeated zero l = []
repeated (suc n) l = l ++ repeated n l

-- n cells of one shape, with the ids from i on
abbrev pub copy_cells : ℕ → Shape → ℕ → List Cell
copy_cells i s zero = []
copy_cells i s (suc n) = record { id = i; shape = s } ∷ copy_cells (suc i) s n
