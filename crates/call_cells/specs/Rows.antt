-- The cells that stand in lent rows. Definitions only.
use Rattle.std.specs.Prelude.{ℕ, List, Float, get_or}
use Rattle.std.specs.Float.{nan}
use Rattle.store.specs.declared.Cell.{Cell}
use Rattle.store.specs.declared.Shape.TheVariants.{Vertex}
use Rattle.lent.specs.Arrays.{shape_by, position_in, cells_by}

-- the cell of each row: ids, kinds, starts, ends, bends, counts of cycles, and positions
abbrev pub cells_in : List ℕ → List ℕ → List ℕ → List ℕ → List ℕ → List ℕ → List Float → List Float → List Cell
cells_in is ks ss es bs cs xs ys =
    cells_by (λ i. shape_by (get_or ks i 0) (get_or ss i 0) (get_or es i 0) (get_or bs i 0) (get_or cs i 0) (position_in xs ys i)) is

-- what stands for a cell past the end
abbrev pub past_cell : Cell
past_cell = record { id = 0; shape = Vertex (record { x = nan; y = nan }) }
