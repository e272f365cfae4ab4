-- What a file can hold, and what a drawing's arrays put into it. Definitions only.
use Rattle.std.specs.Prelude.{ℕ, ◌+◌, ◌≤◌, ◌≡◌, Bool, ◌&&◌, List, T, length, take, drop, Float}
use Rattle.number.specs.Readers.{all}
use Rattle.coordinate.specs.declared.Position.{Position}
use Rattle.coordinate.specs.Bounds.{within}
use Rattle.complex.specs.Cells.{Figure, vertex, open_edge, closed_edge, face, LiveCell, Sheet}
use Rattle.store.specs.declared.Shape.{Shape}
use Rattle.store.specs.declared.Cell.{Cell}
use Rattle.store.specs.declared.Drawing.{Drawing}
use Rattle.store.specs.View.{cycles_from, cells_of, figure_of, cycle_count, bend_count, cycle_sum, bend_sum, width_sum, sheet_of, Fits}
use Rattle.file_write.specs.declared.Place.{Place}
use Rattle.file_parts.specs.Parts.{spells, cycle_spells, positions_from, run_of}

abbrev pub figure_spells : Figure → Bool
figure_spells (vertex p) = within p
figure_spells (open_edge a b bs) = spells a && (spells b && all within bs)
figure_spells (closed_edge bs) = all within bs
figure_spells (face ks) = all cycle_spells ks

abbrev pub cell_spells : LiveCell → Bool
cell_spells c = spells c.id && figure_spells c.figure

abbrev pub sheet_spells : Sheet → Bool
sheet_spells s = spells s.next && all cell_spells s.cells

-- the cell c, whose bends, cycles and steps begin at a place of each array
abbrev pub cell_in : Cell → Place → List ℕ → List ℕ → List Position → LiveCell
cell_in c at ns st bs =
    record { id = c.id; figure = figure_of c.shape (cycles_from (drop at.cycles ns) (drop at.steps st)) (drop at.bends bs) }

-- the place after those of a shape
abbrev pub place_after : Shape → List ℕ → Place → Place
place_after s ns at =
    record {
      bends = at.bends + bend_count s;
      cycles = at.cycles + cycle_count s;
      steps = at.steps + width_sum (run_of at.cycles (cycle_count s) ns);
    }

-- the positions bs stand in xs and ys
pub record PointsOf (bs : List Position) (xs ys : List Float) : Type 0 where
  pub first : length xs ≡ 2048
  pub second : length ys ≡ 2048
  pub same : positions_from xs ys ≡ bs

-- a shape's places keep within the arrays
pub record PlaceFits (s : Shape) (ns : List ℕ) (at : Place) : Type 0 where
  pub size : length ns ≡ 512
  pub bends : at.bends + bend_count s ≤ 2048
  pub cycles : at.cycles + cycle_count s ≤ 512
  pub steps : at.steps + width_sum (run_of at.cycles (cycle_count s) ns) ≤ 2048

-- the lengths of the arrays
pub record PoolLengths (xs ys : List Float) (ns st : List ℕ) : Type 0 where
  pub first : length xs ≡ 2048
  pub second : length ys ≡ 2048
  pub cycles : length ns ≡ 512
  pub steps : length st ≡ 2048

-- the arrays have what the cell c needs
pub record CellReady (c : Cell) (at : Place) (xs ys : List Float) (ns st : List ℕ) : Type 0 where
  pub sizes : PoolLengths xs ys ns st
  pub bends : at.bends + bend_count c.shape ≤ 2048
  pub cycles : at.cycles + cycle_count c.shape ≤ 512
  pub steps : at.steps + width_sum (run_of at.cycles (cycle_count c.shape) ns) ≤ 2048
  pub spelled : T (cell_spells (cell_in c at ns st (positions_from xs ys)))

-- the arrays have what n cells need
pub record AllReady (cs : List Cell) (n : ℕ) (xs ys : List Float) (ns st : List ℕ) : Type 0 where
  pub few : n ≤ 256
  pub cells : length cs ≡ 256
  pub sizes : PoolLengths xs ys ns st
  pub bends : bend_sum (take n cs) ≤ 2048
  pub cycles : cycle_sum (take n cs) ≤ 512
  pub steps : width_sum (take (cycle_sum (take n cs)) ns) ≤ 2048
  pub spelled : T (all cell_spells (cells_of (take n cs) (cycles_from ns st) (positions_from xs ys)))

-- d keeps within its arrays, and a file can hold it
pub record Writable (d : Drawing) : Type 0 where
  pub fits : Fits d
  pub spelled : T (sheet_spells (sheet_of d))
