-- Cells put after those of a sheet or of a drawing, and the room that they need. Definitions only.
use Rattle.std.specs.Prelude.{ℕ, ◌+◌, ◌≤◌, ◌<◌, Bool, List, ◌++◌, length, set, get_or, T, leb}
use Rattle.std.proofs.Math.Seq.{paste}
use Rattle.coordinate.specs.declared.Position.{Position}
use Rattle.number.specs.Readers.{spread}
use Rattle.complex.specs.Cells.{Figure, vertex, Sheet, origin}
use Rattle.complex.specs.Edits.{numbered, keep_ids, reshape}
use Rattle.complex.specs.Sound.{ids_end, cells_most, cycles_most, steps_most, bends_most, ceilings}
use Rattle.store.specs.declared.Shape.{Shape}
use Rattle.store.specs.declared.Drawing.{Drawing}
use Rattle.store.specs.View.{Fits, cycle_total, step_total, bend_total}
use Rattle.store.specs.Places.{figure_cycles, figure_bends, cycle_words}
use Rattle.store.specs.Edits.{with_cells, with_bends}

-- ---- sheets
-- the sheet with more cells, at the next ids
abbrev pub appended_all : List Figure → Sheet → Sheet
appended_all xs s = record { next = s.next + length xs; cells = s.cells ++ numbered s.next xs }

-- the sheet whose cells are those that p keeps, changed by f
abbrev pub remade : (ℕ → Bool) → (ℕ → Figure → Figure) → Sheet → Sheet
remade p f s = record { next = s.next; cells = reshape f (keep_ids p s.cells) }

-- the ids suffice for the cells xs, and the ceilings hold with them
pub record RoomIn (s : Sheet) (xs : List Figure) : Type 0 where
  pub ids : T (leb (appended_all xs s).next ids_end)
  pub sizes : T (ceilings (appended_all xs s).cells)

-- the figure in a row of the sheet
abbrev pub figure_at : Sheet → ℕ → Figure
figure_at s row = (get_or s.cells row (record { id = 0; figure = vertex origin })).figure

-- ---- drawings
-- d fits, and a cell x fits after its own
pub record CellRoom (d : Drawing) (x : Figure) : Type 0 where
  pub fits : Fits d
  pub cells : d.count < cells_most
  pub ids : d.next < ids_end
  pub cycles : cycle_total d + length (figure_cycles x) ≤ cycles_most
  pub steps : step_total d + length (spread cycle_words (figure_cycles x)) ≤ steps_most
  pub bends : bend_total d + length (figure_bends x) ≤ bends_most

-- d with one cell more
abbrev pub with_cell : Drawing → Shape → Drawing
with_cell d s = with_cells d (d.next + 1) (d.count + 1) (set d.cells d.count (record { id = d.next; shape = s }))

-- d with bs after the bends in use
abbrev pub with_more_bends : Drawing → List Position → Drawing
with_more_bends d bs = with_bends d (paste d.bends (bend_total d) bs (length bs))
