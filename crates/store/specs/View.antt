-- How the struct in memory is read as a sheet.
use Rattle.std.specs.Prelude.{ℕ, zero, suc, ◌/◌, ◌%◌, ◌≤◌, eqb, List, [], ◌∷◌, map, take, drop, get_or}
use Rattle.coordinate.specs.declared.Position.{Position}
use Rattle.complex.specs.Lists.{total}
use Rattle.store.specs.declared.Shape.{Shape}
use Rattle.store.specs.declared.Shape.TheVariants.{Vertex, Open, Closed, Face}
use Rattle.store.specs.declared.Cell.{Cell}
use Rattle.store.specs.declared.Drawing.{Drawing}
use Rattle.complex.specs.Cells.{Halfedge, Cycle, lone, path, Figure, vertex, open_edge, closed_edge, face, LiveCell as Entry, Sheet}
use Rattle.complex.specs.Sound.{cells_most, cycles_most, steps_most, bends_most}

-- a step is 2 x id, plus 1 if backward
abbrev pub halfedge_of : ℕ → Halfedge
halfedge_of s = record { edge = s / 2; backward = eqb (s % 2) 1 }

-- the places of `steps` that a cycle takes: a lone vertex one, else as many as it has steps
abbrev pub width : ℕ → ℕ
width zero = 1
width (suc n) = suc n

-- the cycle of n steps at the front of st
abbrev pub cycle_of : ℕ → List ℕ → Cycle
cycle_of zero st = lone (get_or st 0 0)
cycle_of (suc n) st = path (map halfedge_of (take (suc n) st))

-- the cycles, each taking its steps off the front of what is left
abbrev pub cycles_from : List ℕ → List ℕ → List Cycle
cycles_from [] st = []
cycles_from (n ∷ ns) st = cycle_of n st ∷ cycles_from ns (drop (width n) st)

-- the numbers of a shape; its kind is 0 for a vertex, 1 for an open edge, 2 for a closed edge, 3 for a face
pub record ShapeNumbers : Type 0 where
  pub kind : ℕ
  pub start : ℕ
  pub end : ℕ
  pub bends : ℕ
  pub cycles : ℕ

abbrev pub numbers_of : Shape → ShapeNumbers
numbers_of (Vertex p) = record { kind = 0; start = 0; end = 0; bends = 0; cycles = 0 }
numbers_of (Open s e n) = record { kind = 1; start = s; end = e; bends = n; cycles = 0 }
numbers_of (Closed n) = record { kind = 2; start = 0; end = 0; bends = n; cycles = 0 }
numbers_of (Face k) = record { kind = 3; start = 0; end = 0; bends = 0; cycles = k }

abbrev pub cycle_count : Shape → ℕ
cycle_count x = (numbers_of x).cycles

abbrev pub bend_count : Shape → ℕ
bend_count x = (numbers_of x).bends

-- the figure of a shape, its cycles and bends at the front of ks and bs
abbrev pub figure_of : Shape → List Cycle → List Position → Figure
figure_of (Vertex p) ks bs = vertex p
figure_of (Open s e n) ks bs = open_edge s e (take n bs)
figure_of (Closed n) ks bs = closed_edge (take n bs)
figure_of (Face k) ks bs = face (take k ks)

-- the cells, each taking its cycles and bends off the front of what is left
abbrev pub cells_of : List Cell → List Cycle → List Position → List Entry
cells_of [] ks bs = []
cells_of (c ∷ cs) ks bs =
    record { id = c.id; figure = figure_of c.shape ks bs }
    ∷ cells_of cs (drop (cycle_count c.shape) ks) (drop (bend_count c.shape) bs)

unfoldable pub sheet_of : Drawing → Sheet
sheet_of d = record { next = d.next; cells = cells_of (take d.count d.cells) (cycles_from d.cycles d.steps) d.bends }

-- the sums of the counts
abbrev pub cycle_sum : List Cell → ℕ
cycle_sum cs = total (λ (c : Cell). cycle_count c.shape) cs

abbrev pub bend_sum : List Cell → ℕ
bend_sum cs = total (λ (c : Cell). bend_count c.shape) cs

abbrev pub width_sum : List ℕ → ℕ
width_sum ns = total width ns

abbrev pub cycle_total : Drawing → ℕ
cycle_total d = cycle_sum (take d.count d.cells)

abbrev pub bend_total : Drawing → ℕ
bend_total d = bend_sum (take d.count d.cells)

abbrev pub step_total : Drawing → ℕ
step_total d = width_sum (take (cycle_total d) d.cycles)

-- the drawing keeps within its arrays
pub record Fits (d : Drawing) : Type 0 where
  pub cells : d.count ≤ cells_most
  pub cycles : cycle_total d ≤ cycles_most
  pub steps : step_total d ≤ steps_most
  pub bends : bend_total d ≤ bends_most
