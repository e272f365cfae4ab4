-- What the cells of a sheet put into the arrays.
use Rattle.std.specs.Prelude.{ℕ, ◌+◌, ◌*◌, Bool, true, false, List, [], ◌∷◌, map, length}
use Rattle.coordinate.specs.declared.Position.{Position}
use Rattle.store.specs.declared.Shape.{Shape}
use Rattle.store.specs.declared.Shape.TheVariants.{Vertex, Open, Closed, Face}
use Rattle.store.specs.declared.Cell.{Cell}
use Rattle.complex.specs.Cells.{Halfedge, Cycle, lone, path, Figure, vertex, open_edge, closed_edge, face, LiveCell as Entry}

abbrev pub bit : Bool → ℕ
bit true = 1
bit false = 0

abbrev pub word : Halfedge → ℕ
word h = h.edge * 2 + bit h.backward

abbrev pub num_of : Cycle → ℕ
num_of (lone v) = 0
num_of (path hs) = length hs

abbrev pub cycle_words : Cycle → List ℕ
cycle_words (lone v) = v ∷ []
cycle_words (path hs) = map word hs

abbrev pub shape_of : Figure → Shape
shape_of (vertex p) = Vertex p
shape_of (open_edge s e bs) = Open s e (length bs)
shape_of (closed_edge bs) = Closed (length bs)
shape_of (face ks) = Face (length ks)

abbrev pub figure_cycles : Figure → List Cycle
figure_cycles (vertex p) = []
figure_cycles (open_edge s e bs) = []
figure_cycles (closed_edge bs) = []
figure_cycles (face ks) = ks

abbrev pub figure_bends : Figure → List Position
figure_bends (vertex p) = []
figure_bends (open_edge s e bs) = bs
figure_bends (closed_edge bs) = bs
figure_bends (face ks) = []

abbrev pub entry_cell : Entry → Cell
entry_cell x = record { id = x.id; shape = shape_of x.figure }

abbrev pub entry_cycles : Entry → List Cycle
entry_cycles x = figure_cycles x.figure

abbrev pub entry_bends : Entry → List Position
entry_bends x = figure_bends x.figure
