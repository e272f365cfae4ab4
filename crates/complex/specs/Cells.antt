-- The cells of a drawing. Definitions only.
use Rattle.std.specs.Prelude.{ℕ, zero, suc, Bool, true, false, not, ◌&&◌, ◌||◌, cond, List, [], ◌∷◌, map, eqb}
use Rattle.std.specs.Bool.{beq}
use Rattle.std.proofs.Math.Option.{Option, none, some}
use Rattle.std.specs.Float.{binary64}
use Rattle.std.specs.Float.Ieee.{of_bits}
use Rattle.coordinate.specs.declared.Position.{Position}

-- a step: an edge with a direction
pub record Halfedge : Type 0 where
  pub edge : ℕ
  pub backward : Bool

-- a lone vertex, or 1 or more steps
pub data Cycle : Type 0 where
  lone : ℕ → Cycle
  path : List Halfedge → Cycle

-- what a cell is; an open edge has its start, its end and its bends
pub data Figure : Type 0 where
  vertex : Position → Figure
  open_edge : ℕ → ℕ → List Position → Figure
  closed_edge : List Position → Figure
  face : List Cycle → Figure

pub record LiveCell : Type 0 where
  pub id : ℕ
  pub figure : Figure

-- a drawing: the next id, and the live cells by rising id
pub record Sheet : Type 0 where
  pub next : ℕ
  pub cells : List LiveCell

abbrev pub empty : Sheet
empty = record { next = 1; cells = [] }

-- ---- the cell of an id
abbrev pub Look : Type 0
Look = ℕ → Option Figure

abbrev pub some_if : Bool → Figure → Option Figure → Option Figure
some_if true x o = some x
some_if false x o = o

abbrev pub lookup : List LiveCell → Look
lookup [] i = none
lookup (c ∷ cs) i = some_if (eqb c.id i) c.figure (lookup cs i)

abbrev pub cell_at : Sheet → Look
cell_at s = lookup s.cells

abbrev pub ids : List LiveCell → List ℕ
ids cs = map (λ (c : LiveCell). c.id) cs

abbrev pub is_vertex : Option Figure → Bool
is_vertex none = false
is_vertex (some (vertex p)) = true
is_vertex (some (open_edge a b bs)) = false
is_vertex (some (closed_edge bs)) = false
is_vertex (some (face ks)) = false

abbrev pub is_open : Option Figure → Bool
is_open none = false
is_open (some (vertex p)) = false
is_open (some (open_edge a b bs)) = true
is_open (some (closed_edge bs)) = false
is_open (some (face ks)) = false

abbrev pub is_closed : Option Figure → Bool
is_closed none = false
is_closed (some (vertex p)) = false
is_closed (some (open_edge a b bs)) = false
is_closed (some (closed_edge bs)) = true
is_closed (some (face ks)) = false

abbrev pub is_face : Option Figure → Bool
is_face none = false
is_face (some (vertex p)) = false
is_face (some (open_edge a b bs)) = false
is_face (some (closed_edge bs)) = false
is_face (some (face ks)) = true

abbrev pub is_live : Option Figure → Bool
is_live none = false
is_live (some x) = true

abbrev pub is_edge : Option Figure → Bool
is_edge o = is_open o || is_closed o

abbrev pub is_vertex_or_edge : Option Figure → Bool
is_vertex_or_edge o = is_vertex o || is_edge o

-- ---- the fields of a cell; what is asked of another kind is 0 or nothing
abbrev pub start_of : Option Figure → ℕ
start_of none = 0
start_of (some (vertex p)) = 0
start_of (some (open_edge a b bs)) = a
start_of (some (closed_edge bs)) = 0
start_of (some (face ks)) = 0

abbrev pub end_of : Option Figure → ℕ
end_of none = 0
end_of (some (vertex p)) = 0
end_of (some (open_edge a b bs)) = b
end_of (some (closed_edge bs)) = 0
end_of (some (face ks)) = 0

abbrev pub bends_of : Option Figure → List Position
bends_of none = []
bends_of (some (vertex p)) = []
bends_of (some (open_edge a b bs)) = bs
bends_of (some (closed_edge bs)) = bs
bends_of (some (face ks)) = []

abbrev pub cycles_of : Option Figure → List Cycle
cycles_of none = []
cycles_of (some (vertex p)) = []
cycles_of (some (open_edge a b bs)) = []
cycles_of (some (closed_edge bs)) = []
cycles_of (some (face ks)) = ks

-- 0.0, 0.0
abbrev pub origin : Position
origin = record { x = of_bits binary64 0; y = of_bits binary64 0 }

abbrev pub position_of : Option Figure → Position
position_of none = origin
position_of (some (vertex p)) = p
position_of (some (open_edge a b bs)) = origin
position_of (some (closed_edge bs)) = origin
position_of (some (face ks)) = origin

-- a lone vertex has the empty path
abbrev pub steps_of : Cycle → List Halfedge
steps_of (lone v) = []
steps_of (path hs) = hs

-- ---- halfedges
-- e
abbrev pub along : ℕ → Halfedge
along e = record { edge = e; backward = false }

-- e⁻
abbrev pub against : ℕ → Halfedge
against e = record { edge = e; backward = true }

-- the same edge in the other direction
abbrev pub flipped : Halfedge → Halfedge
flipped h = record { edge = h.edge; backward = not h.backward }

abbrev pub same : Halfedge → Halfedge → Bool
same h k = eqb h.edge k.edge && beq h.backward k.backward

-- where a halfedge of an open edge begins
abbrev pub tail_of : Look → Halfedge → ℕ
tail_of look h = cond h.backward (end_of (look h.edge)) (start_of (look h.edge))

-- where it ends
abbrev pub head_of : Look → Halfedge → ℕ
head_of look h = cond h.backward (start_of (look h.edge)) (end_of (look h.edge))
