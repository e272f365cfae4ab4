-- Boundary, star, and what rests on a cell. Definitions only.
use Rattle.std.specs.Prelude.{ℕ, zero, suc, Bool, true, false, ◌||◌, List, [], ◌∷◌, T, eqb}
use Rattle.std.proofs.Math.Option.{Option, none, some}
use Rattle.number.specs.Readers.{spread}
use Rattle.complex.specs.Lists.{any, filter, holds}
use Rattle.complex.specs.Cells.{Halfedge, Cycle, lone, path, Figure, vertex, open_edge, closed_edge, face, LiveCell, Look, lookup, ids}

-- an edge's ends
abbrev pub ends_of : Option Figure → List ℕ
ends_of none = []
ends_of (some (vertex p)) = []
ends_of (some (open_edge a b bs)) = a ∷ b ∷ []
ends_of (some (closed_edge bs)) = []
ends_of (some (face ks)) = []

-- a lone vertex; the steps' edges and their ends
abbrev pub cycle_boundary : Look → Cycle → List ℕ
cycle_boundary look (lone v) = v ∷ []
cycle_boundary look (path hs) = spread (λ (h : Halfedge). h.edge ∷ ends_of (look h.edge)) hs

-- an edge's boundary is its ends; a face's is its lone vertices, its steps' edges and their ends
abbrev pub boundary : Look → Figure → List ℕ
boundary look (vertex p) = []
boundary look (open_edge a b bs) = a ∷ b ∷ []
boundary look (closed_edge bs) = []
boundary look (face ks) = spread (cycle_boundary look) ks

abbrev pub boundary_at : Look → Option Figure → List ℕ
boundary_at look none = []
boundary_at look (some x) = boundary look x

-- whether the boundary of a figure holds i
abbrev pub bounds : Look → ℕ → Figure → Bool
bounds look i x = holds i (boundary look x)

abbrev pub bounds_at : Look → ℕ → Option Figure → Bool
bounds_at look i o = holds i (boundary_at look o)

-- the ids, rising, of the cells whose boundary holds i
abbrev pub star : List LiveCell → ℕ → List ℕ
star cs i = ids (filter (λ (c : LiveCell). bounds (lookup cs) i c.figure) cs)

-- a cell rests on another if its boundary holds that one, or holds a cell that rests on it
pub data RestsOn (look : Look) (x : ℕ) : ℕ → Type 0 where
  holding : {z : ℕ} → T (bounds_at look x (look z)) → RestsOn look x z
  through : {y z : ℕ} → T (bounds_at look y (look z)) → RestsOn look x y → RestsOn look x z

-- the test: whether z rests on x by way of at most n boundaries
abbrev pub rests : Look → ℕ → ℕ → ℕ → Bool
rests look zero x z = false
rests look (suc n) x z = any (λ (y : ℕ). eqb x y || rests look n x y) (boundary_at look (look z))
