-- Steps of an edge by their direction. Definitions only.
use Rattle.std.specs.Prelude.{ℕ, cond, eqb}
use Rattle.complex.specs.Lists.{total}
use Rattle.complex.specs.Cells.{Halfedge, Cycle, steps_of}

-- what a step counts for edge e: back if it is backward, forth if not, and nothing if it is of another edge
abbrev pub side_use : ℕ → ℕ → ℕ → Halfedge → ℕ
side_use back forth e h = cond (eqb e h.edge) (cond h.backward back forth) 0

-- whether a step is of edge e, forward or backward
abbrev pub forward_use : ℕ → Halfedge → ℕ
forward_use e h = side_use 0 1 e h

abbrev pub backward_use : ℕ → Halfedge → ℕ
backward_use e h = side_use 1 0 e h

-- how many such steps a cycle has
abbrev pub forward_in : ℕ → Cycle → ℕ
forward_in e k = total (forward_use e) (steps_of k)

abbrev pub backward_in : ℕ → Cycle → ℕ
backward_in e k = total (backward_use e) (steps_of k)
