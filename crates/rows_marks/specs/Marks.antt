-- Marks of rows: open edges at a vertex, faces with a step of a marked edge or a lone cycle of a vertex. Definitions only.
use Rattle.std.specs.Prelude.{ℕ, ◌≤◌, ◌%◌, ◌≡◌, Bool, true, false, ◌&&◌, ◌||◌, List, [], ◌∷◌, map, eqb, length, take, drop, get_or}
use Rattle.complex.specs.Lists.{any, total}
use Rattle.complex.specs.Cells.{Halfedge, Cycle, lone, path}
use Rattle.complex.specs.Sound.{cells_most, cycles_most, steps_most}
use Rattle.store.specs.View.{cycles_from, width_sum}
use Rattle.store.specs.Index.{row_of, Rising}

-- ---- edges
-- whether a cell of this kind, start and end is an open edge with an end at i
abbrev pub ends_there : ℕ → ℕ → ℕ → ℕ → Bool
ends_there i kind start end = eqb kind 1 && (eqb i start || eqb i end)

-- the same of each row, where ks, ss and es are the cells' kinds, starts and ends
abbrev pub edge_marks : ℕ → List ℕ → List ℕ → List ℕ → List Bool
edge_marks i [] ss es = []
edge_marks i (k ∷ ks) [] es = []
edge_marks i (k ∷ ks) (s ∷ ss) [] = []
edge_marks i (k ∷ ks) (s ∷ ss) (e ∷ es) = ends_there i k s e ∷ edge_marks i ks ss es

-- ---- cycles, where is are the cells' ids and ms the marks of their rows
-- the mark of a cell
abbrev pub mark_at : List ℕ → List Bool → ℕ → Bool
mark_at is ms e = get_or ms (row_of e is) false

-- whether a step's edge is marked
abbrev pub step_marked : List ℕ → List Bool → Halfedge → Bool
step_marked is ms h = mark_at is ms h.edge

-- whether a cycle is the lone vertex v, or has a step of a marked edge
abbrev pub cycle_marked : List ℕ → List Bool → ℕ → Cycle → Bool
cycle_marked is ms v (lone w) = eqb v w
cycle_marked is ms v (path hs) = any (step_marked is ms) hs

-- ---- cells
abbrev pub any_of : List Bool → Bool
any_of bs = any (λ (b : Bool). b) bs

abbrev pub sum_of : List ℕ → ℕ
sum_of ns = total (λ (n : ℕ). n) ns

-- each cell's own mark, or one of those of its cycles, taken off the front of what is left
abbrev pub cell_marks : List Bool → List ℕ → List Bool → List Bool
cell_marks [] cs bs = []
cell_marks (m ∷ ms) [] bs = []
cell_marks (m ∷ ms) (c ∷ cs) bs = (m || any_of (take c bs)) ∷ cell_marks ms cs (drop c bs)

-- the marks ms and those of the faces with a cycle of which q holds, where cs are the counts of cycles, and ns and st the cycles and the steps
abbrev pub face_marks : (Cycle → Bool) → List Bool → List ℕ → List ℕ → List ℕ → List Bool
face_marks q ms cs ns st = cell_marks ms cs (map q (cycles_from (take (sum_of cs) ns) st))

-- ---- what the loops are given
-- marks of n rows, with a flag in the place of every marked id, by its rest
pub record Sought (is : List ℕ) (ms : List Bool) (n : ℕ) (fs : List Bool) : Type 0 where
  pub rows : n ≤ cells_most
  pub ids : length is ≡ cells_most
  pub marks : length ms ≡ cells_most
  pub flags : length fs ≡ cells_most
  pub rising : Rising (take n is)
  pub covers : (e : ℕ) → mark_at (take n is) (take n ms) e ≡ true → get_or fs (e % cells_most) false ≡ true

-- the counts of cycles of n rows, their cycles, and the steps, within their arrays
pub record Pooled (cs : List ℕ) (n : ℕ) (ns st : List ℕ) : Type 0 where
  pub rows : n ≤ cells_most
  pub counts : length cs ≡ cells_most
  pub cycles : length ns ≡ cycles_most
  pub steps : length st ≡ steps_most
  pub cycles_fit : sum_of (take n cs) ≤ cycles_most
  pub steps_fit : width_sum (take (sum_of (take n cs)) ns) ≤ steps_most
