-- Which cells have an id in their boundary, as the rows and the pools of a drawing show it. Definitions only.
use Rattle.std.specs.Prelude.{ℕ, ◌≤◌, ◌≡◌, Bool, ◌||◌, List, [], ◌∷◌, eqb, length, take}
use Rattle.complex.specs.Lists.{any, cons_if}
use Rattle.complex.specs.Cells.{Halfedge, Cycle, lone, path}
use Rattle.store.specs.View.{width_sum}
use Rattle.store.specs.Index.{Rising}
use Rattle.rows_marks.specs.Marks.{edge_marks, mark_at, sum_of, face_marks}

-- ---- cycles, where is are the cells' ids and ms the marks of the open edges at i
-- whether a step's edge is i or has an end there
abbrev pub step_holds : List ℕ → List Bool → ℕ → Halfedge → Bool
step_holds is ms i h = eqb i h.edge || mark_at is ms h.edge

abbrev pub cycle_holds : List ℕ → List Bool → ℕ → Cycle → Bool
cycle_holds is ms i (lone v) = eqb i v
cycle_holds is ms i (path hs) = any (step_holds is ms i) hs

-- ---- cells
-- whether each cell's boundary holds i, where cs are the cells' counts of cycles, and ns and st the cycles and the steps
unfoldable pub star_marks : List ℕ → List ℕ → List ℕ → List ℕ → List ℕ → List ℕ → List ℕ → ℕ → List Bool
star_marks is ks ss es cs ns st i = face_marks (cycle_holds is (edge_marks i ks ss es) i) (edge_marks i ks ss es) cs ns st

-- the rows of n cells, whose cycles and steps keep within the pools
pub record Readable (is ks ss es cs : List ℕ) (n : ℕ) (ns st : List ℕ) : Type 0 where
  pub rows : n ≤ 256
  pub ids : length is ≡ 256
  pub kinds : length ks ≡ 256
  pub starts : length ss ≡ 256
  pub ends : length es ≡ 256
  pub counts : length cs ≡ 256
  pub cycles : length ns ≡ 512
  pub steps : length st ≡ 2048
  pub rising : Rising (take n is)
  pub cycles_fit : sum_of (take n cs) ≤ 512
  pub steps_fit : width_sum (take (sum_of (take n cs)) ns) ≤ 2048

-- ---- the marked elements
abbrev pub picked : {A : Type 0} → List Bool → List A → List A
picked [] xs = []
picked (m ∷ ms) [] = []
picked (m ∷ ms) (x ∷ xs) = cons_if m x (picked ms xs)
