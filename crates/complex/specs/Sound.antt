-- When a drawing is sound. Definitions only.
use Rattle.std.specs.Prelude.{ℕ, zero, suc, ◌+◌, ◌≡◌, Bool, true, false, not, ◌&&◌, ◌||◌, List, [], ◌∷◌, length, T, eqb, leb}
use Rattle.std.specs.Float.{binary64}
use Rattle.std.specs.Float.Ieee.{fits}
use Rattle.coordinate.specs.declared.Position.{Position}
use Rattle.coordinate.specs.Bounds.{within}
use Rattle.complex.specs.Lists.{all, is_empty, total, rising}
use Rattle.complex.specs.Cells.{Halfedge, Cycle, lone, path, Figure, vertex, open_edge, closed_edge, face, LiveCell, Sheet}
use Rattle.complex.specs.Cells.{Look, lookup, ids, is_vertex, is_open, is_closed, same, tail_of, head_of}

-- ids run 1 to 65,535
abbrev pub ids_end : ℕ
ids_end = 65536

-- ---- cycles
-- halfedges of open edges lead from u to w, each ending where the next begins
abbrev pub Walk : Look → ℕ → List Halfedge → ℕ → Type 0
Walk look u [] w = u ≡ w
Walk look u (h ∷ hs) w = T (is_open (look h.edge)) × (u ≡ tail_of look h) × Walk look (head_of look h) hs w

-- the test
abbrev pub leads : Look → ℕ → List Halfedge → ℕ → Bool
leads look u [] w = eqb u w
leads look u (h ∷ hs) w = is_open (look h.edge) && (eqb u (tail_of look h) && leads look (head_of look h) hs w)

-- steps are all of open edges, each ending where the next begins, last to first; or all one closed edge in one direction
abbrev pub joins : Look → List Halfedge → Bool
joins look [] = false
joins look (h ∷ hs) = leads look (tail_of look h) (h ∷ hs) (tail_of look h) || (is_closed (look h.edge) && all (same h) hs)

abbrev pub cycle_ok : Look → Cycle → Bool
cycle_ok look (lone v) = is_vertex (look v)
cycle_ok look (path hs) = joins look hs

abbrev pub figure_ok : Look → Figure → Bool
figure_ok look (vertex p) = within p
figure_ok look (open_edge a b bs) = is_vertex (look a) && (is_vertex (look b) && all within bs)
figure_ok look (closed_edge bs) = not (is_empty bs) && all within bs
figure_ok look (face ks) = all (cycle_ok look) ks

-- ---- the ceilings
abbrev pub cells_most : ℕ
cells_most = 256

abbrev pub cycles_most : ℕ
cycles_most = 512

abbrev pub steps_most : ℕ
steps_most = 2048

abbrev pub bends_most : ℕ
bends_most = 2048

-- a lone vertex counts as one step
abbrev pub step_count : Cycle → ℕ
step_count (lone v) = 1
step_count (path hs) = length hs

abbrev pub cycles_in : Figure → ℕ
cycles_in (vertex p) = 0
cycles_in (open_edge a b bs) = 0
cycles_in (closed_edge bs) = 0
cycles_in (face ks) = length ks

abbrev pub steps_in : Figure → ℕ
steps_in (vertex p) = 0
steps_in (open_edge a b bs) = 0
steps_in (closed_edge bs) = 0
steps_in (face ks) = total step_count ks

abbrev pub bends_in : Figure → ℕ
bends_in (vertex p) = 0
bends_in (open_edge a b bs) = length bs
bends_in (closed_edge bs) = length bs
bends_in (face ks) = 0

-- the sum of f over the cells
abbrev pub over : (Figure → ℕ) → List LiveCell → ℕ
over f cs = total (λ (c : LiveCell). f c.figure) cs

-- the totals of the cells keep theirs
abbrev pub totals_ok : List LiveCell → Bool
totals_ok cs = leb (over cycles_in cs) cycles_most && (leb (over steps_in cs) steps_most && leb (over bends_in cs) bends_most)

abbrev pub ceilings : List LiveCell → Bool
ceilings cs = leb (length cs) cells_most && totals_ok cs

-- ---- all of it
abbrev pub figures_ok : List LiveCell → Bool
figures_ok cs = all (λ (c : LiveCell). figure_ok (lookup cs) c.figure) cs

-- ids rise from 1 and are below the next id, which is 1 to 65,536
unfoldable pub sound : Sheet → Bool
unfolding within
sound s = rising 0 (ids s.cells) s.next && (leb s.next ids_end && (ceilings s.cells && figures_ok s.cells))

-- ---- each coordinate is an f64: a Float that the format has. Every value in memory is; the type Float has others
unfoldable pub double : Position → Bool
unfolding fits
double p = fits binary64 p.x && fits binary64 p.y

abbrev pub figure_double : Figure → Bool
figure_double (vertex p) = double p
figure_double (open_edge a b bs) = all double bs
figure_double (closed_edge bs) = all double bs
figure_double (face ks) = true

abbrev pub doubles : Sheet → Bool
doubles s = all (λ (c : LiveCell). figure_double c.figure) s.cells
