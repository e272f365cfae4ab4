-- Soundness of the rows of an index, and of the cycles in number arrays. Definitions only.
use Rattle.std.specs.Prelude.{ℕ, zero, suc, ◌/◌, ◌%◌, Bool, true, false, not, ◌&&◌, ◌||◌, cond, List, [], ◌∷◌, eqb, take, drop, get_or}
use Rattle.complex.specs.Lists.{all}
use Rattle.store.specs.Index.{row_of, value_at}
use Rattle.store.specs.View.{width}

-- a row for each cell
pub record Rows : Type 0 where
  pub ids : List ℕ
  pub kinds : List ℕ
  pub starts : List ℕ
  pub ends : List ℕ

abbrev pub rows_of : ℕ → List ℕ → List ℕ → List ℕ → List ℕ → Rows
rows_of n is ks ss es = record { ids = take n is; kinds = take n ks; starts = take n ss; ends = take n es }

-- ---- the rows of edges
abbrev pub is_vertex_in : List ℕ → List ℕ → ℕ → Bool
is_vertex_in is ks v = eqb (value_at 4 is ks v) 0

-- an open edge's ends a and b are vertices; a closed edge has a bend, where m are its bends
abbrev pub edge_good : List ℕ → List ℕ → ℕ → ℕ → ℕ → ℕ → Bool
edge_good is ks k a b m = cond (eqb k 1) (is_vertex_in is ks a && is_vertex_in is ks b) (cond (eqb k 2) (not (eqb m 0)) true)

abbrev pub row_good : Rows → List ℕ → ℕ → Bool
row_good t bs i = edge_good t.ids t.kinds (get_or t.kinds i 0) (get_or t.starts i 0) (get_or t.ends i 0) (get_or bs i 0)

-- p of each of the m numbers from i on
abbrev pub all_from : (ℕ → Bool) → ℕ → ℕ → Bool
all_from p i zero = true
all_from p i (suc m) = p i && all_from p (suc i) m

-- ---- cycles; a step is 2 x id, plus 1 if backward
-- where the step s of the edge in row r begins; with ss and es exchanged, where it ends
abbrev pub side_at : List ℕ → List ℕ → ℕ → ℕ → ℕ
side_at ss es r s = cond (eqb (s % 2) 1) (get_or es r 0) (get_or ss r 0)

-- the step s, of the edge in row r, is of an open edge and begins at u
abbrev pub goes_on_at : List ℕ → List ℕ → List ℕ → ℕ → ℕ → ℕ → Bool
goes_on_at ks ss es r u s = eqb (get_or ks r 4) 1 && eqb u (side_at ss es r s)

abbrev pub row_in : Rows → ℕ → ℕ
row_in t s = row_of (s / 2) t.ids

abbrev pub tail_in : Rows → ℕ → ℕ
tail_in t s = side_at t.starts t.ends (row_in t s) s

abbrev pub head_in : Rows → ℕ → ℕ
head_in t s = side_at t.ends t.starts (row_in t s) s

abbrev pub goes_on : Rows → ℕ → ℕ → Bool
goes_on t u s = goes_on_at t.kinds t.starts t.ends (row_in t s) u s

abbrev pub leads_in : Rows → ℕ → List ℕ → ℕ → Bool
leads_in t u [] w = eqb u w
leads_in t u (s ∷ st) w = goes_on t u s && leads_in t (head_in t s) st w

abbrev pub is_closed_in : Rows → ℕ → Bool
is_closed_in t s = eqb (get_or t.kinds (row_in t s) 4) 2

abbrev pub joins_in : Rows → List ℕ → Bool
joins_in t [] = false
joins_in t (s ∷ st) = leads_in t (tail_in t s) (s ∷ st) (tail_in t s) || (is_closed_in t s && all (eqb s) st)

-- the cycle with the number n at the front of st
abbrev pub cycle_good : Rows → ℕ → List ℕ → Bool
cycle_good t zero st = is_vertex_in t.ids t.kinds (get_or st 0 0)
cycle_good t (suc n) st = joins_in t (take (suc n) st)

abbrev pub cycles_good : Rows → List ℕ → List ℕ → Bool
cycles_good t [] st = true
cycles_good t (n ∷ ns) st = cycle_good t n st && cycles_good t ns (drop (width n) st)
