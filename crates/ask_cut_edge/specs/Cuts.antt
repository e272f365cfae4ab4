-- Where an edge is cut, by the places of its bends. Definitions only.
use Rattle.std.specs.Prelude.{ℕ, ◌+◌, ◌-◌, ◌/◌, ◌%◌, ◌≤◌, ◌<◌, ◌≡◌, true, false, cond, List, length, get_or, take, T, eqb, ltb, leb}
use Rattle.coordinate.specs.declared.Position.{Position}
use Rattle.coordinate.specs.Bounds.{middle}
use Rattle.complex.specs.Cells.{cell_at, ids, is_open, start_of, end_of, bends_of, origin}
use Rattle.complex.specs.Sound.{ids_end, cycles_most, steps_most, ceilings}
use Rattle.complex.specs.Cut.{cut_exists, cut_place}
use Rattle.complex.specs.Decode.{cut_edge}
use Rattle.complex.specs.Commands.{result}
use Rattle.store.specs.declared.Shape.{Shape}
use Rattle.store.specs.declared.Shape.TheVariants.{Vertex, Open, Closed, Face}
use Rattle.store.specs.declared.Cell.{Cell}
use Rattle.store.specs.declared.Drawing.{Drawing}
use Rattle.store.specs.Index.{row_of}
use Rattle.store.specs.View.{sheet_of, width_sum}
use Rattle.sound.specs.Soundness.{sound_drawing}
use Rattle.answer.specs.declared.Totals.{Totals}
use Rattle.answer.specs.Late.{Small}
use Rattle.rows_new.specs.declared.Runs.{Runs}
use Rattle.rows_new.specs.Runs.{run_at}

-- the place of the bend after bend i of a closed edge, whose m bends stand from base on
abbrev pub next_bend : ℕ → ℕ → ℕ → ℕ
next_bend base m i = cond (eqb (i + 1) m) base (base + i + 1)

-- place q of a closed edge lies at the bend p or between p and the bend o after it
abbrev pub closed_between : Position → Position → ℕ → Position
closed_between p o q = cond (eqb (q % 2) 1) p (middle p o)

-- where place q of a closed edge lies
abbrev pub closed_place : List Position → ℕ → ℕ → ℕ → Position
closed_place l base m q = closed_between (get_or l (base + q / 2) origin) (get_or l (next_bend base m (q / 2)) origin) q

-- the bends of the loop that it becomes
abbrev pub closed_runs : Position → ℕ → ℕ → ℕ → Runs
closed_runs p base m q =
    record {
      first = base + (q / 2 + 1);
      count = m - (q / 2 + 1);
      turned = false;
      middle = false;
      at = p;
      first2 = base;
      count2 = q / 2 + (1 - q % 2);
      turned2 = false;
    }

-- the edge e stands in a row, its m bends from base on; place q exists on it, and the result of the cut keeps the ceilings
pub record EdgeCuts (d : Drawing) (e row base m q : ℕ) : Type 0 where
  pub sound : T (sound_drawing d)
  pub found : row ≡ row_of e (ids (sheet_of d).cells)
  pub below : row < d.count
  pub bends : run_at base m d.bends ≡ bends_of (cell_at (sheet_of d) e)
  pub range : base + m ≤ 2048
  pub exists : cut_exists (cell_at (sheet_of d) e) q ≡ true
  pub ids_suffice : T (leb (result (sheet_of d) (cut_edge e q)).next ids_end)
  pub sizes_hold : T (ceilings (result (sheet_of d) (cut_edge e q)).cells)

-- ---- open edges
-- the position of a vertex
abbrev pub vertex_place : Shape → Position
vertex_place (Vertex p) = p
vertex_place (Open s e n) = origin
vertex_place (Closed n) = origin
vertex_place (Face k) = origin

abbrev pub no_cell : Cell
no_cell = record { id = 0; shape = Vertex origin }

-- the place of the bend that is the k-th point of an open edge, whose m bends stand from base on; 0 for an end
abbrev pub point_place : ℕ → ℕ → ℕ → ℕ
point_place base m k = cond (eqb k 0) 0 (cond (ltb m k) 0 (base + (k - 1)))

-- the k-th point of an open edge from pa to pb with m bends: p, where it is a bend
abbrev pub point_of : Position → Position → Position → ℕ → ℕ → Position
point_of pa pb p m k = cond (eqb k 0) pa (cond (ltb m k) pb p)

-- its place q lies at the bend p or between two points, o and p where these are bends
abbrev pub open_between : Position → Position → Position → Position → ℕ → ℕ → Position
open_between pa pb o p m q = cond (eqb (q % 2) 1) p (middle (point_of pa pb o m (q / 2)) (point_of pa pb p m (q / 2 + 1)))

-- the k-th point, where the bends stand in l from base on
abbrev pub open_point : Position → Position → List Position → ℕ → ℕ → ℕ → Position
open_point pa pb l base m k = point_of pa pb (get_or l (base + (k - 1)) origin) m k

-- where its place q lies
abbrev pub open_place : Position → Position → List Position → ℕ → ℕ → ℕ → Position
open_place pa pb l base m q =
    cond (eqb (q % 2) 1) (get_or l (base + q / 2) origin)
    (middle (open_point pa pb l base m (q / 2)) (open_point pa pb l base m (q / 2 + 1)))

-- one run
abbrev pub part_run : Position → ℕ → ℕ → Runs
part_run p first count =
    record { first = first; count = count; turned = false; middle = false; at = p; first2 = 0; count2 = 0; turned2 = false }

-- e is an open edge from s to f
pub record OpenEnds (d : Drawing) (e s f : ℕ) : Type 0 where
  pub is_one : is_open (cell_at (sheet_of d) e) ≡ true
  pub start : s ≡ start_of (cell_at (sheet_of d) e)
  pub end : f ≡ end_of (cell_at (sheet_of d) e)

-- place q of e lies at p
pub record CutPlaced (d : Drawing) (e q : ℕ) (p : Position) : Type 0 where
  pub place : p ≡ cut_place (cell_at (sheet_of d)) (cell_at (sheet_of d) e) q

-- the totals t of the first cycles and their steps
pub record CutCounted (cycles steps : List ℕ) (next : ℕ) (t : Totals) : Type 0 where
  pub next_in : next ≤ ids_end
  pub small : Small t
  pub cycle_room : length cycles ≡ 512
  pub step_room : length steps ≡ 2048
  pub cycles_in : t.cycles ≤ cycles_most
  pub steps_in : width_sum (take t.cycles cycles) ≤ steps_most
