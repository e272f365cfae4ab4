-- Arrays with a cell more, in the row after the last. Definitions only.
use Rattle.std.specs.Prelude.{ℕ, ◌+◌, ◌≡◌, List, Float, set}
use Rattle.coordinate.specs.declared.Position.{Position}
use Rattle.store.specs.declared.Shape.{Shape}
use Rattle.store.specs.declared.Shape.TheVariants.{Vertex, Open, Closed, Face}
use Rattle.store.specs.View.{bend_count, cycle_count}
use Rattle.store.specs.Index.{kind_of, shape_start, shape_end}
use Rattle.lent.specs.Arrays.{Arrays}

-- the kind, start, end, bends and cycles in the row; xs and ys are the positions
abbrev pub with_row : Arrays → ℕ → ℕ → ℕ → ℕ → ℕ → List Float → List Float → Arrays
with_row a k s e b c xs ys =
    record {
      next = a.next + 1;
      count = a.count + 1;
      ids = set a.ids a.count a.next;
      kinds = set a.kinds a.count k;
      starts = set a.starts a.count s;
      ends = set a.ends a.count e;
      bends = set a.bends a.count b;
      counts = set a.counts a.count c;
      px = xs;
      py = ys;
      cycles = a.cycles;
      steps = a.steps;
      bx = a.bx;
      by = a.by;
    }

-- the id and the kind, start, end, bends and cycles in a row
abbrev pub row_put : Arrays → ℕ → ℕ → ℕ → ℕ → ℕ → ℕ → ℕ → Arrays
row_put a row i k s e b c =
    record a {
      ids = set a.ids row i;
      kinds = set a.kinds row k;
      starts = set a.starts row s;
      ends = set a.ends row e;
      bends = set a.bends row b;
      counts = set a.counts row c;
    }

abbrev pub with_vertex : Arrays → Position → Arrays
with_vertex a p = with_row a 0 0 0 0 0 (set a.px a.count p.x) (set a.py a.count p.y)

-- an open edge, of the k bends that stand after those in use
abbrev pub with_open : Arrays → ℕ → ℕ → ℕ → Arrays
with_open a s e k = with_row a 1 s e k 0 a.px a.py

-- a closed edge, of the k bends that stand after those in use
abbrev pub with_closed : Arrays → ℕ → Arrays
with_closed a k = with_row a 2 0 0 k 0 a.px a.py

-- a face, of the k cycles that stand after those in use, their steps after the steps in use
abbrev pub with_face : Arrays → ℕ → Arrays
with_face a k = with_row a 3 0 0 0 k a.px a.py

-- ---- a cell of whatever shape
-- the x's, and the y's, with the position of a vertex in a row; with another cell they stay
abbrev pub across_with : List Float → ℕ → Shape → List Float
across_with xs i (Vertex p) = set xs i p.x
across_with xs i (Open s e n) = xs
across_with xs i (Closed n) = xs
across_with xs i (Face k) = xs

abbrev pub up_with : List Float → ℕ → Shape → List Float
up_with ys i (Vertex p) = set ys i p.y
up_with ys i (Open s e n) = ys
up_with ys i (Closed n) = ys
up_with ys i (Face k) = ys

-- the id i and the shape x in a row: every number, and the position of a vertex
abbrev pub cell_put : Arrays → ℕ → ℕ → Shape → Arrays
cell_put a row i x =
    record (row_put a row i (kind_of x) (shape_start x) (shape_end x) (bend_count x) (cycle_count x)) {
      px = across_with a.px row x;
      py = up_with a.py row x;
    }

-- the id i and the shape x are written into a row: every number, and the position of a vertex
pub record RowPut (row i : ℕ) (x : Shape) (is ks ss es bs cs : List ℕ) (xs ys : List Float)
    (is' ks' ss' es' bs' cs' : List ℕ) (xs' ys' : List Float) : Type 0 where
  pub ids : is' ≡ set is row i
  pub kinds : ks' ≡ set ks row (kind_of x)
  pub starts : ss' ≡ set ss row (shape_start x)
  pub ends : es' ≡ set es row (shape_end x)
  pub bends : bs' ≡ set bs row (bend_count x)
  pub counts : cs' ≡ set cs row (cycle_count x)
  pub px : xs' ≡ across_with xs row x
  pub py : ys' ≡ up_with ys row x

-- a with the next id and the shape x in the row after the last
abbrev pub with_shape : Arrays → Shape → Arrays
with_shape a x = with_row a (kind_of x) (shape_start x) (shape_end x) (bend_count x) (cycle_count x) (across_with a.px a.count x) (up_with a.py a.count x)
