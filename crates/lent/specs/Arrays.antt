-- The drawing that lent arrays hold, a row of numbers for each cell. Definitions only.
use Rattle.std.specs.Prelude.{ℕ, zero, suc, ◌≡◌, Bool, true, ◌&&◌, cond, List, [], ◌∷◌, eqb, Float, get_or, length, take}
use Rattle.std.specs.Float.{nan}
use Rattle.coordinate.specs.declared.Position.{Position}
use Rattle.complex.specs.Lists.{total}
use Rattle.complex.specs.Sound.{cells_most, cycles_most, steps_most, bends_most}
use Rattle.store.specs.declared.Shape.{Shape}
use Rattle.store.specs.declared.Shape.TheVariants.{Vertex, Open, Closed, Face}
use Rattle.store.specs.declared.Cell.{Cell}
use Rattle.store.specs.declared.Drawing.{Drawing}
use Rattle.store.specs.declared.Index.{Index}
use Rattle.store.specs.Edits.{places_of}
use Rattle.sound.specs.Rows.{all_from}
use Rattle.sound.specs.Soundness.{sound_drawing}
use Rattle.answer.specs.declared.Totals.{Totals}

-- what is lent: the next id, the number of cells, and the arrays
pub record Arrays : Type 0 where
  pub next : ℕ
  pub count : ℕ
  pub ids : List ℕ
  pub kinds : List ℕ
  pub starts : List ℕ
  pub ends : List ℕ
  pub bends : List ℕ
  pub counts : List ℕ
  pub px : List Float
  pub py : List Float
  pub cycles : List ℕ
  pub steps : List ℕ
  pub bx : List Float
  pub by : List Float

-- the arrays of lists
abbrev pub of_lists : ℕ → ℕ → List ℕ → List ℕ → List ℕ → List ℕ → List ℕ → List ℕ → List Float → List Float → List ℕ → List ℕ → List Float → List Float → Arrays
of_lists next n is ks ss es bs cs px py cy st bx by =
    record {
      next = next;
      count = n;
      ids = is;
      kinds = ks;
      starts = ss;
      ends = es;
      bends = bs;
      counts = cs;
      px = px;
      py = py;
      cycles = cy;
      steps = st;
      bx = bx;
      by = by;
    }

-- ---- the drawing
-- the shape in a row: its kind, start, end, bends, cycles and position
abbrev pub shape_by : ℕ → ℕ → ℕ → ℕ → ℕ → Position → Shape
shape_by zero s e b k p = Vertex p
shape_by (suc zero) s e b k p = Open s e b
shape_by (suc (suc zero)) s e b k p = Closed b
shape_by (suc (suc (suc n))) s e b k p = Face k

-- the position in a place of two arrays
abbrev pub position_in : List Float → List Float → ℕ → Position
position_in xs ys i = record { x = get_or xs i nan; y = get_or ys i nan }

abbrev pub shape_at : Arrays → ℕ → Shape
shape_at a i =
    shape_by (get_or a.kinds i 0) (get_or a.starts i 0) (get_or a.ends i 0) (get_or a.bends i 0) (get_or a.counts i 0)
    (position_in a.px a.py i)

-- a cell for each id, with the shapes f
abbrev pub cells_by : (ℕ → Shape) → List ℕ → List Cell
cells_by f [] = []
cells_by f (x ∷ is) = record { id = x; shape = f 0 } ∷ cells_by (λ i. f (suc i)) is

-- the positions of two arrays
abbrev pub positions_in : List Float → List Float → List Position
positions_in [] ys = []
positions_in (x ∷ xs) [] = []
positions_in (x ∷ xs) (y ∷ ys) = record { x = x; y = y } ∷ positions_in xs ys

abbrev pub held_by : Arrays → Drawing
held_by a =
    record {
      next = a.next;
      count = a.count;
      cells = cells_by (shape_at a) a.ids;
      cycles = a.cycles;
      steps = a.steps;
      bends = positions_in a.bx a.by;
    }

-- the rows as the index of that drawing
abbrev pub rows_by : Arrays → Index
rows_by a =
    record { ids = a.ids; kinds = a.kinds; starts = a.starts; ends = a.ends; bends = a.bends; cycles = a.counts }

-- ---- the normal form
-- a row of the kind k has 0 in each number that its kind does not use: start, end, bends, cycles
abbrev pub row_normal : ℕ → ℕ → ℕ → ℕ → ℕ → Bool
row_normal k s e b c =
    cond (eqb k 1) (eqb c 0)
    (eqb s 0 && (eqb e 0 && cond (eqb k 2) (eqb c 0) (eqb b 0 && cond (eqb k 3) true (eqb k 0 && eqb c 0))))

abbrev pub normal_at : List ℕ → List ℕ → List ℕ → List ℕ → List ℕ → ℕ → Bool
normal_at ks ss es bs cs i = row_normal (get_or ks i 0) (get_or ss i 0) (get_or es i 0) (get_or bs i 0) (get_or cs i 0)

abbrev pub normal : Arrays → Bool
normal a = all_from (normal_at a.kinds a.starts a.ends a.bends a.counts) 0 a.count

-- question 1 of arrays
abbrev pub sound_arrays : Arrays → Bool
sound_arrays a = normal a && sound_drawing (held_by a)

-- ---- the sums: how many cells there are, and how many cycles, steps and bends are in use
abbrev pub totals_by : ℕ → List ℕ → List ℕ → List ℕ → Totals
totals_by n bends counts cycles =
    record {
      cells = n;
      cycles = total (places_of 0) (take n counts);
      steps = total (places_of 1) (take (total (places_of 0) (take n counts)) cycles);
      bends = total (places_of 0) (take n bends);
    }

abbrev pub totals_of : Arrays → Totals
totals_of a = totals_by a.count a.bends a.counts a.cycles

-- ---- the lengths of lent arrays
pub record Lengths (a : Arrays) : Type 0 where
  pub ids : length a.ids ≡ cells_most
  pub kinds : length a.kinds ≡ cells_most
  pub starts : length a.starts ≡ cells_most
  pub ends : length a.ends ≡ cells_most
  pub bends : length a.bends ≡ cells_most
  pub counts : length a.counts ≡ cells_most
  pub px : length a.px ≡ cells_most
  pub py : length a.py ≡ cells_most
  pub cycles : length a.cycles ≡ cycles_most
  pub steps : length a.steps ≡ steps_most
  pub bx : length a.bx ≡ bends_most
  pub by : length a.by ≡ bends_most
