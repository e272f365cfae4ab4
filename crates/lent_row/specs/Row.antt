-- The rules of one row of lent arrays, but for the places of its bends. Definitions only.
use Rattle.std.specs.Prelude.{Option, Some, None}
use Rattle.std.specs.Prelude.{ℕ, ◌+◌, ◌≤◌, ◌≡◌, Bool, ◌&&◌, List, [], leb, Float, take, get_or}
use Rattle.number.specs.Said.{Said, done, no}
use Rattle.complex.specs.Lists.{total}
use Rattle.complex.specs.Sound.{cells_most, cycles_most, steps_most, bends_most}
use Rattle.complex.specs.Visits.{id_right}
use Rattle.store.specs.Edits.{places_of}
use Rattle.sound.specs.Rows.{Rows, rows_of}
use Rattle.answer.specs.declared.Totals.{Totals}
use Rattle.lent.specs.Arrays.{Arrays, Lengths, of_lists, position_in, normal_at, totals_by}
use Rattle.lent_cycles.specs.Ring.{cycles_right}
use Rattle.lent_figure.specs.Figure.{figure_right}

-- ---- the rules
-- the places that the counts of the first i rows stand for
abbrev pub places_upto : List ℕ → ℕ → ℕ
places_upto l i = total (places_of 0) (take i l)

abbrev pub rows_in : Arrays → Rows
rows_in a = rows_of a.count a.ids a.kinds a.starts a.ends

-- the row i is right: its id, its normal form, its own rules, the totals so far, its cycles
abbrev pub row_right : Arrays → ℕ → Bool
row_right a i =
    id_right a.next a.ids i
    && (normal_at a.kinds a.starts a.ends a.bends a.counts i
    && (figure_right (rows_in a) (take a.count a.bends) i (position_in a.px a.py i)
    && (leb (places_upto a.bends (i + 1)) bends_most
    && (leb (places_upto a.counts (i + 1)) cycles_most
    && cycles_right (rows_in a) a.cycles a.steps (places_upto a.counts i) (get_or a.counts i 0)))))

-- ---- the arrays without the bends' places
-- a with no place of a bend
abbrev pub bare_of : Arrays → Arrays
bare_of a =
    of_lists a.next a.count a.ids a.kinds a.starts a.ends a.bends a.counts a.px a.py a.cycles a.steps [] []

-- arrays of lists, with no place of a bend
abbrev pub bare : ℕ → ℕ → List ℕ → List ℕ → List ℕ → List ℕ → List ℕ → List ℕ → List Float → List Float → List ℕ → List ℕ → Arrays
bare next n is ks ss es bs cs px py cy st = of_lists next n is ks ss es bs cs px py cy st [] []

-- with some places of bends these arrays have their lengths
pub record RowLengths (a : Arrays) : Type 0 where
  pub xs : List Float
  pub ys : List Float
  pub long : Lengths (of_lists a.next a.count a.ids a.kinds a.starts a.ends a.bends a.counts
      a.px a.py a.cycles a.steps xs ys)

-- ---- what is said of a row
-- 0 with the sums, or 1
abbrev pub row_says : Option Totals → Said Totals
row_says (Some t) = done t
row_says None = no 1

-- the sums of the first i rows
abbrev pub totals_upto : Arrays → ℕ → Totals
totals_upto a i = totals_by i a.bends a.counts a.cycles

-- t are the sums of the first i rows, and keep the ceilings
pub record Upto (a : Arrays) (i : ℕ) (t : Totals) : Type 0 where
  pub few : a.count ≤ cells_most
  pub sized : RowLengths a
  pub sums : t ≡ totals_upto a i
  pub bends : t.bends ≤ bends_most
  pub cycles : t.cycles ≤ cycles_most
  pub steps : t.steps ≤ steps_most
