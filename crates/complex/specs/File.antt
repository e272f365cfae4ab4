-- A drawing's file. Definitions only.
use Rattle.std.specs.Prelude.{ℕ, zero, suc, Bool, ◌&&◌, cond, List, [], ◌∷◌, ◌++◌, get_or}
use Rattle.number.specs.Readers.{Read, got, bad, and_then}
use Rattle.number.specs.Numbers.{read_number, spell, counted, counted_bytes}
use Rattle.coordinate.specs.Positions.{coordinate_in, coordinate_bytes, position_bytes}
use Rattle.bends.specs.Bends.{bend_bytes}
use Rattle.complex.specs.Lists.{is_empty}
use Rattle.complex.specs.Cells.{Figure, vertex, open_edge, closed_edge, face, LiveCell, Sheet, empty}
use Rattle.complex.specs.Sound.{sound}
use Rattle.complex.specs.Decode.{read_vertex, read_open_edge, read_closed_edge, read_face, cycle_bytes}

-- 0 vertex, 1 open, 2 closed or 3 face, and the fields of kinds 01 to 04
abbrev pub figure_bytes : Figure → List ℕ
figure_bytes (vertex p) = spell 0 ++ position_bytes p
figure_bytes (open_edge a b bs) = spell 1 ++ (spell a ++ (spell b ++ bend_bytes bs))
figure_bytes (closed_edge bs) = spell 2 ++ bend_bytes bs
figure_bytes (face ks) = spell 3 ++ counted_bytes cycle_bytes ks

abbrev pub cell_bytes : LiveCell → List ℕ
cell_bytes c = spell c.id ++ figure_bytes c.figure

-- next id, cell count, then the cells
unfoldable pub file_of : Sheet → List ℕ
unfolding coordinate_bytes
file_of s = spell s.next ++ counted_bytes cell_bytes s.cells

-- ---- reading
abbrev pub no_figure : List ℕ → Read Figure
no_figure s = bad

abbrev pub figure_readers : List (List ℕ → Read Figure)
figure_readers = read_vertex ∷ read_open_edge ∷ read_closed_edge ∷ read_face ∷ []

abbrev pub read_cell : List ℕ → Read LiveCell
read_cell s =
    and_then (read_number s) λ i t. and_then (read_number t) λ k u.
    and_then (get_or figure_readers k no_figure u) λ x v. got (record { id = i; figure = x }) v

abbrev pub read_sheet : List ℕ → Read Sheet
read_sheet s = and_then (read_number s) λ n t. and_then (counted read_cell t) λ cs u. got (record { next = n; cells = cs }) u

pub record ReadAnswer : Type 0 where
  pub number : ℕ
  pub sheet : Sheet

-- 10: are the bytes, all of them, a sound drawing's file? On a no the empty drawing
abbrev pub judged : Read Sheet → ReadAnswer
judged bad = record { number = 10; sheet = empty }
judged (got s t) = cond (is_empty t && sound s) (record { number = 0; sheet = s }) (record { number = 10; sheet = empty })

unfoldable pub read_file : List ℕ → ReadAnswer
unfolding sound coordinate_in
read_file bytes = judged (read_sheet bytes)
