-- 05 move and 06 delete. Definitions only.
use Rattle.std.specs.Prelude.{ℕ, Bool, not, ◌||◌, List, [], length, eqb}
use Rattle.coordinate.specs.declared.Position.{Position}
use Rattle.complex.specs.Cells.{Figure, vertex, LiveCell, Sheet, cell_at}
use Rattle.complex.specs.Boundary.{rests}
use Rattle.complex.specs.Edits.{keep_ids, rebuild, every_id, as_it_is, replaced}

-- ---- 05
unfoldable pub moved : Sheet → ℕ → Position → Sheet
moved s v p = rebuild every_id (replaced v (vertex p)) [] s

-- ---- 06: the cell i goes with every cell whose boundary holds it, one step after another
-- whether j goes. A chain of cells, each in the next one's boundary, has no more boundaries than there are cells
abbrev pub goes : Sheet → ℕ → ℕ → Bool
goes s i j = eqb i j || rests (cell_at s) (length s.cells) i j

-- the cells that go
abbrev pub going : Sheet → ℕ → List LiveCell
going s i = keep_ids (goes s i) s.cells

unfoldable pub deleted : Sheet → ℕ → Sheet
deleted s i = rebuild (λ (j : ℕ). not (goes s i j)) as_it_is [] s
