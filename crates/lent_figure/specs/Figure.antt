-- The rules of one row of lent arrays that its own numbers decide. Definitions only.
use Rattle.std.specs.Prelude.{ℕ, ◌≡◌, Bool, true, ◌&&◌, cond, List, eqb, take, get_or}
use Rattle.coordinate.specs.declared.Position.{Position}
use Rattle.coordinate.specs.Bounds.{within}
use Rattle.sound.specs.Rows.{Rows, row_good}

-- a vertex lies in bounds, an open edge's ends are vertices, a closed edge has a bend
abbrev pub figure_right : Rows → List ℕ → ℕ → Position → Bool
figure_right t bs i p = row_good t bs i && cond (eqb (get_or t.kinds i 0) 0) (within p) true

-- the same of the cell in row i of n, which has b bends, as a number says
abbrev pub FigureRight : Rows → ℕ → ℕ → ℕ → Position → Bool → Type 0
FigureRight t n i b p r = (bs : List ℕ) → get_or bs i 0 ≡ b → r ≡ figure_right t (take n bs) i p
