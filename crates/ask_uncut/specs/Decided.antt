-- The case of 0E that the code finds at a cell, in document 01's numbers. Definitions only.
use Rattle.std.specs.Prelude.{ℕ, cond, Result, Ok, Err}
use Rattle.number.specs.Said.{Said, no}
use Rattle.complex.specs.Cells.{Sheet, cell_at, is_vertex_or_edge}
use Rattle.complex.specs.Uncut.{Uncut, uncut_case}
use Rattle.law_uncut.specs.Said.{uncut_said}
use Rattle.answer.specs.declared.Question.{Question}
use Rattle.answer.specs.Questions.{number_of}
use Rattle.ask_uncut_ends.specs.Cases.{vertex_says}
use Rattle.ask_uncut.specs.Cases.{edge_says}
use Rattle.ask_uncut.specs.declared.Case.{Case}
use Rattle.ask_uncut.specs.declared.Case.TheVariants.{Vertex, Edge}

-- the cases of `Case` at the cell i: what is said of a vertex or of an edge, or the number of the question
abbrev pub case_says : ℕ → Result Case Question → Said Uncut
case_says i (Err q) = no (number_of q)
case_says i (Ok (Vertex c)) = vertex_says (Ok c)
case_says i (Ok (Edge k u w)) = edge_says i (Ok (k, u, w))

-- questions 4 and 6 of 0E at the cell i
abbrev pub uncut_asked : Sheet → ℕ → Said Uncut
uncut_asked s i = cond (is_vertex_or_edge (cell_at s i)) (uncut_said (uncut_case s i)) (no 4)
