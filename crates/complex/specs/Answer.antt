-- A command: the questions in turn, the answer, and the rest of the bytes. Definitions only.
use Rattle.std.specs.Prelude.{ℕ, zero, suc, ◌-◌, Bool, not, cond, List, [], ◌∷◌, ◌++◌, length, eqb, leb}
use Rattle.number.specs.Readers.{Read, got, bad}
use Rattle.complex.specs.Lists.{filter}
use Rattle.complex.specs.Cells.{LiveCell, Sheet, cell_at, is_live}
use Rattle.complex.specs.Sound.{ids_end, ceilings, sound}
use Rattle.complex.specs.Decode.{Command, Order, edit, renumber, decode}
use Rattle.complex.specs.Commands.{question3, question4, question5, question6, result}
use Rattle.complex.specs.Renumber.{renumbered}

pub record Answer : Type 0 where
  pub number : ℕ
  pub first : ℕ
  pub new : ℕ
  pub removed : ℕ
  pub sheet : Sheet

-- a no: its number, three zeros, and the drawing as it was handed
abbrev pub no : ℕ → Sheet → Answer
no n s = record { number = n; first = 0; new = 0; removed = 0; sheet = s }

-- the cells live in s and not in t
abbrev pub removed_from : Sheet → Sheet → List LiveCell
removed_from s t = filter (λ (c : LiveCell). not (is_live (cell_at t c.id))) s.cells

-- the answer of a command that makes t of s
abbrev pub done : Sheet → Sheet → Answer
done s t =
    let n = t.next - s.next in
    record { number = 0; first = cond (eqb n 0) 0 s.next; new = n; removed = length (removed_from s t); sheet = t }

-- ---- the questions in turn
pub record Question : Type 0 where
  pub number : ℕ
  pub yes : Bool

abbrev pub ask : ℕ → Bool → Question
ask n y = record { number = n; yes = y }

-- the number of the first that gets a no, 0 where each gets a yes
abbrev pub first_no : List Question → ℕ
first_no [] = 0
first_no (q ∷ qs) = cond q.yes (first_no qs) q.number

-- those that the bytes alone answer
abbrev pub of_bytes : Command → List Question
of_bytes c = ask 3 (question3 c) ∷ []

abbrev pub of_drawing : Sheet → Command → List Question
of_drawing s c = ask 4 (question4 s c) ∷ ask 5 (question5 s c) ∷ ask 6 (question6 s c) ∷ []

-- 7: do the ids suffice (next id plus new cells at most 65,536)? 8: does the result keep the ceilings?
abbrev pub of_result : Sheet → List Question
of_result t = ask 7 (leb t.next ids_end) ∷ ask 8 (ceilings t.cells) ∷ []

abbrev pub questions : Sheet → Command → List Question
questions s c = of_bytes c ++ (of_drawing s c ++ of_result (result s c))

-- the command makes t of s; n is the first no
abbrev pub answered : Sheet → Sheet → ℕ → Answer
answered s t zero = done s t
answered s t (suc n) = no (suc n) s

-- questions 3 to 8
unfoldable pub asked3 : Sheet → Command → Answer
unfolding question3 question4 question5 question6 result
asked3 s c = answered s (result s c) (first_no (questions s c))

-- ---- 0F has no field, names no cell and asks nothing more; ids go and come, and it answers three zero counts
unfoldable pub renewed : Sheet → Answer
unfolding renumbered
renewed s = record { number = 0; first = 0; new = 0; removed = 0; sheet = renumbered s }

-- ---- an order of either sort
abbrev pub ordered : Sheet → Order → Answer
ordered s (edit c) = asked3 s c
ordered s renumber = renewed s

-- 2: do the bytes begin with a whole command, kind and every number well spelled?
abbrev pub asked2 : Sheet → Read Order → Answer
asked2 s (got o t) = ordered s o
asked2 s bad = no 2 s

-- 1: is the drawing sound?
unfoldable pub command : Sheet → List ℕ → Answer
unfolding sound decode asked3 renewed
command s bytes = cond (sound s) (asked2 s (decode bytes)) (no 1 s)

-- ---- the rest of the bytes: after the command, or all of them at 1 and 2
abbrev pub rest_read : List ℕ → Read Order → List ℕ
rest_read bytes (got o t) = t
rest_read bytes bad = bytes

unfoldable pub rest : Sheet → List ℕ → List ℕ
unfolding sound decode
rest s bytes = cond (sound s) (rest_read bytes (decode bytes)) bytes
