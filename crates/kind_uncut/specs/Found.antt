-- The case of 0E that is found in the arrays at a cell. Definitions only.
use Rattle.std.specs.Prelude.{ℕ, ◌≤◌, ◌≡◌, true, false, cond, List, eqb, take, Result}
use Rattle.number.specs.Said.{Said, no}
use Rattle.complex.specs.Lists.{total}
use Rattle.complex.specs.Uncut.{Uncut}
use Rattle.complex.specs.Uses.{lone_use}
use Rattle.store.specs.Index.{value_at}
use Rattle.store.specs.View.{cycles_from, width_sum}
use Rattle.sound.specs.Rows.{rows_of}
use Rattle.answer.specs.declared.Question.{Question}
use Rattle.ask_uncut_turns.specs.Turns.{Rowed, turns_in}
use Rattle.ask_uncut_uses.specs.Uses.{Faces, row_uses, uses_two}
use Rattle.ask_uncut_ends.specs.Ends.{ends_in, two_ends}
use Rattle.ask_uncut_ends.specs.Cases.{ends_case}
use Rattle.ask_uncut.specs.declared.Case.{Case}
use Rattle.ask_uncut.specs.Cases.{open_case, closed_case}
use Rattle.ask_uncut.specs.Decided.{case_says}

-- what is asked of the arrays: n rows, their cycles of which m are in use, and the steps
pub record AsksIn (n : ℕ) (is ks ss es cs ns : List ℕ) (m : ℕ) (st : List ℕ) : Type 0 where
  pub rows : Rowed n is ks ss es
  pub faces : Faces n is cs ns st
  pub few : m ≤ 512
  pub widths : width_sum (take m ns) ≤ 2048

-- what is said at a cell of this kind: of a vertex, of an open or a closed edge, or 4
abbrev pub by_kind : ℕ → Said Uncut → Said Uncut → Said Uncut → Said Uncut
by_kind k v o c = cond (eqb k 0) v (cond (eqb k 1) o (cond (eqb k 2) c (no 4)))

-- what is found at the cell i: a vertex by its ends, or an edge by its uses
abbrev pub CaseFound : (n : ℕ) (is ks ss es cs ns : List ℕ) (m : ℕ) (st : List ℕ) (i : ℕ) → Result Case Question → Type 0
CaseFound n is ks ss es cs ns m st i r =
    case_says i r
    ≡ by_kind (value_at 4 (take n is) (take n ks) i)
    (ends_case (turns_in (rows_of n is ks ss es) true i (cycles_from (take m ns) st))
    (turns_in (rows_of n is ks ss es) false i (cycles_from (take m ns) st))
    (total (lone_use i) (cycles_from (take m ns) st)) (two_ends (ends_in i (take n is) (take n ks) (take n ss) (take n es))))
    (open_case (uses_two (row_uses i (take n is) (take n cs) (cycles_from ns st))) i)
    (closed_case (uses_two (row_uses i (take n is) (take n cs) (cycles_from ns st))) i)
