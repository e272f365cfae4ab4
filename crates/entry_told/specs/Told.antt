-- What a run over a script tells: five numbers of each command, how many there were, and the drawing after them. Definitions only.
use Rattle.std.specs.Prelude.{ℕ, zero, suc, ◌≤◌, ◌<◌, ◌≡◌, true, false, cond, List, [], ◌∷◌, ◌++◌, eqb, length, drop}
use Rattle.complex.specs.Lists.{is_empty}
use Rattle.complex.specs.Cells.{Sheet}
use Rattle.complex.specs.Answer.{Answer, command, rest}

-- what a run tells: the numbers of its commands, how many commands there were, and the drawing after them
pub record Told : Type 0 where
  pub numbers : List ℕ
  pub commands : ℕ
  pub sheet : Sheet

-- how many numbers of a command are told: number, first, new, removed, and the length of the rest
abbrev pub line_width : ℕ
line_width = 5

abbrev pub line_numbers : Answer → ℕ → List ℕ
line_numbers a left = a.number ∷ a.first ∷ a.new ∷ a.removed ∷ left ∷ []

abbrev pub tell : List ℕ → Told → Told
tell ns t = record { numbers = ns ++ t.numbers; commands = suc t.commands; sheet = t.sheet }

abbrev pub told_none : Sheet → Told
told_none s = record { numbers = []; commands = 0; sheet = s }

-- at most n commands, until no byte is left or one is not read
abbrev pub told : ℕ → Sheet → List ℕ → Told
told zero s bytes = told_none s
told (suc n) s bytes =
    elim (is_empty bytes) [
      | true ↦ told_none s
      | false ↦ let a = command s bytes in tell (line_numbers a (length (rest s bytes))) (elim (eqb a.number 2) [
        | true ↦ told_none a.sheet
        | false ↦ told n a.sheet (rest s bytes)
      ])
    ]

-- a command that is read takes a byte at least
unfoldable pub told_of : Sheet → List ℕ → Told
unfolding command rest
told_of s script = told (length script) s script

-- the first length that no u32 holds
abbrev pub lengths_end : ℕ
lengths_end = 4294967296

-- xs stand in the first places of l
abbrev pub front : List ℕ → List ℕ → List ℕ
front xs l = xs ++ drop (length xs) l

-- ---- a turn
-- the bytes that a run goes on with: the rest, none after a command that is not read
abbrev pub onward : Sheet → List ℕ → List ℕ
onward s b = cond (eqb (command s b).number 2) [] (rest s b)

-- the command at `at` of a script on the drawing s is told with the numbers ns; it leaves the drawing t, and the run goes on at r
pub record Turned (s : Sheet) (bytes : List ℕ) (at : ℕ) (ns : List ℕ) (t : Sheet) (r : ℕ) : Type 0 where
  pub numbers : ns ≡ line_numbers (command s (drop at bytes)) (length (rest s (drop at bytes)))
  pub sheet : t ≡ (command s (drop at bytes)).sheet
  pub goes : drop r bytes ≡ onward s (drop at bytes)
  pub ahead : at < r
  pub within : r ≤ length bytes
