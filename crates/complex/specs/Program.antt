-- The program `edit`: what it prints for the bytes of its standard input. Definitions only.
use Rattle.std.specs.Prelude.{ℕ, zero, suc, ◌+◌, ◌/◌, ◌%◌, Bool, true, false, cond, List, [], ◌∷◌, ◌++◌, length, ℤ, pos, negsuc, eqb, ltb, leb}
use Rattle.number.specs.Readers.{spread}
use Rattle.complex.specs.Lists.{is_empty}
use Rattle.complex.specs.Cells.{Sheet, empty}
use Rattle.complex.specs.Euler.{euler}
use Rattle.complex.specs.Answer.{Answer, command, rest}

pub record Line : Type 0 where
  pub number : ℕ
  pub first : ℕ
  pub new : ℕ
  pub removed : ℕ

-- the answers of a script's commands, and the drawing after them
pub record Run : Type 0 where
  pub lines : List Line
  pub sheet : Sheet

abbrev pub line : Answer → Line
line a = record { number = a.number; first = a.first; new = a.new; removed = a.removed }

abbrev pub put_line : Line → Run → Run
put_line l r = record { lines = l ∷ r.lines; sheet = r.sheet }

abbrev pub ended : Sheet → Run
ended s = record { lines = []; sheet = s }

-- at most n commands, until no byte is left or a line with 2 is printed
abbrev pub ran : ℕ → Sheet → List ℕ → Run
ran zero s bytes = ended s
ran (suc n) s bytes =
    elim (is_empty bytes) [
      | true ↦ ended s
      | false ↦ let a = command s bytes in elim (eqb a.number 2) [
        | true ↦ put_line (line a) (ended a.sheet)
        | false ↦ put_line (line a) (ran n a.sheet (rest s bytes))
      ]
    ]

-- from the empty drawing; a command that is read takes a byte at least
unfoldable pub run : List ℕ → Run
unfolding command rest
run bytes = ran (length bytes) empty bytes

-- the bytes that each of those commands was handed
abbrev pub handed : ℕ → Sheet → List ℕ → List (List ℕ)
handed zero s bytes = []
handed (suc n) s bytes =
    elim (is_empty bytes) [
      | true ↦ []
      | false ↦ bytes ∷ elim (eqb (command s bytes).number 2) [
        | true ↦ []
        | false ↦ handed n (command s bytes).sheet (rest s bytes)
      ]
    ]

unfoldable pub commands_of : List ℕ → List (List ℕ)
unfolding command rest
commands_of bytes = handed (length bytes) empty bytes

-- ---- what is printed: above 65,536 bytes only `too long`; else a line per command, then the Euler number and the live cells
abbrev pub script_most : ℕ
script_most = 65536

pub data Output : Type 0 where
  too_long : Output
  printed : List Line → ℤ → ℕ → Output

abbrev pub printed_run : Run → Output
printed_run r = printed r.lines (euler r.sheet.cells) (length r.sheet.cells)

unfoldable pub edit_output : List ℕ → Output
unfolding run
edit_output bytes =
    elim (leb (length bytes) script_most) [
      | false ↦ too_long
      | true ↦ printed_run (run bytes)
    ]

-- ---- as text, in ASCII
-- the last k decimal digits of n, without noughts in front
abbrev pub digits : ℕ → ℕ → List ℕ
digits zero n = []
digits (suc k) n =
    elim (ltb n 10) [
      | true ↦ (48 + n) ∷ []
      | false ↦ digits k (n / 10) ++ ((48 + n % 10) ∷ [])
    ]

abbrev pub decimal : ℕ → List ℕ
decimal n = digits (suc n) n

-- a hyphen before a negative number
abbrev pub signed : ℤ → List ℕ
signed (pos n) = decimal n
signed (negsuc n) = 45 ∷ decimal (suc n)

abbrev pub space : List ℕ
space = 32 ∷ []

abbrev pub newline : List ℕ
newline = 10 ∷ []

abbrev pub line_text : Line → List ℕ
line_text l = decimal l.number ++ space ++ decimal l.first ++ space ++ decimal l.new ++ space ++ decimal l.removed ++ newline

-- e u l e r
abbrev pub euler_word : List ℕ
euler_word = 101 ∷ 117 ∷ 108 ∷ 101 ∷ 114 ∷ []

-- c e l l s
abbrev pub cells_word : List ℕ
cells_word = 99 ∷ 101 ∷ 108 ∷ 108 ∷ 115 ∷ []

-- t o o   l o n g
abbrev pub too_long_text : List ℕ
too_long_text = 116 ∷ 111 ∷ 111 ∷ 32 ∷ 108 ∷ 111 ∷ 110 ∷ 103 ∷ []

abbrev pub output_text : Output → List ℕ
output_text too_long = too_long_text ++ newline
output_text (printed ls z n) = spread line_text ls ++ euler_word ++ space ++ signed z ++ space ++ cells_word ++ space ++ decimal n ++ newline
