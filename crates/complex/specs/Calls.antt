-- The calls beside commands: star, Euler and write. Definitions only.
use Rattle.std.specs.Prelude.{ℕ, Bool, cond, List, [], ◌∷◌, ◌++◌, length, drop, ℤ, pos, leb}
use Rattle.complex.specs.Cells.{Sheet, cell_at, is_live}
use Rattle.complex.specs.Sound.{sound}
use Rattle.complex.specs.Boundary.{star}
use Rattle.complex.specs.Euler.{euler}
use Rattle.complex.specs.File.{file_of}

-- ---- a call with a lent buffer: its number, the count of places needed, and the buffer as it is left
pub record Filled : Type 0 where
  pub number : ℕ
  pub count : ℕ
  pub buffer : List ℕ

-- a refusal writes nothing and counts nothing
abbrev pub unfilled : ℕ → List ℕ → Filled
unfilled n buffer = record { number = n; count = 0; buffer = buffer }

-- 9: is the lent buffer long enough? Then xs stands in its first places
abbrev pub filled : List ℕ → List ℕ → Filled
filled xs buffer =
    cond (leb (length xs) (length buffer))
    (record { number = 0; count = length xs; buffer = xs ++ drop (length xs) buffer })
    (record { number = 9; count = length xs; buffer = buffer })

-- star asks 1, 4, 9
unfoldable pub star_call : Sheet → ℕ → List ℕ → Filled
unfolding sound
star_call s i buffer =
    cond (sound s) (cond (is_live (cell_at s i)) (filled (star s.cells i) buffer) (unfilled 4 buffer)) (unfilled 1 buffer)

-- write asks 1, 9
unfoldable pub write_call : Sheet → List ℕ → Filled
unfolding sound file_of
write_call s buffer = cond (sound s) (filled (file_of s) buffer) (unfilled 1 buffer)

-- ---- Euler asks 1 and gives 0 with it
pub record EulerAnswer : Type 0 where
  pub number : ℕ
  pub value : ℤ

unfoldable pub euler_call : Sheet → EulerAnswer
unfolding sound
euler_call s = cond (sound s) (record { number = 0; value = euler s.cells }) (record { number = 1; value = pos 0 })
