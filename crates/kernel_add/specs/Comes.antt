-- What a command that creates one cell answers, and bends that stand in lent arrays from a place on. Definitions only.
use Rattle.std.specs.Prelude.{ℕ, ◌≡◌, List, Float, length}
use Rattle.std.proofs.Math.Seq.{paste}
use Rattle.coordinate.specs.declared.Position.{Position}
use Rattle.lent.specs.Arrays.{positions_in}
use Rattle.lent.specs.declared.Change.{Change}
use Rattle.lent.specs.declared.Line.{Line}

-- the line of a command that issues one id and removes nothing
abbrev pub one_new : ℕ → Line
one_new id = record { number = 0; first = id; new = 1; removed = 0 }

-- one id is issued and none removed
abbrev pub issued : ℕ → Change
issued id = record { first = id; new = 1; removed = 0 }

-- the first n of bs stand in xs and ys from `at` on; all else is as it was in xs₀ and ys₀
pub record BendsPut (xs₀ ys₀ : List Float) (at : ℕ) (bs : List Position) (n : ℕ) (xs ys : List Float) : Type 0 where
  pub across : length xs ≡ length xs₀
  pub up : length ys ≡ length ys₀
  pub positions : positions_in xs ys ≡ paste (positions_in xs₀ ys₀) at bs n
