-- A bend list as bytes: a count and its positions. Definitions only.
use Rattle.std.specs.Prelude.{Option, Some, None}
use Rattle.std.specs.Prelude.{ℕ, zero, suc, ◌+◌, ◌-◌, ◌*◌, List, [], ◌∷◌, length}
use Rattle.number.specs.Readers.{Read, got, bad}
use Rattle.number.specs.Said.{Said, done, no}
use Rattle.number.specs.Numbers.{counted, counted_bytes}
use Rattle.coordinate.specs.declared.Position.{Position}
use Rattle.coordinate.specs.Positions.{read_position, position_bytes, position_at}

abbrev pub read_bends : List ℕ → Read (List Position)
read_bends s = counted read_position s

abbrev pub bend_bytes : List Position → List ℕ
bend_bytes bs = counted_bytes position_bytes bs

-- 0 with the count, the place of the first bend and the place after the last, or 2
abbrev pub bend_list_says : Option (ℕ × ℕ × ℕ) → Said (ℕ × ℕ × ℕ)
bend_list_says (Some (n, first, end)) = done (n, first, end)
bend_list_says None = no 2

-- how many bends were read and where, in bytes that end at `end`; or 2
abbrev pub listed : ℕ → Read (List Position) → Said (ℕ × ℕ × ℕ)
listed end (got bs t) = done (length bs, end - length t - 16 * length bs, end - length t)
listed end bad = no 2

-- question 2 of the bend list that bytes begin with
abbrev pub bend_list_in : List ℕ → Said (ℕ × ℕ × ℕ)
bend_list_in s = listed (length s) (read_bends s)

-- n positions, one after another from a place on
abbrev pub positions_at : List ℕ → ℕ → ℕ → List Position
positions_at s at zero = []
positions_at s at (suc n) = position_at s at ∷ positions_at s (at + 16) n
