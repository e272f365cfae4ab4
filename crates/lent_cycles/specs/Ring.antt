-- The cycles of lent arrays, each with its steps after those of the cycles before it. Definitions only.
use Rattle.std.specs.Prelude.{Option, Some, None}
use Rattle.std.specs.Prelude.{ℕ, ◌+◌, ◌≡◌, Bool, ◌&&◌, cond, List, leb, length, take, drop, get_or}
use Rattle.number.specs.Said.{Said, done, no}
use Rattle.complex.specs.Lists.{total}
use Rattle.complex.specs.Sound.{cells_most, steps_most}
use Rattle.store.specs.Edits.{places_of}
use Rattle.sound.specs.Rows.{Rows, cycle_good, all_from}
use Rattle.lent_table.specs.Table.{Table}

-- the arrays of n rows, and their table of ids
pub record Looked (n : ℕ) (ts is ks ss es : List ℕ) : Type 0 where
  pub table : Table n ts is
  pub kinds : length ks ≡ cells_most
  pub starts : length ss ≡ cells_most
  pub ends : length es ≡ cells_most

-- the steps of the first i cycles
abbrev pub steps_upto : List ℕ → ℕ → ℕ
steps_upto ns i = total (places_of 1) (take i ns)

-- the cycle i is right
abbrev pub cycle_right : Rows → List ℕ → List ℕ → ℕ → Bool
cycle_right t ns st i = cycle_good t (get_or ns i 0) (drop (steps_upto ns i) st)

-- m cycles from the cycle k on: the steps up to the last keep the ceiling, and each is right
abbrev pub cycles_right : Rows → List ℕ → List ℕ → ℕ → ℕ → Bool
cycles_right t ns st k m = leb (steps_upto ns (k + m)) steps_most && all_from (cycle_right t ns st) k m

-- 0 with how many there are, or 1
abbrev pub steps_say : Option ℕ → Said ℕ
steps_say (Some s) = done s
steps_say None = no 1
