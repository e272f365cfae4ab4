-- A small table of ids: for each remainder of an id a row to look in first. Definitions only.
use Rattle.std.specs.Prelude.{ℕ, ◌%◌, ◌<◌, ◌≤◌, ◌≡◌, List, length, take, get_or}
use Rattle.complex.specs.Sound.{cells_most}
use Rattle.store.specs.Index.{row_of}

abbrev pub table_places : ℕ
table_places = 1024

-- the row that the table ts has for the id x
abbrev pub row_hinted : List ℕ → ℕ → ℕ
row_hinted ts x = get_or ts (x % table_places) 0

-- of n ids: a row that has the id it is hinted for is the first that has it
pub record Table (n : ℕ) (ts is : List ℕ) : Type 0 where
  pub few : n ≤ cells_most
  pub places : length ts ≡ table_places
  pub ids : length is ≡ cells_most
  pub first : (x : ℕ) → row_hinted ts x < n → get_or is (row_hinted ts x) 0 ≡ x → row_hinted ts x ≡ row_of x (take n is)
