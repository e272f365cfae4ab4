-- How many bytes cells take. Definitions only.
use Rattle.std.specs.Prelude.{ℕ, ◌+◌, ◌≤◌, ◌≡◌, Bool, true, ◌&&◌, List, T, length, take}
use Rattle.number.specs.Readers.{all}
use Rattle.number.specs.Numbers.{spell}
use Rattle.store.specs.declared.Shape.{Shape}
use Rattle.store.specs.declared.Shape.TheVariants.{Vertex, Open, Closed, Face}
use Rattle.store.specs.declared.Cell.{Cell}
use Rattle.store.specs.View.{cycle_sum, bend_sum}
use Rattle.file_parts.specs.Parts.{spells}

-- ---- lengths
abbrev pub spell_width : ℕ → ℕ
spell_width n = length (spell n)

-- what a cell takes besides its bends and cycles
abbrev pub shape_width : Shape → ℕ
shape_width (Vertex p) = 16
shape_width (Open s e n) = spell_width s + (spell_width e + spell_width n)
shape_width (Closed n) = spell_width n
shape_width (Face k) = spell_width k

abbrev pub head_width : Cell → ℕ
head_width c = spell_width c.id + (1 + shape_width c.shape)

abbrev pub shape_spells : Shape → Bool
shape_spells (Vertex p) = true
shape_spells (Open s e n) = spells s && (spells e && spells n)
shape_spells (Closed n) = spells n
shape_spells (Face k) = spells k

abbrev pub head_spells : Cell → Bool
head_spells c = spells c.id && shape_spells c.shape

-- the sums over n cells that keep within the arrays
pub record Heads (cs : List Cell) (n : ℕ) : Type 0 where
  pub few : n ≤ 256
  pub cells : length cs ≡ 256
  pub bends : bend_sum (take n cs) ≤ 2048
  pub cycles : cycle_sum (take n cs) ≤ 512
  pub spelled : T (all head_spells (take n cs))
