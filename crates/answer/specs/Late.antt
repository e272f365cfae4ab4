-- Questions 7 and 8, of sizes that are known before anything is built. Definitions only.
use Rattle.std.specs.Prelude.{ℕ, ◌+◌, ◌≤◌, ◌<◌, ◌≡◌, cond, List, leb, length, take}
use Rattle.complex.specs.Lists.{total}
use Rattle.complex.specs.Sound.{ids_end, cycles_most, steps_most, bends_most}
use Rattle.answer.specs.Sizes.{SheetSizes, sized, sizes_fit}
use Rattle.store.specs.Edits.{places_of}
use Rattle.answer.specs.declared.Totals.{Totals}

abbrev pub sizes_by : Totals → SheetSizes
sizes_by t = sized t.cells t.cycles t.steps t.bends

-- the number of the first no to 7 and 8, or 0
abbrev pub late_no : ℕ → ℕ → SheetSizes → ℕ
late_no next new z = cond (leb (next + new) ids_end) (cond (sizes_fit z) 0 8) 7

-- sizes that can be added without overflow
pub record Small (t : Totals) : Type 0 where
  pub cells : t.cells ≤ 4294967296
  pub cycles : t.cycles ≤ 4294967296
  pub steps : t.steps ≤ 4294967296
  pub bends : t.bends ≤ 4294967296

-- the rows of a drawing that fits
pub record Summed (bends counts : List ℕ) (n : ℕ) (cycles : List ℕ) : Type 0 where
  pub bend_rows : n ≤ length bends
  pub cycle_rows : n ≤ length counts
  pub bend_sum : total (places_of 0) (take n bends) ≤ bends_most
  pub cycle_sum : total (places_of 0) (take n counts) ≤ cycles_most
  pub cycle_room : length cycles ≡ 512
  pub step_sum : total (places_of 1) (take (total (places_of 0) (take n counts)) cycles) ≤ steps_most
