-- When a drawing in memory is sound: its counts keep within its arrays, and its sheet is sound. Definitions only.
use Rattle.std.specs.Prelude.{ℕ, Bool, true, ◌&&◌, leb, take}
use Rattle.complex.specs.Sound.{sound, cells_most, cycles_most, steps_most, bends_most}
use Rattle.coordinate.specs.Bounds.{within}
use Rattle.store.specs.declared.Drawing.{Drawing}
use Rattle.store.specs.declared.Shape.{Shape}
use Rattle.store.specs.declared.Shape.TheVariants.{Vertex, Open, Closed, Face}
use Rattle.store.specs.View.{sheet_of, cycle_sum, bend_sum, width_sum}

-- sums of bends, cycles and steps that keep within the arrays
abbrev pub sums_fit : ℕ → ℕ → ℕ → Bool
sums_fit b k s = leb b bends_most && (leb k cycles_most && leb s steps_most)

-- the counts of the first n cells of d keep within its arrays
abbrev pub fits_upto : Drawing → ℕ → Bool
fits_upto d n =
    sums_fit (bend_sum (take n d.cells)) (cycle_sum (take n d.cells)) (width_sum (take (cycle_sum (take n d.cells)) d.cycles))

abbrev pub fits_in : Drawing → Bool
fits_in d = leb d.count cells_most && fits_upto d d.count

abbrev pub sound_sheet : Drawing → Bool
sound_sheet d = sound (sheet_of d)

abbrev pub sound_drawing : Drawing → Bool
sound_drawing d = fits_in d && sound_sheet d

-- ---- positions
-- a vertex lies in bounds
abbrev pub placed : Shape → Bool
placed (Vertex p) = within p
placed (Open s e n) = true
placed (Closed n) = true
placed (Face k) = true
