-- A drawing that fits is as sound as its sheet. Assumes nothing.
use mathlib.Core.Path.{◌≡◌, ap}
use mathlib.Core.Bool.{Bool, true, ◌&&◌}
use borrow.Author.Tests.{le-leb}
use Rattle.complex.specs.Sound.{sound, cells_most, cycles_most, steps_most, bends_most}
use Rattle.store.specs.declared.Drawing.{Drawing}
use Rattle.store.specs.View.{sheet_of, Fits, cycle_total, bend_total, step_total}
use Rattle.sound.specs.Soundness.{fits_in, sound_sheet, sound_drawing}

fits_in_lem : (d : Drawing) → Fits d → fits_in d ≡ true
fits_in_lem d f =
    simp (
      le-leb d.count cells_most f.cells,
      le-leb (bend_total d) bends_most f.bends,
      le-leb (cycle_total d) cycles_most f.cycles,
      le-leb (step_total
          d) steps_most f.steps,
    )

pub fitting_sound : (d : Drawing) → Fits d → sound_drawing d ≡ sound (sheet_of d)
fitting_sound d f = ap (λ (b : Bool). b && sound_sheet d) (fits_in_lem d f)
