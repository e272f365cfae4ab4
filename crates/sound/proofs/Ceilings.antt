-- A drawing that fits keeps the ceilings. Assumes nothing.
use mathlib.Core.Path.{◌≡◌, ◌∙◌}
use mathlib.Core.Bool.{true}
use native.Mathlib.Omega.{arith}
use lib.ListN.{length}
use borrow.Author.Tests.{le-leb}
use Rattle.complex.specs.Sound.{ceilings, over, cells_most, cycles_most, steps_most, bends_most}
use Rattle.complex.specs.Sound as sounds
use Rattle.store.specs.declared.Drawing.{Drawing}
use Rattle.store.specs.Sizes.{Sizes}
use Rattle.store.specs.View.{sheet_of, Fits}
use Rattle.store.proofs.Ceilings.{over_cycles, over_steps, over_bends}
use Rattle.store.proofs.Stands.{stands, bend_total_lem, cycle_total_lem, step_total_lem, count_is}
use Rattle.sound.proofs.Testing.{and_true}

pub in_ceilings : (d : Drawing) → Sizes d → Fits d → ceilings (sheet_of d).cells ≡ true
in_ceilings d z f =
    let xs = (sheet_of d).cells in
    let s = stands d z f in
    and_true _ (le-leb (length xs) cells_most (omega (arith, count_is d xs s z f.cells, f.cells)))
    ∙ and_true _ (le-leb (over sounds.cycles_in xs) cycles_most (omega (arith, over_cycles xs, cycle_total_lem d xs s, f.cycles)))
    ∙ and_true _ (le-leb (over sounds.steps_in xs) steps_most (omega (arith, over_steps xs, step_total_lem d xs s, f.steps)))
    ∙ le-leb (over sounds.bends_in xs) bends_most (omega (arith, over_bends xs, bend_total_lem d xs s, f.bends))
