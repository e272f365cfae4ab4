-- The cycles of a drawing in its arrays. Assumes nothing.
use mathlib.Core.Path.{◌≡◌, refl, ap, ap₂, ◌∙◌}
use mathlib.Core.List.{List, [], ◌∷◌, ◌++◌}
use mathlib.Core.Option.{some}
use lib.ListN.{take}
use Rattle.number.specs.Readers.{spread}
use Rattle.complex.specs.Lists.{total}
use Rattle.complex.specs.Cells.{Figure, vertex, open_edge, closed_edge, face, LiveCell, cycles_of as cyclesWith}
use Rattle.complex.specs.Uses.{all_cycles}
use Rattle.store.specs.declared.Drawing.{Drawing}
use Rattle.store.specs.declared.Index.{Index}
use Rattle.store.specs.declared.Cell.{Cell}
use Rattle.store.specs.Edits.{places_of}
use Rattle.store.specs.Index.{Indexes}
use Rattle.store.specs.Sizes.{Sizes}
use Rattle.store.specs.View.{sheet_of, Fits, cycle_count, cycle_total, step_total, cycles_from}
use Rattle.store.specs.Places.{figure_cycles, entry_cycles}
use Rattle.store.proofs.Lists.{places_sum}
use Rattle.store.proofs.Pools.{held_cycles, drawing_held}

cycles_in_lem : (t : Figure) → figure_cycles t ≡ cyclesWith (some t)
cycles_in_lem (vertex p) = refl
cycles_in_lem (open_edge a b bs) = refl
cycles_in_lem (closed_edge bs) = refl
cycles_in_lem (face ks) = refl

all_cycles_lem : (cs : List LiveCell) → spread entry_cycles cs ≡ all_cycles cs
all_cycles_lem [] = refl
all_cycles_lem (c ∷ cs) = ap₂ ◌++◌ (cycles_in_lem c.figure) (all_cycles_lem cs)

-- the arrays of a drawing hold the cycles of its cells
pub cycles_held : (d : Drawing) → Sizes d → Fits d → cycles_from (take (cycle_total d) d.cycles) d.steps ≡ all_cycles (sheet_of d).cells
cycles_held d z f =
    held_cycles (spread entry_cycles (sheet_of d).cells) d.cycles (cycle_total d) d.steps (step_total d) (drawing_held d z f)
    ∙ all_cycles_lem (sheet_of d).cells

-- the numbers of cycles in its rows
pub cycle_places : (d : Drawing) (ix : Index) → Indexes d ix → total (places_of 0) (take d.count ix.cycles) ≡ cycle_total d
cycle_places d ix x = ap (total (places_of 0)) x.cycles ∙ places_sum (λ (c : Cell). cycle_count c.shape) (take d.count d.cells)
