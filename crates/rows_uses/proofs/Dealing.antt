-- Uses by the cells of a drawing are those by its cycles. Assumes nothing.
use Prim.Native.Nat.{ℕ, ◌+◌}
use mathlib.Core.Path.{◌≡◌, refl, ap, ap₂, sym, ◌∙◌}
use mathlib.Core.List.{List, [], ◌∷◌}
use mathlib.Core.Option.{some}
use lib.ListN.{take}
use Rattle.store.specs.declared.Drawing.{Drawing}
use Rattle.store.specs.Sizes.{Sizes}
use Rattle.complex.specs.Lists.{total}
use Rattle.complex.specs.Cells.{Cycle, Figure, vertex, open_edge, closed_edge, face, LiveCell, cycles_of as cyclesIn'}
use Rattle.complex.specs.Uses.{uses_by}
use Rattle.store.specs.View.{sheet_of, Fits, cycles_from, cycle_total}
use Rattle.store.specs.Places.{figure_cycles, entry_cycles}
use Rattle.number.specs.Readers.{spread}
use Rattle.store.proofs.Lists.{sum_append}
use Rattle.store.proofs.Stands.{used_cycles}

figure_in_lem : (f : Figure) → cyclesIn' (some f) ≡ figure_cycles f
figure_in_lem (vertex p) = refl
figure_in_lem (open_edge a b bs) = refl
figure_in_lem (closed_edge bs) = refl
figure_in_lem (face ks) = refl

module _ (uses : Cycle → ℕ) where
  -- the uses by the cells are those by their cycles
  pub uses_by_lem : (cs : List LiveCell) → uses_by uses cs ≡ total uses (spread entry_cycles cs)
  uses_by_lem [] = refl
  uses_by_lem (c ∷ cs) = ap₂ ◌+◌ (ap (total uses) (figure_in_lem c.figure)) (uses_by_lem cs) ∙ sym (sum_append uses (entry_cycles c) (spread entry_cycles cs))

-- how often a drawing's cells use a cell is counted in its arrays
pub uses_held : (d : Drawing) → Sizes d → Fits d → (uses : Cycle → ℕ)
    → uses_by uses (sheet_of d).cells ≡ total uses (cycles_from (take (cycle_total d) d.cycles) d.steps)
uses_held d z g uses = uses_by_lem uses (sheet_of d).cells ∙ ap (total uses) (used_cycles d z g)
