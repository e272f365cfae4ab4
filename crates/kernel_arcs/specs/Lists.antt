-- The cycles of a face about one of them, without those that are flagged. Definitions only.
use Rattle.std.specs.Prelude.{ℕ, ◌+◌, ◌-◌, Bool, List, take, drop}
use Rattle.complex.specs.Cells.{Cycle}
use Rattle.store.specs.Edits.{kept}

-- of the cycles before c, those that are not flagged
abbrev pub ahead : List Bool → ℕ → List Cycle → List Cycle
ahead flags c ks = kept (take c flags) (take c ks)

-- of n cycles, those after c that are not flagged
abbrev pub behind : List Bool → ℕ → ℕ → List Cycle → List Cycle
behind flags n c ks = kept (take (n - (c + 1)) (drop (c + 1) flags)) (drop (c + 1) ks)
