-- Uses of a cell by cycles, counted in the arrays. Definitions only.
use Rattle.std.specs.Prelude.{ℕ}
use Rattle.complex.specs.Cells.{Cycle}
use Rattle.complex.specs.Uses.{step_use, ring_use, lone_use}
use Rattle.rows_uses.specs.declared.Use.{Use}
use Rattle.rows_uses.specs.declared.Use.TheVariants.{Step, Ring, Lone}

-- how often a cycle uses the cell i
abbrev pub uses_in : Use → ℕ → Cycle → ℕ
uses_in Step i = step_use i
uses_in Ring i = ring_use i
uses_in Lone i = lone_use i
