-- The lengths of the arrays of a drawing. Definitions only.
use Rattle.std.specs.Prelude.{◌≡◌, length}
use Rattle.store.specs.declared.Drawing.{Drawing}

-- each array of a drawing has its length
pub record Sizes (d : Drawing) : Type 0 where
  pub cells : length d.cells ≡ 256
  pub cycles : length d.cycles ≡ 512
  pub steps : length d.steps ≡ 2048
  pub bends : length d.bends ≡ 2048
