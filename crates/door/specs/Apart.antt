-- A struct taken apart into arrays. Definitions only.
use Rattle.std.specs.Prelude.{◌≡◌, true}
use Rattle.store.specs.declared.Drawing.{Drawing}
use Rattle.lent.specs.Arrays.{Arrays, held_by, normal}

-- the arrays a hold the struct d, in normal form
pub record Apart (d : Drawing) (a : Arrays) : Type 0 where
  pub held : held_by a ≡ d
  pub rows : normal a ≡ true
