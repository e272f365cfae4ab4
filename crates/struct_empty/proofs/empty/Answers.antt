-- `struct_empty::empty` meets its contract, by computing. Assumes nothing.
use mathlib.Core.Path.{refl}
use Rattle.store.specs.View.{sheet_of}
use Rattle.complex.specs.Sound.{sound}
use Rattle.struct_empty.proofs.empty.Goals as goal

pub returns : goal.returns
unfolding sheet_of sound
returns c = record { sheet = refl; sound = tt }
