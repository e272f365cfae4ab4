-- `coordinate::midpoint` meets its contract: the literal 0.5 is `half` once `of_bits` computes. Assumes nothing.
use mathlib.Core.Path.{refl}
use lib.Ieee.{of_bits}
use Rattle.coordinate.specs.Bounds.{middle}
use Rattle.coordinate.proofs.midpoint.Goals as goal

pub returns : goal.returns
unfolding of_bits middle
returns c = refl
