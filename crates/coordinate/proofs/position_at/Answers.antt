-- `coordinate::position_at` meets its contract: a coordinate, and another eight bytes on. Assumes nothing.
use borrow.Author.Rules.{rules}
use Rattle.coordinate.proofs.position_at.Goals as goal

pub returns : goal.returns
returns c = λ i. record { x = c.before.coordinate-x.ensures i; y = c.coordinate-y.ensures i }
