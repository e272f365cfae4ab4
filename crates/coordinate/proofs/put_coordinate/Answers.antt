-- `coordinate::put_coordinate` meets its contract: what `put_word` stores are the bytes of the pattern. Assumes nothing.
use borrow.Author.Rules.{rules}
use Rattle.coordinate.specs.Positions.{coordinate_bytes}
use Rattle.coordinate.proofs.put_coordinate.Goals as goal

pub returns : goal.returns
unfolding coordinate_bytes
returns c = search rules
