-- `pieces` meets its contract: the number of pieces of the arrays is that of the struct. Assumes nothing.
use mathlib.Core.Path.{◌∙◌}
use Rattle.register.proofs.Doors.{apart_seen, pieces_apart}
use Rattle.register.proofs.pieces.Goals as goal

pub returns : goal.returns
returns c = c.pieces.ensures ∙ pieces_apart _ _ (apart_seen c.view.ensures c.take_apart.ensures.apart)
