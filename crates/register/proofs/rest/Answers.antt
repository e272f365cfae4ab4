-- `rest` meets its contract: the rest that the arrays give is the rest of the struct. Assumes nothing.
use mathlib.Core.Path.{◌∙◌}
use Rattle.register.proofs.Doors.{apart_seen, rest_apart}
use Rattle.register.proofs.rest.Goals as goal

pub returns : goal.returns
returns c = c.rest.ensures ∙ rest_apart _ _ (apart_seen c.view.ensures c.take_apart.ensures.apart) _
