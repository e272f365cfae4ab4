-- `euler` meets its contract: the Euler number of the arrays is that of the struct. Assumes nothing.
use mathlib.Core.Path.{◌∙◌}
use Rattle.register.proofs.Doors.{apart_seen, euler_apart}
use Rattle.register.proofs.euler.Goals as goal

pub returns : goal.returns
returns c = c.euler.ensures ∙ euler_apart _ _ (apart_seen c.view.ensures c.take_apart.ensures.apart)
