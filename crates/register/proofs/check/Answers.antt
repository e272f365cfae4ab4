-- `check` meets its contract: the verdict on the arrays is that on the struct. Assumes nothing.
use mathlib.Core.Path.{◌∙◌}
use Rattle.register.proofs.Doors.{apart_seen, check_apart}
use Rattle.register.proofs.check.Goals as goal

pub returns : goal.returns
returns c = c.check.ensures.result_value ∙ check_apart _ _ (apart_seen c.view.ensures c.take_apart.ensures.apart)
