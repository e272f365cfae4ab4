-- `write` meets its contract: the file of the arrays is the file of the struct. Assumes nothing.
use mathlib.Core.Path.{◌∙◌}
use Rattle.register.proofs.Doors.{apart_seen, write_apart}
use Rattle.register.proofs.write.Goals as goal

pub returns : goal.returns
returns c = c.write.ensures ∙ write_apart _ _ (apart_seen c.view.ensures c.take_apart.ensures.apart) _
