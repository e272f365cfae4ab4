-- `star` meets its contract: the star in the arrays is the star in the struct. Assumes nothing.
use mathlib.Core.Path.{◌∙◌}
use Rattle.register.proofs.Doors.{apart_seen, star_apart}
use Rattle.register.proofs.star.Goals as goal

pub returns : goal.returns
returns c = c.star.ensures ∙ star_apart _ _ (apart_seen c.view.ensures c.take_apart.ensures.apart) _ _
