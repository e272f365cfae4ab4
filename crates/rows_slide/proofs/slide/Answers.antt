-- `slide` meets its contract: where the places are the same, all stays. Assumes nothing.
use Rattle.rows_slide.proofs.Sliding.{slid_none}
use Rattle.rows_slide.proofs.slide.Goals as goal

pub returns-else-from-to : goal.returns-else-from-to
returns-else-from-to g c = slid_none _ _ _ _ c.if-from-to.false
