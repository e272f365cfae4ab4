-- `asked` meets its contract: what the walk says, with the lengths. Assumes nothing.
use borrow.Author.Rules.{rules}
use Rattle.call_asked.proofs.Questions.{asked_said}
use Rattle.call_asked.proofs.asked.Goals as goal

pub returns : goal.returns
returns c = asked_said _ c.walk.ensures.lengths c.walk.result c.walk.ensures.result_value
