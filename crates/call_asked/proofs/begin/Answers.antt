-- `begin` meets its contract. Assumes nothing.
use Rattle.call_asked.proofs.Questions.{begun}
use Rattle.call_asked.proofs.begin.Goals as goal

pub returns : goal.returns
returns c = begun
