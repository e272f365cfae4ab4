-- `print_all` meets its contract: arrays with next id 1 and no cell hold the empty drawing. Assumes nothing.
use Rattle.call_asked.proofs.Questions.{begun}
use Rattle.edit.proofs.print_all.Goals as goal

pub print_on-requires : goal.print_on-requires
print_on-requires g c = begun _ c.empty-own.ensures.next c.empty-own.ensures.count
