-- `same_printed` meets its contract: arrays with next id 1 and no cell hold the empty drawing. Assumes nothing.
use Rattle.call_asked.proofs.Questions.{begun}
use Rattle.try_replay.proofs.same_printed.Goals as goal

pub same_text-requires : goal.same_text-requires
same_text-requires c = begun _ c.empty-own.ensures.next c.empty-own.ensures.count
