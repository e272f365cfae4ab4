-- `run::run` meets its contract: a run on arrays from the empty drawing, and the struct that they hold. Assumes nothing.
use Rattle.std.proofs.Common.{ap, ◌∙◌}
use Rattle.lent.specs.Arrays.{held_by}
use Rattle.call_asked.proofs.Questions.{begun}
use Rattle.run.proofs.Arrays.{ran_all}
use Rattle.run.proofs.run.Goals as goal

pub run_on-commands-requires : goal.run_on-commands-requires
run_on-commands-requires c = begun _ c.empty-own.ensures.next c.empty-own.ensures.count

pub returns : goal.returns
returns c =
    ran_all (begun _ c.empty-own.ensures.next c.empty-own.ensures.count) c.run_on-commands.ensures.ran_on c.put_together-d.result
    (c.put_together-d.ensures ∙ ap held_by c.view.ensures)
