-- `command` meets its contract: what the arrays answer, the struct answers. Assumes nothing.
use mathlib.Core.Path.{ap, ◌∙◌}
use Rattle.lent.specs.Arrays.{held_by}
use Rattle.lent.specs.Replies.{answer_by}
use Rattle.register.proofs.Doors.{commanded}
use Rattle.register.proofs.command.Goals as goal

pub returns : goal.returns
returns c =
    let l = c.command-l.result in
    let e = c.put_together-e.ensures ∙ ap held_by c.view.ensures in
    commanded c.args.d _ c.take_apart.ensures.apart _ _ l _ c.command-l.ensures.commanded_in (ap (answer_by l) e)
