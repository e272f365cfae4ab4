-- `read` meets its contract: the drawing of the arrays that a file was read into, empty before. Assumes nothing.
use mathlib.Core.Path.{ap, ◌∙◌}
use Rattle.lent.specs.Arrays.{held_by}
use Rattle.call_asked.proofs.Questions.{begun}
use Rattle.struct_read.proofs.Opened.{file_read}
use Rattle.struct_read.proofs.read.Goals as goal

pub returns : goal.returns
returns c =
    let z = c.empty-own.ensures in
    file_read _ _ _ c.read-number.result c.read-number.ensures.read_in (begun _ z.next z.count) _
    (c.put_together-drawing.ensures ∙ ap held_by c.view.ensures)
