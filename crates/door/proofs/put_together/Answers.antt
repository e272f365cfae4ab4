-- `put_together` meets its contract. Assumes nothing.
use borrow.Author.Rules.{rules}
use Rattle.door.proofs.put_together.Goals as goal

pub returns : goal.returns
returns c =
    let a = c.args in
    let e = c.cells_of-rows.ensures in
    let g = c.bends_of-places.ensures in
    λ j. record { next = a.view.now.next; count = a.view.now.count; cells = e j; cycles = a.view.now.cycles.now; steps = a.view.now.steps.now; bends = g j }
