-- `reverse` meets its contract. Assumes nothing.
use Rattle.kernel_bends.proofs.Turning.{turned_part}
use Rattle.kernel_bends.proofs.reverse.Goals as goal

pub returns : goal.returns
returns c = turned_part c.args.from c.args.to c.args.l.now _ c.requires.from_le_to c.reverse.ensures.after
