-- `dazolbei::dz_block_rest` meets its contract: the length of the rest. Assumes nothing.
use mathlib.Core.Path.{ap}
use lib.ListN.{length}
use Rattle.dazolbei.proofs.dz_block_rest.Goals as goal

pub returns : goal.returns
returns c = ap length c.rest-r.ensures
