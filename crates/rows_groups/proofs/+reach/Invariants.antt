-- `reach`, which calls itself, meets its contract. The measure is the number of places in other groups. Assumes nothing.
use Rattle.rows_groups.specs.Search.{outside}
use Rattle.rows_groups.proofs.+reach.Given as goal

abbrev pub decreases-reach : goal.decreases-reach
decreases-reach l = outside l.g l.groups.now
