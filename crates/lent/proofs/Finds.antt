-- What a look-up in sound arrays asks. Assumes nothing.
use Prim.Native.Nat.{◌≤◌}
use mathlib.Core.Path.{◌≡◌}
use lib.ListN.{length, take}
use Rattle.store.specs.Index.{Rising}
use Rattle.answer.specs.declared.Totals.{Totals}
use Rattle.lent.specs.Arrays.{Arrays}
use Rattle.lent.specs.Replies.{Ready}
use Rattle.lent.proofs.Sums.{ready_fits, ready_looks}

pub ready_finds : (a : Arrays) (t : Totals) → Ready a t → (a.count ≤ 256) × ((length a.ids ≡ 256) × Rising (take a.count a.ids))
ready_finds a t y = ((ready_fits a t y).cells, (y.long.ids, (ready_looks a t y).rising))
