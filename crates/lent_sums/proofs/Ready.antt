-- Sound arrays with their sums. Assumes nothing.
use mathlib.Core.Path.{◌≡◌, refl}
use lib.Dec.{T}
use Rattle.answer.specs.declared.Totals.{Totals}
use Rattle.answer.specs.Late.{Summed}
use Rattle.lent.specs.Arrays.{Arrays, sound_arrays, totals_of, Lengths}
use Rattle.lent.specs.Replies.{Ready}
use Rattle.lent.proofs.Sums.{ready_summed}

module _ (a : Arrays) (w : T (sound_arrays a)) where
  pub readied : Lengths a → (t : Totals) → t ≡ totals_of a → Ready a t
  readied l t e = record { sound = w; long = l; sums = e }

  pub sums_ask : Lengths a → Summed a.bends a.counts a.count a.cycles
  sums_ask l = ready_summed a (totals_of a) (readied l (totals_of a) refl)
