-- How many things stand in a script. Assumes nothing.
use mathlib.Core.Path.{◌≡◌}
use mathlib.Core.List.{List}
use Prim.Native.Nat.{ℕ}
use lib.ListN.{length, drop}
use Rattle.number.specs.Readers.{Read}
use Rattle.number.proofs.Counted.{times_length}
use Rattle.decode_parts.specs.Lists.{things_read, Stand}

-- as many things as were counted
pub stand_length : {A : Type 0} (r : List ℕ → Read A) (s : List ℕ) (at n : ℕ) → Stand r s at n → length (things_read r s at n) ≡ n
stand_length r s at n h = times_length r n (drop at s) (drop h.end s) (things_read r s at n) h.reach.read
