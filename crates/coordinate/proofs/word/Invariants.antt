-- `coordinate::word` meets its contract. The loop goes down from 8: n is the value of the bytes from at + k on. Assumes nothing.
use mathlib.Core.Path.{◌≡◌}
use Prim.Native.Nat.{◌+◌, ◌-◌, ◌^◌, ◌<◌}
use lib.ListN.{take, drop}
use Rattle.coordinate.specs.Positions.{value_of}
use Rattle.coordinate.proofs.word.Given as goal

abbrev pub invariant-loop-k : goal.invariant-loop-k
invariant-loop-k l = (l.n ≡ value_of (take (8 - l.k) (drop (l.at + l.k) l.s))) × (l.n < 256 ^ (8 - l.k))
