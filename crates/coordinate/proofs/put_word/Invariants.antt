-- `coordinate::put_word` meets its contract. What is stored, with the bytes of the rest to store from at + k on, is the whole. Assumes nothing.
use borrow.Author.Rules.{rules}
use native.Mathlib.Omega.{arith}
use mathlib.Core.Path.{◌≡◌, refl, sym, ap, ◌∙◌}
use Prim.Native.Nat.{ℕ, ◌+◌, ◌-◌, ◌≤◌}
use native.Mathlib.Nat.{add-zero}
use lib.Dec.{lit≤}
use lib.ListN.{length, length-set}
use lib.Seq.{sets}
use Rattle.coordinate.specs.Positions.{bytes_of}
use Rattle.coordinate.proofs.Bytes.{store_more}
use Rattle.coordinate.proofs.put_word.Given as goal

abbrev pub invariant-loop-k : goal.invariant-loop-k
invariant-loop-k l =
    (l.k ≤ 8) × (length l.out ≡ length l.initial.out) × (sets l.out (l.at + l.k) (bytes_of (8 - l.k) l.rest) ≡ sets l.initial.out l.at (bytes_of 8 l.n))
