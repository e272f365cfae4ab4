-- `number::put_number` meets its contract.
-- The loop's invariant: what is left of n, spelled at the place that the loop is at, makes the bytes that n spelled at the first place makes. Assumes nothing.
use Prim.Native.Nat.{ℕ, suc, ◌+◌, ◌/◌, ◌%◌, ◌≤◌, ◌<◌}
use mathlib.Core.Path.{◌≡◌, refl, sym, ap, ◌∙◌}
use mathlib.Core.List.{List}
use borrow.Author.Rules.{rules}
use native.Mathlib.Numerals.{add-one}
use native.Mathlib.Omega.{arith}
use lib.ListN.{length, set, length-set}
use lib.Seq.{sets}
use Rattle.number.specs.Numbers.{numbers_end, spell}
use Rattle.number.proofs.Laws.{spell_last, spell_next, spelled_length}
use Rattle.number.proofs.put_number.Given as goal

pub record Left (n at : ℕ) (out₀ out : List ℕ) (rest place : ℕ) : Type 0 where
  pub small : rest < numbers_end
  pub ends : place + length (spell rest) ≡ at + length (spell n)
  pub bytes : sets out place (spell rest) ≡ sets out₀ at (spell n)
  pub long : length out ≡ length out₀

abbrev pub invariant-loop-rest : goal.invariant-loop-rest
invariant-loop-rest l = Left l.n l.at l.initial.out l.out l.rest l.place

abbrev pub decreases-loop-rest : goal.decreases-loop-rest
decreases-loop-rest l = l.rest
