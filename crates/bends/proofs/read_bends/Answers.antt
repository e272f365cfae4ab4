-- `bends::read_bends` meets its contract. Assumes nothing.
use Rattle.std.specs.Prelude.{Option, Some, None}
use Prim.Native.Nat.{ℕ, ◌<◌, ◌≤◌}
use mathlib.Core.Path.{◌≡◌, sym, ap, ◌∙◌}
use borrow.Author.Rules.{rules}
use native.Mathlib.Omega.{arith}
use mathlib.Core.List.{List}
use lib.ListN.{length, drop}
use Rattle.number.specs.Readers.{got}
use Rattle.number.specs.Numbers.{read_number, number_at, number_says}
use Rattle.number.proofs.Laws.{value_at_lem, malformed_at}
use Rattle.bends.proofs.Laws.{listed_none, listed_short, listed_long}
use Rattle.bends.proofs.read_bends.Goals as goal

pub returns-in_default : goal.returns-in_default
returns-in_default c = sym (listed_none c.args.part.now (malformed_at c.args.part.now 0 (sym c.read_number.ensures ∙ ap number_says c.in_default.is)))

-- the count that was read, and the place after it
number_of : (s : List ℕ) (r : Option (ℕ × ℕ)) (n first : ℕ) → number_says r ≡ number_at s 0 → r ≡ Some (n, first)
    → (read_number s ≡ got n (drop first s)) × (0 < first) × (first ≤ length s)
number_of s r n first e v = value_at_lem s 0 n first (sym e ∙ ap number_says v)

pub overflow_sub-part : goal.overflow_sub-part
overflow_sub-part c = (number_of _ _ _ _ c.read_number.ensures c.in-Some.is).2

pub returns-then-part-first : goal.returns-then-part-first
returns-then-part-first c =
    let n = number_of _ _ _ _ c.read_number.ensures c.in-Some.is in
    let l = n.2 in
    sym (listed_short c.args.part.now c.in-Some.count c.in-Some.first n.0 l (omega arith))

pub returns : goal.returns
returns c =
    let n = number_of _ _ _ _ c.read_number.ensures c.in-Some.is in
    let l = n.2 in
    sym (listed_long c.args.part.now c.in-Some.count c.in-Some.first n.0 (omega arith))
