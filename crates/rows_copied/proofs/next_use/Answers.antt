-- `next_use` meets its contract. Assumes nothing.
use borrow.Author.Rules.{rules}
use mathlib.Core.Path.{ap, sym, ◌∙◌}
use mathlib.Core.Bool.{Bool}
use Prim.Native.Nat.{ℕ, ◌+◌}
use Rattle.rows_copied.specs.Copying.{uses_after}
use Rattle.rows_copied.proofs.next_use.Goals as goal

pub returns-then-each : goal.returns-then-each
returns-then-each c = let a = c.args in ap (λ (n : ℕ). a.k + n) c.word_use.ensures.value
    ∙ ap (λ (b : Bool). uses_after b a.i a.k a.s) (sym c.if-each.true)
