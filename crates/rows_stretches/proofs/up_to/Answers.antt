-- `up_to` meets its contract. Assumes nothing.
use borrow.Author.Rules.{rules}
use Prim.Native.Nat.{ℕ, ◌+◌}
use mathlib.Core.Path.{◌≡◌, ap}
use Rattle.rows_stretches.specs.declared.Stretch.{Stretch}
use Rattle.rows_stretches.proofs.up_to.Goals as goal

with_length : (at count from : ℕ) {m n : ℕ} → m ≡ n → ◌≡◌ {A = Stretch} (record { at = at; count = count; from = from; len = m })
    (record { at = at; count = count; from = from; len = n })
with_length at count from {m} {n} e = ap (λ (k : ℕ). record { at = at; count = count; from = from; len = k }) e

pub returns : goal.returns
returns c = let a = c.args in with_length a.p.at a.p.count (a.s + 1) c.between.ensures
