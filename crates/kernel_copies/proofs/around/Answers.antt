-- `around` meets its contract. Assumes nothing.
use mathlib.Core.Path.{sym}
use native.Mathlib.Nat.{mod-eq_of_lt}
use native.Mathlib.Omega.{arith}
use Rattle.kernel_copies.proofs.Coming.{round_last}
use Rattle.kernel_copies.proofs.around.Goals as goal

pub returns-then-i-k : goal.returns-then-i-k
returns-then-i-k c = sym (mod-eq_of_lt c.if-i-k.true)

pub returns : goal.returns
returns c = let s = c in round_last s.args.i s.args.k s.requires (λ h. omega (arith, h, c.if-i-k.false))
