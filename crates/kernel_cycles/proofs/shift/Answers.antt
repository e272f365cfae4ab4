-- `shift` meets its contract. Assumes nothing.
use borrow.Author.Rules.{rules}
use native.Mathlib.Omega.{arith}
use Rattle.kernel_cycles.proofs.Moving.{moved_none}
use Rattle.kernel_cycles.proofs.shift.Goals as goal

pub returns-then-from-to : goal.returns-then-from-to
returns-then-from-to c = moved_none _ _ _ _ c.if-from-to.true
