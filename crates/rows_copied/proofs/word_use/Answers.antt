-- `word_use` meets its contract. Assumes nothing.
use borrow.Author.Tests.{eq-eqb, ne_eqb}
use native.Mathlib.Omega.{arith}
use Rattle.rows_copied.proofs.word_use.Goals as goal

pub returns-then-i-s : goal.returns-then-i-s
returns-then-i-s c = record {
  value = simp (eq-eqb _ _ c.if-i-s.true);
  upper_bound = omega arith;
}

pub returns : goal.returns
returns c = record {
  value = simp (ne_eqb _ _ c.if-i-s.false);
  upper_bound = omega arith;
}
