-- `tell` meets its contract. Assumes nothing.
use native.Mathlib.Omega.{arith}
use Rattle.entry_check.proofs.Verdicts.{as_yes, as_no}
use Rattle.entry_check.proofs.tell.Goals as goal

pub returns-then-v : goal.returns-then-v
returns-then-v c = record {
  visited_after = as_yes _ c.if-v.true;
  sound_bound = omega arith;
}

pub returns-else-v : goal.returns-else-v
returns-else-v c = record {
  visited_after = as_no _ c.if-v.false;
  sound_bound = omega arith;
}
