-- `opposite` meets its contract. Assumes nothing.
use Rattle.ask_uncut_turns.proofs.Turning.{opposite_back, opposite_forth}
use Rattle.ask_uncut_turns.proofs.opposite.Goals as goal

pub returns-then-p : goal.returns-then-p
returns-then-p c = opposite_back _ _ c.if-p.true

pub returns : goal.returns
returns c = let a = c.args in opposite_forth a.p a.q c.if-p.false
