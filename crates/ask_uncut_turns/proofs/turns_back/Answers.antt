-- `turns_back` meets its contract. Assumes nothing.
use Rattle.ask_uncut_turns.proofs.Turning.{back_whole, back_edge, back_none}
use Rattle.ask_uncut_turns.proofs.turns_back.Goals as goal

pub returns-then-whole : goal.returns-then-whole
returns-then-whole c = back_whole _ _ _ c.if-whole.true c.if-a-b.true

pub returns-then-a-b : goal.returns-then-a-b
returns-then-a-b c = back_edge _ _ _ c.if-whole.false c.if-a-b.true

pub returns : goal.returns
returns c = let a = c.args in back_none a.h a.k a.whole c.if-a-b.false
