-- `lent_sound::bends_asked` meets its contract. Assumes nothing.
use borrow.Author.Rules.{rules}
use Rattle.lent_sound.proofs.Testing.{looked_at, passed_over}
use Rattle.lent_sound.proofs.bends_asked.Goals as goal

pub returns-then-look : goal.returns-then-look
returns-then-look c = looked_at _ _ _ c.if-look.true c.bends_right.ensures

pub returns : goal.returns
returns c = passed_over _ _ c.if-look.false
