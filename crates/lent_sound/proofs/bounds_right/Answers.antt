-- `lent_sound::bounds_right` meets its contract. Assumes nothing.
use Rattle.lent_sound.proofs.Testing.{bounds_first, bounds_late, bounds_count}
use Rattle.lent_sound.proofs.bounds_right.Goals as goal

pub returns-then-next-eq0 : goal.returns-then-next-eq0
returns-then-next-eq0 c = let a = c.args in bounds_first a.next a.count c.if-next-eq0.true

pub returns-then-next-gt-IDS_END : goal.returns-then-next-gt-IDS_END
returns-then-next-gt-IDS_END c = let a = c.args in bounds_late a.next a.count c.if-next-eq0.false c.if-next-gt-IDS_END.true

pub returns : goal.returns
returns c = let a = c.args in bounds_count a.next a.count c.if-next-eq0.false c.if-next-gt-IDS_END.false
