-- `bends_taken` meets its contract. Assumes nothing.
use borrow.Author.Rules.{rules}
use mathlib.Core.Path.{sym, ◌∙◌}
use Rattle.sound.proofs.Testing.{and_true, and_false}
use Rattle.call_load.proofs.Bare.{taken_put, taken_looked}
use Rattle.call_load.proofs.bends_taken.Goals as goal

pub returns-then-keep : goal.returns-then-keep
returns-then-keep c = taken_put _ _ _ _ _ _ _ _ _ _ c.if-keep.true c.put_bends.ensures

pub returns-then-good : goal.returns-then-good
returns-then-good c =
    taken_looked _ _ _ _ _ _ _ _ c.if-keep.false (c.bends_within.ensures ∙ sym (and_true _ c.if-good.true))

pub returns : goal.returns
returns c = taken_looked _ _ _ _ _ _ _ _ c.if-keep.false (sym (and_false _ c.if-good.false))
