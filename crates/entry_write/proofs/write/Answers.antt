-- `write` meets its contract: 1, or the file of sound arrays. Assumes nothing.
use mathlib.Core.Path.{◌∙◌}
use Rattle.lent.specs.Sheets.{seen}
use Rattle.call_asked.proofs.Questions.{asked_sums, after_yes, after_no}
use Rattle.entry_write.proofs.write.Goals as goal

pub returns-in_default : goal.returns-in_default
returns-in_default c = after_no (seen c.args.view.now) _ _ _ c.asked.ensures
    c.in_default.is

pub write-requires : goal.write-requires
write-requires c = asked_sums (seen c.args.view.now) _ _ c.asked.ensures c.in-Some.is

pub returns : goal.returns
returns c = let t = c in
    c.write.ensures ∙ after_yes (seen c.args.view.now) _ _ _ _ t.asked.ensures t.in-Some.is
