-- `lent_sound::walk` meets its contract: what the visit says, without the count. Assumes nothing.
use borrow.Author.Rules.{rules}
use Rattle.lent_sound.proofs.Cells.{visited_no, visited_yes}
use Rattle.lent_sound.proofs.walk.Goals as goal

pub returns-in_default : goal.returns-in_default
returns-in_default c =
    let v = c in
    record {
      result_value = visited_no _ v.visit.result v.visit.ensures.result_value _ c.in_default.is;
      lengths = v.visit.ensures.lengths;
    }

pub returns : goal.returns
returns c =
    let v = c in
    record {
      result_value = visited_yes _ v.visit.result v.visit.ensures.result_value _ c.in-Ok.is;
      lengths = v.visit.ensures.lengths;
    }
