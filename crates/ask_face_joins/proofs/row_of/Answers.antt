-- `row_of` meets its contract. An id that stands in a row has that row, since the ids rise. Assumes nothing.
use borrow.Author.Rules.{rules}
use native.Mathlib.Omega.{arith}
use Rattle.sound.proofs.Looking.{row_is}
use Rattle.ask_face_joins.proofs.row_of.Goals as goal

pub returns-then-ids-hint : goal.returns-then-ids-hint
returns-then-ids-hint c =
    let s = c in
    let a = s.args in
    record {
      value = row_is a.ids.now a.n _ a.id (omega arith) s.requires.rising (omega arith) c.if-ids-hint.true;
      hints_len_2 = s.requires.hints_len;
    }
