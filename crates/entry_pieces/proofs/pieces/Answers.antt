-- `pieces` meets its contract: 1, or the number of pieces of sound arrays. Assumes nothing.
use Rattle.complex.specs.Pieces.{pieces_call}
use Rattle.store.specs.View.{sheet_of}
use Rattle.lent.specs.Arrays.{held_by}
use Rattle.lent.specs.Sheets.{seen}
use Rattle.call_asked.proofs.Questions.{asked_sums, asked_no, of_unsound, pieces_is}
use Rattle.entry_pieces.proofs.pieces.Goals as goal

pub returns-in_default : goal.returns-in_default
returns-in_default c =
    let a = seen c.args.view.now in
    of_unsound a (pieces_call (sheet_of (held_by a))) (record { number = 1; count = 0 }) (asked_no a _ c.asked.ensures c.in_default.is)

-- past question 1 the arrays are ready, with their sums
pub pieces-left-requires : goal.pieces-left-requires
pieces-left-requires c = (asked_sums (seen c.args.view.now) _ _ c.asked.ensures c.in-Some.is).sound

-- the number that is found is that of the pieces
pub returns : goal.returns
returns c =
    let a = seen c.args.view.now in
    pieces_is a (asked_sums a _ _ c.asked.ensures c.in-Some.is).sound _ c.pieces-left.ensures
