-- `entry_files::pieces` meets its contract: 10, or the number of pieces of the drawing that was read. Assumes nothing.
use Rattle.call_open.proofs.Judged.{opened_none}
use Rattle.entry_files.proofs.Opening.{opened_seen, pieces_refused, pieces_is}
use Rattle.entry_files.proofs.pieces.Goals as goal

pub returns-in_default : goal.returns-in_default
returns-in_default c = pieces_refused c.args.file.now (opened_none _ _ c.«open».result c.«open».ensures.opened_in c.in_default.is)

pub pieces-left-requires : goal.pieces-left-requires
pieces-left-requires c =
    (opened_seen c.args.file.now c.«open».result _ c.view.ensures c.«open».ensures.opened_in c.in-Some.is).ready.sound

pub returns : goal.returns
returns c =
    let f = opened_seen c.args.file.now c.«open».result _ c.view.ensures c.«open».ensures.opened_in c.in-Some.is in
    pieces_is c.args.file.now _ _ f _ c.pieces-left.ensures
