-- `decode::decode_cut_face_closed` meets its contract: it reads face, bend list, moved cycles. Assumes nothing.
use mathlib.Core.Path.{refl}
use borrow.Author.Rules.{rules}
use Rattle.number.specs.Numbers.{read_number}
use Rattle.decode_parts.proofs.Fields.{number_at_lem, number_heard}
use Rattle.decode_parts.specs.Lists.{Found}
use Rattle.decode_fields.specs.Fields.{read_cut_lists}
use Rattle.decode_fields.proofs.Pairs.{pair_none}
use Rattle.decode_command.proofs.Decides.{unread, whole}
use Rattle.decode.proofs.Heads.{lists_none, lists_both, of_cut_closed}
use Rattle.decode.proofs.decode_cut_face_closed.Goals as goal

pub returns-in_default : goal.returns-in_default
returns-in_default c = of_cut_closed (unread _ (pair_none read_cut_lists (number_heard c.read_number.ensures c.in_default.is)))

pub cut_lists-requires : goal.cut_lists-requires
cut_lists-requires c =
    let a = c.args in
    (number_at_lem a.script.now a.at c.read_number.ensures c.in-Some.is).fits

pub returns-in_default-cut_lists : goal.returns-in_default-cut_lists
returns-in_default-cut_lists c =
    let d = c in
    of_cut_closed (unread _ (lists_none (number_heard d.read_number.ensures d.in-Some.is)
    (c.cut_lists.ensures.found, c.cut_lists.ensures.cut_lie) c.in_default-cut_lists.is))

pub returns : goal.returns
returns c =
    let d = c in
    let a = d.args in
    let f : Found read_number a.script.now a.at _ = number_heard d.read_number.ensures d.in-Some.is in
    let l = lists_both f (c.cut_lists.ensures.found, c.cut_lists.ensures.cut_lie) c.in-Some-cut_lists.is in
    of_cut_closed (whole _ l.0 _ refl l.1)
