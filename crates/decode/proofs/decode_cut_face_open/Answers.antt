-- `decode::decode_cut_face_open` meets its contract: it reads face, c1, s1, c2, s2, bend list, moved cycles. Assumes nothing.
use mathlib.Core.Path.{refl}
use borrow.Author.Rules.{rules}
use Rattle.decode_fields.specs.Fields.{read_two_numbers, read_cut_lists, two_says, three_says}
use Rattle.decode_parts.proofs.Fields.{heard}
use Rattle.decode_fields.proofs.Pairs.{pair_none, pair_half, pair_both}
use Rattle.decode_command.proofs.Decides.{unread, whole}
use Rattle.decode.proofs.Heads.{lists_none, lists_both, of_cut_open}
use Rattle.decode.proofs.decode_cut_face_open.Goals as goal

pub returns-in_default : goal.returns-in_default
returns-in_default c =
    let h = heard three_says c.three_numbers.ensures c.in_default.is in
    of_cut_open (unread _ (pair_none read_cut_lists (pair_none read_two_numbers h)))

pub returns-in_default-two_numbers : goal.returns-in_default-two_numbers
returns-in_default-two_numbers c =
    let h = heard two_says c.two_numbers.ensures c.in_default-two_numbers.is in
    of_cut_open (unread _ (pair_none read_cut_lists (pair_half (heard three_says c.three_numbers.ensures c.in-Some.is) h)))

pub cut_lists-requires : goal.cut_lists-requires
cut_lists-requires c = (pair_both (heard three_says c.three_numbers.ensures c.in-Some.is)
    (heard two_says c.two_numbers.ensures c.in-Some-two_numbers.is)).is.fits

pub returns-in_default-cut_lists : goal.returns-in_default-cut_lists
returns-in_default-cut_lists c = of_cut_open (unread _ (lists_none (pair_both (heard three_says c.three_numbers.ensures c.in-Some.is)
    (heard two_says c.two_numbers.ensures c.in-Some-two_numbers.is)) (c.cut_lists.ensures.found, c.cut_lists.ensures.cut_lie) c.in_default-cut_lists.is))

pub returns : goal.returns
returns c =
    let l = lists_both (pair_both (heard three_says c.three_numbers.ensures c.in-Some.is)
    (heard two_says c.two_numbers.ensures c.in-Some-two_numbers.is)) (c.cut_lists.ensures.found, c.cut_lists.ensures.cut_lie) c.in-Some-cut_lists.is in
    of_cut_open (whole _ l.0 _ refl l.1)
