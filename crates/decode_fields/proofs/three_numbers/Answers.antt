-- `decode_fields::three_numbers` meets its contract. Assumes nothing.
use borrow.Author.Rules.{rules}
use Rattle.number.specs.Numbers.{read_number}
use Rattle.decode_fields.specs.Fields.{two_says}
use Rattle.decode_parts.proofs.Fields.{heard, number_heard}
use Rattle.decode_fields.proofs.Pairs.{pair_none, pair_half, pair_both}
use Rattle.decode_fields.proofs.three_numbers.Goals as goal

pub returns-in_default : goal.returns-in_default
returns-in_default c = pair_none read_number (heard two_says c.two_numbers.ensures c.in_default.is)

pub returns-in_default-read_number : goal.returns-in_default-read_number
returns-in_default-read_number c =
    let d = c in
    pair_half (heard two_says d.two_numbers.ensures d.in-Some.is)
    (number_heard c.read_number.ensures c.in_default-read_number.is)

pub returns : goal.returns
returns c =
    let d = c in
    pair_both (heard two_says d.two_numbers.ensures d.in-Some.is)
    (number_heard c.read_number.ensures c.in-Some-read_number.is)
