-- `decode_fields::two_numbers` meets its contract. Assumes nothing.
use borrow.Author.Rules.{rules}
use Rattle.number.specs.Numbers.{read_number}
use Rattle.decode_parts.proofs.Fields.{number_heard}
use Rattle.decode_fields.proofs.Pairs.{pair_none, pair_half, pair_both}
use Rattle.decode_fields.proofs.two_numbers.Goals as goal

pub returns-in_default : goal.returns-in_default
returns-in_default c = pair_none read_number (number_heard c.read_number.ensures c.in_default.is)

pub returns-in_default-read_number : goal.returns-in_default-read_number
returns-in_default-read_number c =
    let d = c in
    pair_half (number_heard d.read_number.ensures d.in-Some.is)
    (number_heard c.read_number-2.ensures c.in_default-read_number.is)

pub returns : goal.returns
returns c =
    let d = c in
    pair_both (number_heard d.read_number.ensures d.in-Some.is)
    (number_heard c.read_number-2.ensures c.in-Some-read_number.is)
