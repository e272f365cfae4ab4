-- `decode_command::decode_placed` meets its contract: it reads a cell and a position. Assumes nothing.
use Rattle.coordinate.specs.Positions.{read_position}
use Rattle.decode_parts.proofs.Fields.{number_heard, position_heard}
use Rattle.decode_fields.proofs.Pairs.{pair_none, pair_half, pair_both}
use Rattle.decode_command.proofs.Decides.{unread, made, of_place}
use Rattle.decode_command.proofs.decode_placed.Goals as goal

pub returns-in_default : goal.returns-in_default
returns-in_default g c = λ kind m. of_place kind (unread _ (pair_none read_position (number_heard c.read_number.ensures c.in_default.is)))

pub returns-in_default-read_position : goal.returns-in_default-read_position
returns-in_default-read_position g c = λ kind m.
    of_place kind (unread _ (pair_half (number_heard c.read_number.ensures c.in-Some.is)
    (position_heard c.read_position.ensures c.in_default-read_position.is)))

pub returns : goal.returns
returns g c = λ kind m. of_place kind (made _
    (pair_both (number_heard c.read_number.ensures c.in-Some.is) (position_heard c.read_position.ensures c.in-Some-read_position.is))
    (m c.in-Some.cell c.in-Some-read_position.p c.make.result c.make.ensures))
