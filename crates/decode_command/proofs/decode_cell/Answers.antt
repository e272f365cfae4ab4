-- `decode_command::decode_cell` meets its contract: it reads a cell. Assumes nothing.
use Rattle.decode_parts.proofs.Fields.{number_heard}
use Rattle.decode_command.proofs.Decides.{unread, made}
use Rattle.decode_command.proofs.decode_cell.Goals as goal

pub returns-in_default : goal.returns-in_default
returns-in_default g c = λ kind m. unread kind (number_heard c.read_number.ensures c.in_default.is)

pub returns : goal.returns
returns g c = λ kind m. made kind (number_heard c.read_number.ensures c.in-Some.is) (m c.in-Some.cell c.make.result c.make.ensures)
