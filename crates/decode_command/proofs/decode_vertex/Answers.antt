-- `decode_command::decode_vertex` meets its contract: it reads a position. Assumes nothing.
use mathlib.Core.Path.{refl}
use Rattle.coordinate.specs.Positions.{read_position}
use Rattle.complex.specs.Cells.{vertex}
use Rattle.decode_parts.proofs.Fields.{position_heard}
use Rattle.decode_command.proofs.Decides.{unread, whole, of_create}
use Rattle.decode_command.proofs.decode_vertex.Goals as goal

pub returns-in_default : goal.returns-in_default
returns-in_default c = of_create read_position vertex (unread _ (position_heard c.read_position.ensures c.in_default.is))

pub returns : goal.returns
returns c = of_create read_position vertex (whole _ (position_heard c.read_position.ensures c.in-Some.is) _ refl tt)
