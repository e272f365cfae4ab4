-- `decode_command::decode_two` meets its contract: it reads two numbers. Assumes nothing.
use Rattle.decode_fields.specs.Fields.{two_says}
use Rattle.decode_parts.proofs.Fields.{heard}
use Rattle.decode_command.proofs.Decides.{unread, made, of_two}
use Rattle.decode_command.proofs.decode_two.Goals as goal

pub returns-in_default : goal.returns-in_default
returns-in_default g c = λ kind m. of_two kind (unread _ (heard two_says c.two_numbers.ensures c.in_default.is))

pub returns : goal.returns
returns g c = λ kind m. of_two kind (made _ (heard two_says c.two_numbers.ensures c.in-Some.is) (m c.in-Some.a c.in-Some.b c.make.result c.make.ensures))
