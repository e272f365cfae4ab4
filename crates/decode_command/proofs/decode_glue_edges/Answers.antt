-- `decode_command::decode_glue_edges` meets its contract: it reads a, b, flag. Assumes nothing.
use mathlib.Core.Path.{refl}
use Rattle.decode_fields.specs.Fields.{three_says}
use Rattle.decode_parts.proofs.Fields.{heard}
use Rattle.decode_command.proofs.Decides.{unread, whole, of_three}
use Rattle.decode_command.proofs.decode_glue_edges.Goals as goal

pub returns-in_default : goal.returns-in_default
returns-in_default c = of_three (unread _ (heard three_says c.three_numbers.ensures c.in_default.is))

pub returns : goal.returns
returns c = of_three (whole _ (heard three_says c.three_numbers.ensures c.in-Some.is) _ refl tt)
