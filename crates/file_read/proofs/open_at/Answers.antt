-- `file_read::open_at` meets its contract. Assumes nothing.
use mathlib.Core.Path.{refl}
use borrow.Author.Rules.{rules}
use Rattle.decode_parts.proofs.Fields.{heard}
use Rattle.decode_fields.specs.Fields.{three_says}
use Rattle.file_read.proofs.Places.{open_bad, open_found}
use Rattle.file_read.proofs.open_at.Goals as goal

pub returns-in_default : goal.returns-in_default
returns-in_default c = (refl, open_bad (heard three_says c.three_numbers.ensures c.in_default.is))

pub returns : goal.returns
returns c = open_found (heard three_says c.three_numbers.ensures c.in-Some.is)
