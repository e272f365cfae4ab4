-- `file_read::head_at` meets its contract. Assumes nothing.
use mathlib.Core.Path.{refl}
use borrow.Author.Rules.{rules}
use Rattle.decode_parts.proofs.Fields.{heard}
use Rattle.decode_fields.specs.Fields.{two_says}
use Rattle.file_read.proofs.Places.{head_bad, shape_bad, head_found}
use Rattle.file_read.proofs.head_at.Goals as goal

pub returns-in_default : goal.returns-in_default
returns-in_default c = (refl, head_bad (heard two_says c.two_numbers.ensures c.in_default.is))

pub returns-in_default-shape_at : goal.returns-in_default-shape_at
returns-in_default-shape_at c =
    (refl, shape_bad (heard two_says c.two_numbers.ensures c.in-Some.is) c.shape_at.ensures c.in_default-shape_at.is)

pub returns : goal.returns
returns c = head_found (heard two_says c.two_numbers.ensures c.in-Some.is) c.shape_at.ensures c.in-Some-shape_at.is
