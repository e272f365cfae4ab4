-- `decode::decode_open` meets its contract: it reads start, end, bend list. Assumes nothing.
use mathlib.Core.Path.{refl}
use borrow.Author.Rules.{rules}
use Rattle.bends.specs.Bends.{read_bends}
use Rattle.decode_parts.proofs.Fields.{list_at_lem, heard, list_found, no_list}
use Rattle.decode_fields.specs.Fields.{two_says}
use Rattle.decode_fields.proofs.Pairs.{pair_none, pair_half, pair_both}
use Rattle.decode_command.proofs.Decides.{unread, whole}
use Rattle.decode.proofs.Heads.{of_open}
use Rattle.decode.proofs.decode_open.Goals as goal

pub returns-in_default : goal.returns-in_default
returns-in_default c = of_open (unread _ (pair_none read_bends (heard two_says c.two_numbers.ensures c.in_default.is)))

pub bends_at-requires : goal.bends_at-requires
bends_at-requires c = (heard two_says c.two_numbers.ensures c.in-Some.is).is.fits

pub returns-in_default-bends_at : goal.returns-in_default-bends_at
returns-in_default-bends_at c =
    of_open (unread _ (pair_half (heard two_says c.two_numbers.ensures c.in-Some.is) (no_list c.bends_at.ensures c.in_default-bends_at.is)))

pub returns : goal.returns
returns c =
    let h = c.bends_at.ensures in
    let e = c.in-Some-bends_at.is in
    of_open (whole _ (pair_both (heard two_says c.two_numbers.ensures c.in-Some.is) (list_found h e)) _ refl (list_at_lem h e).lies)
