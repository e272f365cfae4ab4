-- `decode::decode_closed` meets its contract: it reads a bend list. Assumes nothing.
use mathlib.Core.Path.{refl}
use borrow.Author.Rules.{rules}
use Rattle.bends.specs.Bends.{read_bends}
use Rattle.complex.specs.Cells.{closed_edge}
use Rattle.decode_parts.proofs.Fields.{list_at_lem, list_found, no_list}
use Rattle.decode_command.proofs.Decides.{unread, whole, of_create}
use Rattle.decode.proofs.decode_closed.Goals as goal

pub returns-in_default : goal.returns-in_default
returns-in_default c = of_create read_bends closed_edge (unread _ (no_list c.bends_at.ensures c.in_default.is))

pub returns : goal.returns
returns c =
    let h = c.bends_at.ensures in
    let e = c.in-Some.is in
    of_create read_bends closed_edge (whole _ (list_found h e) _ refl (list_at_lem h e).lies)
