-- `decode::decode_face` meets its contract: it reads k, then the cycles. Assumes nothing.
use mathlib.Core.Path.{refl}
use borrow.Author.Rules.{rules}
use Rattle.number.specs.Numbers.{counted}
use Rattle.complex.specs.Cells.{face}
use Rattle.complex.specs.Decode.{read_cycle}
use Rattle.decode_parts.proofs.Rest.{leaves_cycle}
use Rattle.decode_parts.proofs.Fields.{things_at, things_none, stands, number_heard}
use Rattle.decode_fields.proofs.Pairs.{counted_none, counted_half, counted_both}
use Rattle.decode_command.proofs.Decides.{unread, whole, of_create}
use Rattle.decode.proofs.decode_face.Goals as goal

pub returns-in_default : goal.returns-in_default
returns-in_default c =
    of_create (counted read_cycle) face (unread _ (counted_none read_cycle (number_heard c.read_number.ensures c.in_default.is)))

pub skip_cycles-requires : goal.skip_cycles-requires
skip_cycles-requires c = (number_heard c.read_number.ensures c.in-Some.is).is.fits

pub returns-in_default-skip_cycles : goal.returns-in_default-skip_cycles
returns-in_default-skip_cycles c =
    let n = c.in-Some in
    let s = c.args.script.now in
    let e = things_none read_cycle s n.first n.cycles c.skip_cycles.ensures c.in_default-skip_cycles.is in
    of_create (counted read_cycle) face (unread _ (counted_half read_cycle (number_heard c.read_number.ensures c.in-Some.is) e))

pub returns : goal.returns
returns c =
    let n = c.in-Some in
    let s = c.args.script.now in
    let r = things_at read_cycle s n.first n.cycles c.skip_cycles.ensures leaves_cycle (number_heard c.read_number.ensures c.in-Some.is).is.fits
    c.in-Some-skip_cycles.is in
    of_create (counted read_cycle) face (whole _ (counted_both read_cycle (number_heard c.read_number.ensures c.in-Some.is) r) _ refl (stands r))
