-- `decode_fields::cut_lists` meets its contract. Assumes nothing.
use borrow.Author.Rules.{rules}
use Rattle.number.specs.Numbers.{read_number, counted}
use Rattle.decode_parts.specs.Lists.{Reaches}
use Rattle.decode_parts.proofs.Rest.{leaves_number}
use Rattle.decode_parts.proofs.Fields.{list_at_lem, things_at, things_none, stands, number_heard, list_found, no_list}
use Rattle.decode_fields.proofs.Pairs.{pair_none, pair_half, pair_both, counted_none, counted_half, counted_both}
use Rattle.decode_fields.proofs.cut_lists.Goals as goal

pub returns-in_default : goal.returns-in_default
returns-in_default c = record {
  found = pair_none (counted read_number) (no_list c.bends_at.ensures c.in_default.is);
  cut_lie = tt;
}

pub returns-in_default-read_number : goal.returns-in_default-read_number
returns-in_default-read_number c = record {
  found = pair_half (list_found c.bends_at.ensures c.in-Some.is)
      (counted_none read_number (number_heard c.read_number.ensures c.in_default-read_number.is));
  cut_lie = tt;
}

pub skip_numbers-requires : goal.skip_numbers-requires
skip_numbers-requires c = (number_heard c.read_number.ensures c.in-Some-read_number.is).is.fits

pub returns-in_default-skip_numbers : goal.returns-in_default-skip_numbers
returns-in_default-skip_numbers c =
    let n = c.in-Some-read_number in
    let e = things_none read_number c.args.script.now n.place n.moved c.skip_numbers.ensures c.in_default-skip_numbers.is in
    record {
      found = pair_half (list_found c.bends_at.ensures c.in-Some.is)
          (counted_half read_number (number_heard c.read_number.ensures n.is) e);
      cut_lie = tt;
    }

-- the bends, the count of the moved cycles, and those cycles
pub returns : goal.returns
returns c =
    let s = c.args.script.now in
    let n = c.in-Some-read_number in
    let fits = (number_heard c.read_number.ensures n.is).is.fits in
    let moved : Reaches read_number s n.place n.moved c.in-Some-skip_numbers.next =
    things_at read_number s n.place n.moved c.skip_numbers.ensures leaves_number fits c.in-Some-skip_numbers.is in
    record {
      found = pair_both (list_found c.bends_at.ensures c.in-Some.is)
          (counted_both read_number (number_heard c.read_number.ensures n.is) moved);
      cut_lie = ((list_at_lem c.bends_at.ensures c.in-Some.is).lies, stands moved);
    }
