-- `text::put_field` meets its contract. Assumes nothing.
use native.Mathlib.Omega.{arith}
use Rattle.text.proofs.Puts.{put_number, put_byte, put_then, put_length}
use Rattle.text.proofs.put_field.Goals as goal

pub put_decimal-end-requires : goal.put_decimal-end-requires
put_decimal-end-requires c = let h = c.requires in omega arith

pub bounds-out-end : goal.bounds-out-end
bounds-out-end c =
    let number = put_number c.args.out.now c.args.at c.args.n c.put_decimal-end.new.out c.put_decimal-end.result c.ranges.n.fits
    c.put_decimal-end.ensures.value c.put_decimal-end.ensures.out_after in
    let e = put_length number in
    let h = number.ends in
    let g = c.requires in
    omega arith

pub overflow_add-result : goal.overflow_add-result
overflow_add-result c =
    let number = put_number c.args.out.now c.args.at c.args.n c.put_decimal-end.new.out c.put_decimal-end.result c.ranges.n.fits
    c.put_decimal-end.ensures.value c.put_decimal-end.ensures.out_after in
    let h = number.ends in
    let g = c.requires in
    omega (arith, c.well_formed.1.1.0.0)

pub returns : goal.returns
returns c =
    let number = put_number c.args.out.now c.args.at c.args.n c.put_decimal-end.new.out c.put_decimal-end.result c.ranges.n.fits
    c.put_decimal-end.ensures.value c.put_decimal-end.ensures.out_after in
    put_then number (put_byte c.put_decimal-end.new.out c.put_decimal-end.result c.args.mark)
