-- `file_parts::put_two` meets its contract: one run of bytes after another. Assumes nothing.
use borrow.Author.Rules.{rules}
use Rattle.number.specs.Numbers.{spell}
use Rattle.file_parts.proofs.Laying.{put_of, put_then, room_first, room_then}
use Rattle.file_parts.proofs.put_two.Goals as goal

pub put_number-next-requires : goal.put_number-next-requires
put_number-next-requires c =
    let s = c in
    record {
      n_lt_numbers_end = s.requires.a_lt_numbers_end;
      n_in_bounds = room_first s.args.out.now s.args.at (spell s.args.a) (spell s.args.b) s.requires.b_in_bounds;
    }

pub put_number-requires : goal.put_number-requires
put_number-requires c =
    let s = c in
    let f = c.put_number-next in record {
      n_lt_numbers_end = s.requires.b_lt_numbers_end;
      n_in_bounds = room_then s.args.out.now s.args.at (spell s.args.a) (spell s.args.b)
          (put_of (spell s.args.a) f.ensures.value f.ensures.out_after) s.requires.b_in_bounds;
    }

pub returns : goal.returns
returns c =
    let f = c.put_number-next in
    let g = c.put_number in
    let s = c in
    let a = spell s.args.a in
    let b = spell s.args.b in
    put_then a b (put_of a f.ensures.value f.ensures.out_after) (put_of b g.ensures.value g.ensures.out_after)
