-- `file_write::put_closed` meets its contract. Assumes nothing.
use borrow.Author.Rules.{rules}
use Prim.Native.Nat.{ℕ}
use mathlib.Core.List.{List}
use native.Mathlib.Omega.{arith}
use Rattle.number.specs.Numbers.{spell}
use Rattle.bends.specs.Bends.{bend_bytes}
use Rattle.file_parts.specs.Parts.{run_of, positions_from}
use Rattle.file_parts.proofs.Laying.{room_head, room_tail, put_tail}
use Rattle.file_write.proofs.put_closed.Goals as goal

abbrev list : goal.After-slice_known-3-1 → List ℕ
list c = bend_bytes (run_of c.args.from c.args.n (positions_from c.args.xs.now c.args.ys.now))

abbrev list_2 : goal.After-put_bends-arg-1 → List ℕ
list_2 c = bend_bytes (run_of c.args.from c.args.n (positions_from c.args.xs.now c.args.ys.now))

abbrev list_3 : goal.After-put_two-arg-1 → List ℕ
list_3 c = bend_bytes (run_of c.args.from c.args.n (positions_from c.args.xs.now c.args.ys.now))

pub put_two-at-requires : goal.put_two-at-requires
put_two-at-requires c =
    let s = c in
    record {
      a_lt_numbers_end = s.requires.id_lt_numbers_end;
      b_lt_numbers_end = omega arith;
      b_in_bounds = room_head s.args.out.now (spell s.args.id) (spell 2) (list_3 s) s.requires.ys_in_bounds;
    }

pub put_bends-requires : goal.put_bends-requires
put_bends-requires c =
    let s = c in
    record {
      bends = s.requires.bends;
      ys_in_bounds = room_tail s.args.out.now (spell s.args.id) (spell 2) (list_2 s) s.requires.ys_in_bounds c.put_two-at.ensures;
    }

pub returns : goal.returns
returns c =
    let s = c in
    put_tail s.args.out.now (spell s.args.id) (spell 2) (list s) s.requires.ys_in_bounds
    c.put_two-at.ensures c.put_bends.ensures
