-- `file_write::put_vertex` meets its contract. Assumes nothing.
use borrow.Author.Rules.{rules}
use Prim.Native.Nat.{ℕ, ◌+◌}
use mathlib.Core.Path.{◌≡◌, ap, sym, ◌∙◌}
use native.Mathlib.Omega.{arith}
use lib.ListN.{length}
use Rattle.number.specs.Numbers.{spell}
use Rattle.coordinate.specs.Positions.{position_bytes}
use Rattle.coordinate.proofs.Laws.{sixteen_bytes}
use Rattle.file_parts.proofs.Laying.{put_of, room_head, room_tail, put_tail}
use Rattle.file_write.proofs.put_vertex.Goals as goal

pub put_two-at-requires : goal.put_two-at-requires
put_two-at-requires c =
    let s = c in
    record {
      a_lt_numbers_end = s.requires.id_lt_numbers_end;
      b_lt_numbers_end = omega arith;
      b_in_bounds = room_head s.args.out.now (spell s.args.id) (spell 0) (position_bytes s.args.p) s.requires.p_in_bounds;
    }

pub put_position-requires : goal.put_position-requires
put_position-requires c =
    let s = c in
    let p = position_bytes s.args.p in
    let z = sixteen_bytes s.args.p in
    let r = room_tail s.args.out.now (spell s.args.id) (spell 0) p s.requires.p_in_bounds c.put_two-at.ensures in
    record {
      t = s.requires.t;
      at_in_bounds = omega arith;
    }

pub returns : goal.returns
returns c =
    let s = c in
    let p = position_bytes s.args.p in
    let f = c.put_two-at in
    let g = c.put_position in
    let z : 16 ≡ length p = sym (sixteen_bytes s.args.p) in
    put_tail s.args.out.now (spell s.args.id) (spell 0) p s.requires.p_in_bounds f.ensures
    (put_of p (g.ensures.0 ∙ ap (λ (m : ℕ). f.result + m) z) g.ensures.1)
