-- `file_write::put_open` meets its contract. Assumes nothing.
use borrow.Author.Rules.{rules}
use Prim.Native.Nat.{ℕ, ◌+◌, ◌≤◌}
use mathlib.Core.Path.{◌≡◌, ap, ◌∙◌}
use mathlib.Core.List.{List, ◌++◌, append_assoc}
use native.Mathlib.Omega.{arith}
use lib.ListN.{length}
use Rattle.number.specs.Numbers.{spell}
use Rattle.coordinate.specs.declared.Position.{Position}
use Rattle.bends.specs.Bends.{bend_bytes}
use Rattle.complex.specs.Cells.{open_edge}
use Rattle.complex.specs.File.{cell_bytes}
use Rattle.file_parts.specs.Parts.{run_of, positions_from}
use Rattle.file_parts.proofs.Laying.{put_then, put_as, room_first, room_then}
use Rattle.file_write.proofs.put_open.Goals as goal

module _ (id a b : ℕ) (bs : List Position) where
  -- the id and the kind
  abbrev head : List ℕ
  head = spell id ++ spell 1

  abbrev ends : List ℕ
  ends = spell a ++ spell b

  bytes : head ++ (ends ++ bend_bytes bs) ≡ cell_bytes (record { id = id; figure = open_edge a b bs })
  bytes =
      append_assoc (spell id) (spell 1) (ends ++ bend_bytes bs)
      ∙ ap (λ (l : List ℕ). spell id ++ (spell 1 ++ l)) (append_assoc (spell a) (spell b) (bend_bytes bs))

  room : (out : List ℕ) → length (cell_bytes (record { id = id; figure = open_edge a b bs })) ≤ length out
      → 0 + length (head ++ (ends ++ bend_bytes bs)) ≤ length out
  room out h = let e = ap length bytes in omega arith

pub put_two-at-requires : goal.put_two-at-requires
put_two-at-requires c =
    let a = c.args in
    let bs = run_of a.from a.n (positions_from a.xs.now a.ys.now) in
    record {
      a_lt_numbers_end = c.requires.id_lt_numbers_end.0;
      b_lt_numbers_end = omega arith;
      b_in_bounds = room_first a.out.now 0 (head a.id a.a a.b bs) (ends a.id a.a a.b bs ++ bend_bytes bs)
          (room a.id a.a a.b bs a.out.now c.requires.ys_in_bounds);
    }

pub put_two-next-requires : goal.put_two-next-requires
put_two-next-requires c =
    let a = c.args in
    let bs = run_of a.from a.n (positions_from a.xs.now a.ys.now) in
    let f = c.put_two-at in record {
      a_lt_numbers_end = c.requires.id_lt_numbers_end.1;
      b_lt_numbers_end = c.requires.id_lt_numbers_end.2;
      b_in_bounds = room_first f.new.out f.result (ends a.id a.a a.b bs) (bend_bytes bs)
          (room_then a.out.now 0 (head a.id a.a a.b bs) (ends a.id a.a a.b bs ++ bend_bytes bs) f.ensures
          (room a.id a.a a.b bs a.out.now c.requires.ys_in_bounds));
    }

pub put_bends-requires : goal.put_bends-requires
put_bends-requires c =
    let a = c.args in
    let bs = run_of a.from a.n (positions_from a.xs.now a.ys.now) in
    let f = c.put_two-at in
    let g = c.put_two-next in record {
      bends = c.requires.bends;
      ys_in_bounds = room_then f.new.out f.result (ends a.id a.a a.b bs) (bend_bytes bs) g.ensures
          (room_then a.out.now 0 (head a.id a.a a.b bs) (ends a.id a.a a.b bs ++ bend_bytes bs) f.ensures
          (room a.id a.a a.b bs a.out.now c.requires.ys_in_bounds));
    }

pub returns : goal.returns
returns c =
    let a = c.args in
    let bs = run_of a.from a.n (positions_from a.xs.now a.ys.now) in
    let f = c.put_two-at in
    let g = c.put_two-next in
    let h = c.put_bends in
    put_as (bytes a.id a.a a.b bs) (put_then (head a.id a.a a.b bs) (ends a.id a.a a.b bs ++ bend_bytes bs) f.ensures
    (put_then (ends a.id a.a a.b bs) (bend_bytes bs) g.ensures h.ensures))
