-- `file_parts::put_bends` meets its contract: a count, then the positions. Assumes nothing.
use borrow.Author.Rules.{rules}
use Prim.Native.Nat.{ℕ, ◌+◌, ◌≤◌}
use mathlib.Core.Path.{◌≡◌, sym, subst}
use mathlib.Core.List.{List, ◌++◌}
use native.Mathlib.Omega.{arith}
use lib.Ieee.{Float}
use lib.ListN.{length}
use Rattle.number.specs.Readers.{spread}
use Rattle.number.specs.Numbers.{spell}
use Rattle.coordinate.specs.Positions.{position_bytes}
use Rattle.bends.specs.Bends.{bend_bytes}
use Rattle.file_parts.specs.Parts.{run_of, positions_from, Bends}
use Rattle.file_parts.proofs.Laying.{put_of, put_then, put_as, room_first, room_then, bends_bytes}
use Rattle.file_parts.proofs.put_bends.Goals as goal

-- the positions' bytes, and room for them after their count
abbrev points : List Float → List Float → ℕ → ℕ → List ℕ
points xs ys from n = spread position_bytes (run_of from n (positions_from xs ys))

module _ (xs ys : List Float) (from n : ℕ) (h : Bends xs ys from n) where
  bytes : bend_bytes (run_of from n (positions_from xs ys)) ≡ spell n ++ points xs ys from n
  bytes = bends_bytes xs ys from n h

  room : (at : ℕ) (out : List ℕ) → at + length (bend_bytes (run_of from n (positions_from xs ys))) ≤ length out
      → at + length (spell n ++ points xs ys from n) ≤ length out
  room at out r = subst (λ (l : List ℕ). at + length l ≤ length out) bytes r

pub put_number-next-requires : goal.put_number-next-requires
put_number-next-requires c =
    let s = c in
    let b = s.requires.bends.room in
    record {
      n_lt_numbers_end = omega arith;
      n_in_bounds = room_first s.args.out.now s.args.at (spell s.args.n) (points s.args.xs.now s.args.ys.now s.args.from s.args.n) (room s.args.xs.now s.args.ys.now s.args.from s.args.n s.requires.bends s.args.at s.args.out.now s.requires.ys_in_bounds);
    }

pub put_positions-requires : goal.put_positions-requires
put_positions-requires c =
    let s = c in
    let f = c.put_number-next in
    let a = spell s.args.n in
    record {
      bends = s.requires.bends;
      ys_in_bounds = room_then s.args.out.now s.args.at a (points s.args.xs.now s.args.ys.now s.args.from s.args.n) (put_of a f.ensures.value f.ensures.out_after) (room s.args.xs.now s.args.ys.now s.args.from s.args.n s.requires.bends s.args.at s.args.out.now s.requires.ys_in_bounds);
    }

pub returns : goal.returns
returns c =
    let s = c in
    let f = c.put_number-next in
    let a = spell s.args.n in
    put_as (sym (bytes s.args.xs.now s.args.ys.now s.args.from s.args.n s.requires.bends)) (put_then a (points s.args.xs.now s.args.ys.now s.args.from s.args.n) (put_of a f.ensures.value f.ensures.out_after) c.put_positions.ensures)
