-- `file_parts::put_positions` meets its contract. The loop's invariant: the first i positions are written. Assumes nothing.
use borrow.Author.Rules.{rules}
use Prim.Native.Nat.{ℕ, ◌+◌, ◌-◌, ◌<◌, ◌≤◌}
use mathlib.Core.Path.{◌≡◌, ap, sym, ◌∙◌, subst}
use mathlib.Core.List.{List}
use native.Mathlib.Omega.{arith}
use lib.Dec.{T}
use lib.Ieee.{Float, nan}
use lib.ListN.{length, take, get_or}
use Rattle.number.specs.Readers.{spread}
use Rattle.coordinate.specs.declared.Position.{Position}
use Rattle.coordinate.specs.Bounds.{within}
use Rattle.coordinate.specs.Positions.{position_bytes}
use Rattle.coordinate.proofs.Laws.{sixteen_bytes}
use Rattle.complex.specs.Cells.{origin}
use Rattle.file_parts.specs.Parts.{BytesPut, run_of, positions_from, Bends}
use Rattle.file_parts.proofs.Laying.{put_of, put_none, put_size, put_turn, put_room, put_all, all_get, bends_size, bend_at}
use Rattle.file_parts.proofs.put_positions.Goals as goal

-- the positions to write, and the i-th of them
abbrev points : List Float → List Float → ℕ → ℕ → List Position
points xs ys from n = run_of from n (positions_from xs ys)

abbrev point : List Float → List Float → ℕ → Position
point xs ys k = record { x = get_or xs k nan; y = get_or ys k nan }

module _ (xs ys : List Float) (from n : ℕ) (b : Bends xs ys from n) (i : ℕ) (h : i < n) where
  point_is : get_or (points xs ys from n) i origin ≡ point xs ys (from + i)
  point_is = bend_at xs ys from n b i h

  inside : i < length (points xs ys from n)
  inside = let k = bends_size xs ys from n b in omega arith

pub loop-i-init : goal.loop-i-init
loop-i-init c = (omega arith, put_none _ _)

pub put_position-place-requires : goal.put_position-place-requires
put_position-place-requires c =
    let w = c in
    let l = w.loop-i in
    let s = w in
    let next = point s.args.xs.now s.args.ys.now (s.args.from + l.i) in
    let z = sixteen_bytes next in
    let r = put_room position_bytes (points s.args.xs.now s.args.ys.now s.args.from s.args.n) s.args.out.now l.out s.args.at l.place l.i (inside s.args.xs.now s.args.ys.now s.args.from s.args.n s.requires.bends l.i w.loop-i-test.true) l.invariant.1 origin
    (position_bytes next) (ap position_bytes (point_is s.args.xs.now s.args.ys.now s.args.from s.args.n s.requires.bends l.i w.loop-i-test.true)) s.requires.ys_in_bounds in
    record {
      t = subst (λ (q : Position). T (within q)) (point_is s.args.xs.now s.args.ys.now s.args.from s.args.n s.requires.bends l.i w.loop-i-test.true) (all_get within (points s.args.xs.now s.args.ys.now s.args.from s.args.n) l.i origin s.requires.bends.bounds (inside s.args.xs.now s.args.ys.now s.args.from s.args.n s.requires.bends l.i w.loop-i-test.true));
      at_in_bounds = omega arith;
    }

pub loop-i-preserved : goal.loop-i-preserved
loop-i-preserved c =
    let f = c.put_position-place in
    let w = c in
    let l = w.loop-i in
    let s = w in
    let next = point s.args.xs.now s.args.ys.now (s.args.from + l.i) in
    let h = w.loop-i-test.true in
    let z : 16 ≡ length (position_bytes next) = sym (sixteen_bytes next) in (
      omega arith,
      put_turn position_bytes (points s.args.xs.now s.args.ys.now s.args.from s.args.n) s.args.out.now l.out s.args.at l.place l.i (inside s.args.xs.now s.args.ys.now s.args.from s.args.n s.requires.bends l.i w.loop-i-test.true) l.invariant.1 origin
          (position_bytes next) (ap position_bytes (point_is s.args.xs.now s.args.ys.now s.args.from s.args.n s.requires.bends l.i w.loop-i-test.true))
          (put_of (position_bytes next) (f.ensures.0 ∙ ap (λ (m : ℕ). l.place + m) z) f.ensures.1),
    )

pub shape_of-out : goal.shape_of-out
shape_of-out c = put_size c.loop-i.invariant.1

pub returns : goal.returns
returns c = let s = c in put_all position_bytes (points s.args.xs.now s.args.ys.now s.args.from s.args.n) c.loop-i.i (omega (arith, bends_size s.args.xs.now s.args.ys.now s.args.from s.args.n s.requires.bends)) c.loop-i.invariant.1
