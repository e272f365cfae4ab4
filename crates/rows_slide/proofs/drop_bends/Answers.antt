-- `drop_bends` meets its contract. Assumes nothing.
use borrow.Author.Rules.{rules}
use Prim.Native.Nat.{◌≤◌, ◌-◌}
use native.Mathlib.Omega.{arith}
use mathlib.Core.Path.{◌≡◌}
use lib.ListN.{take}
use Rattle.rows_slide.proofs.Runs.{Places, Turned, none_gone, stretch_turn, stretch_end}
use Rattle.rows_slide.proofs.drop_bends.Goals as goal

pub loop-i-init : goal.loop-i-init
loop-i-init c = (omega arith, none_gone 0 _ _ _, none_gone 0 _ _ _)

-- what the stretch that was found gives, in each array
pub overflow_add-from : goal.overflow_add-from
overflow_add-from c =
    let a = c.args in
    let p = c.requires in
    let l = c.loop-i in
    let x = stretch_turn a.dead.now a.counts.now a.n p.n_le_cells_most p.dead_len.0 p.dead_len.1 a.bx.now _ p.counts_bound p.dead_len.2 l.i l.at l.to l.bx l.invariant.1
    c.next_stretch-s.result c.next_stretch-s.ensures in
    omega (arith, x.within, p.counts_bound)

pub slide-requires : goal.slide-requires
slide-requires c =
    let a = c.args in
    let p = c.requires in
    let l = c.loop-i in
    let x = stretch_turn a.dead.now a.counts.now a.n p.n_le_cells_most p.dead_len.0 p.dead_len.1 a.bx.now _ p.counts_bound p.dead_len.2 l.i l.at l.to l.bx l.invariant.1
    c.next_stretch-s.result c.next_stretch-s.ensures in
    record {
      to_le_from = omega (arith, x.below);
      n_in_bounds = omega (arith, x.within, p.counts_bound, p.dead_len.2, l.invariant.1.packing.size);
    }

pub slide-requires-in-loop-i : goal.slide-requires-in-loop-i
slide-requires-in-loop-i c =
    let a = c.args in
    let p = c.requires in
    let l = c.loop-i in
    let x = stretch_turn a.dead.now a.counts.now a.n p.n_le_cells_most p.dead_len.0 p.dead_len.1 a.bx.now _ p.counts_bound p.dead_len.2 l.i l.at l.to l.bx l.invariant.1
    c.next_stretch-s.result c.next_stretch-s.ensures in
    record {
      to_le_from = omega (arith, x.below);
      n_in_bounds = omega (arith, x.within, p.counts_bound, p.dead_len.3, l.invariant.2.packing.size);
    }

pub overflow_add-at : goal.overflow_add-at
overflow_add-at c =
    let a = c.args in
    let p = c.requires in
    let l = c.loop-i in
    let x = stretch_turn a.dead.now a.counts.now a.n p.n_le_cells_most p.dead_len.0 p.dead_len.1 a.bx.now _ p.counts_bound p.dead_len.2 l.i l.at l.to l.bx l.invariant.1
    c.next_stretch-s.result c.next_stretch-s.ensures in
    omega (arith, x.within, p.counts_bound)

pub overflow_add-to : goal.overflow_add-to
overflow_add-to c =
    let a = c.args in
    let p = c.requires in
    let l = c.loop-i in
    let x = stretch_turn a.dead.now a.counts.now a.n p.n_le_cells_most p.dead_len.0 p.dead_len.1 a.bx.now _ p.counts_bound p.dead_len.2 l.i l.at l.to l.bx l.invariant.1
    c.next_stretch-s.result c.next_stretch-s.ensures in
    omega (arith, x.below, x.within, p.counts_bound)

pub loop-i-smaller : goal.loop-i-smaller
loop-i-smaller c = let q = c.next_stretch-s.ensures in omega (arith, q.more, q.living.within)

pub loop-i-preserved : goal.loop-i-preserved
loop-i-preserved c =
    let a = c.args in
    let p = c.requires in
    let l = c.loop-i in
    let x = stretch_turn a.dead.now a.counts.now a.n p.n_le_cells_most p.dead_len.0 p.dead_len.1 a.bx.now _ p.counts_bound p.dead_len.2 l.i l.at l.to l.bx l.invariant.1
    c.next_stretch-s.result c.next_stretch-s.ensures in
    let y = stretch_turn a.dead.now a.counts.now a.n p.n_le_cells_most p.dead_len.0 p.dead_len.1 a.by.now _ p.counts_bound p.dead_len.3 l.i l.at l.to l.by l.invariant.2
    c.next_stretch-s.result c.next_stretch-s.ensures in
    (c.next_stretch-s.ensures.living.within, x.again _ c.slide.ensures, y.again _ c.slide-in-loop-i.ensures)

pub returns : goal.returns
returns c =
    let v = c.loop-i.invariant in
    let p = c.requires in
    let l = p.dead_len in
    let e : c.loop-i.i ≡ c.args.n = omega (arith, v.0) in
    record {
      xs = stretch_end _ _ _ p.n_le_cells_most l.0 l.1 _ _ p.counts_bound l.2 _ _ _ _ e v.1;
      ys = stretch_end _ _ _ p.n_le_cells_most l.0 l.1 _ _ p.counts_bound l.3 _ _ _ _ e v.2;
    }
