-- `put_bends` meets its contract. Assumes nothing.
use Prim.Native.Nat.{ℕ, ◌<◌, ◌+◌, ◌*◌, ◌%◌}
use mathlib.Core.Path.{◌≡◌, sym, ap, ◌∙◌}
use native.Mathlib.Omega.{arith}
use native.Mathlib.Nat.{mod-lt, zero-mod}
use lib.ListN.{length, length-set}
use lib.Seq.{paste-zero}
use Rattle.rows_new.specs.Runs.{run_at}
use Rattle.rows_new.specs.Copies.{repeated}
use Rattle.rows_new.proofs.CopyLists.{some_place}
use Rattle.lent.specs.Arrays.{positions_in}
use Rattle.kernel_copies.proofs.Coming.{round_next, bend_put}
use Rattle.kernel_copies.proofs.put_bends.Goals as goal

-- the place is within the run
place : (n k i j : ℕ) → j < n * k → i ≡ j % k → i < k
place n k i j h e = let m = mod-lt j (some_place n k j h) in omega arith

pub overflow_mul-t : goal.overflow_mul-t
overflow_mul-t c = record { fits = omega (arith, c.requires.k_bound_2) }

pub loop-j-init : goal.loop-j-init
loop-j-init c =
    let a = c.args in (
      omega arith,
      sym (zero-mod a.k),
      c.requires.bx_len.0,
      c.requires.bx_len.1,
      paste-zero (positions_in a.bx.now a.by.now) a.base (repeated a.n
          (run_at a.first a.k (positions_in a.bx.now a.by.now))),
    )

pub overflow_add-first : goal.overflow_add-first
overflow_add-first c = let t = c in omega (arith, place t.args.n t.args.k t.loop-j.i t.loop-j.j t.loop-j-test.true t.loop-j.invariant.1, t.requires.k_bound, t.requires.k_bound_2)

pub bend_at-p-requires : goal.bend_at-p-requires
bend_at-p-requires c = let t = c in omega (arith, place t.args.n t.args.k t.loop-j.i t.loop-j.j t.loop-j-test.true t.loop-j.invariant.1, t.requires.k_bound, t.requires.k_bound_2)

pub overflow_add-base : goal.overflow_add-base
overflow_add-base c = let t = c in omega (arith, t.loop-j-test.true, t.requires.k_bound_2)

pub put_bend-requires : goal.put_bend-requires
put_bend-requires c = let t = c in omega (arith, t.loop-j-test.true, t.requires.k_bound_2)

pub around-i-requires : goal.around-i-requires
around-i-requires c = place c.args.n c.args.k c.loop-j.i c.loop-j.j c.loop-j-test.true c.loop-j.invariant.1

pub loop-j-preserved : goal.loop-j-preserved
loop-j-preserved c =
    let w = c.put_bend in
    let b = c.bend_at-p in
    let t = c in
    let lp = t.loop-j in
    let s = t in
    let a = s.args in
    let v = lp.invariant in
    let q = place t.args.n t.args.k t.loop-j.i t.loop-j.j t.loop-j-test.true t.loop-j.invariant.1 in (
      omega (arith, t.loop-j-test.true),
      round_next lp.j lp.i a.k c.around-i.result v.1 c.around-i.ensures,
      ap length w.ensures.bx_after ∙ length-set lp.bx (a.base + lp.j) b.result.x ∙ v.2,
      ap length w.ensures.by_after ∙ length-set lp.by (a.base + lp.j) b.result.y ∙ v.3,
      bend_put a.bx.now a.by.now lp.bx lp.by w.new.bx w.new.by a.base a.n a.first a.k lp.i lp.j b.result s.requires.bx_len.0
          s.requires.bx_len.1 v.2 v.3 v.4 v.1 s.requires.k_bound s.requires.k_bound_2
          t.loop-j-test.true (omega (arith, q, s.requires.k_bound, s.requires.k_bound_2)) b.ensures w.ensures.bx_after w.ensures.by_after,
    )

pub returns : goal.returns
returns c =
    let lp = c in
    let a = lp.args in
    let e : lp.loop-j.j ≡ a.n * a.k = omega arith in
    record {
      by_after = rw e at lp.loop-j.invariant.4;
      bx_len_2 = (lp.loop-j.invariant.2, lp.loop-j.invariant.3);
    }
