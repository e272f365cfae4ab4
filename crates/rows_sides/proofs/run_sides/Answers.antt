-- `run_sides` meets its contract. Assumes nothing.
use borrow.Author.Rules.{rules}
use Prim.Native.Nat.{ℕ, ◌≤◌, ◌-◌}
use mathlib.Core.Path.{◌≡◌, refl, ◌∙◌}
use native.Mathlib.Omega.{arith}
use lib.ListN.{take, get_or}
use Rattle.complex.specs.Lists.{total}
use Rattle.store.specs.View.{halfedge_of}
use Rattle.store.proofs.Lists.{sum_more}
use Rattle.rows_sides.specs.Sides.{forward_use, backward_use}
use Rattle.rows_sides.proofs.Counting.{total_map, forward_one, backward_one}
use Rattle.rows_sides.proofs.run_sides.Goals as goal

pub loop-j-init : goal.loop-j-init
loop-j-init c = (omega arith, refl, refl, omega arith, omega arith)

pub overflow_add-forward : goal.overflow_add-forward
overflow_add-forward c =
    let at = c in
    let a = at.args in
    record { fits = omega (arith, c.side_use-forward.ensures, forward_one a.e (halfedge_of (get_or a.l.now at.loop-j.j 0)), at.loop-j.invariant.3) }

pub overflow_add-backward : goal.overflow_add-backward
overflow_add-backward c =
    let at = c in
    let a = at.args in
    record { fits = omega (arith, c.side_use-backward.ensures, backward_one a.e (halfedge_of (get_or a.l.now at.loop-j.j 0)), at.loop-j.invariant.4) }

pub loop-j-preserved : goal.loop-j-preserved
loop-j-preserved c =
    let at = c in
    let a = at.args in
    let f = sum_more (λ (s : ℕ). forward_use a.e (halfedge_of s)) a.l.now at.loop-j.j 0 (omega arith) in
    let b = sum_more (λ (s : ℕ). backward_use a.e (halfedge_of s)) a.l.now at.loop-j.j 0 (omega arith) in
    let h = halfedge_of (get_or a.l.now at.loop-j.j 0) in
    let u = c.side_use-forward.ensures in
    let v = c.side_use-backward.ensures in (
      omega arith,
      omega (arith, f, u, at.loop-j.invariant.1),
      omega (arith, b, v, at.loop-j.invariant.2),
      omega (arith, u, forward_one a.e h, at.loop-j.invariant.3),
      omega (arith, v, backward_one a.e h, at.loop-j.invariant.4),
    )

pub returns : goal.returns
returns c =
    let at = c in
    let a = at.args in
    let e : at.loop-j.j ≡ a.n = omega arith in record {
      forward_value = rw e at at.loop-j.invariant.1 ∙ total_map (forward_use a.e) halfedge_of (take a.n a.l.now);
      backward_value = rw e at at.loop-j.invariant.2 ∙ total_map (backward_use a.e) halfedge_of (take a.n a.l.now);
    }
