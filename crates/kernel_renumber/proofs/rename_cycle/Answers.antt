-- `rename_cycle` meets its contract. Assumes nothing.
use borrow.Author.Rules.{rules}
use Prim.Native.Nat.{◌-◌, ◌≤◌}
use native.Mathlib.Omega.{arith}
use mathlib.Core.Path.{◌≡◌}
use mathlib.Core.List.{map}
use lib.ListN.{take, drop}
use Rattle.rows_steps.specs.Swap.{Wrote}
use Rattle.rows_steps.proofs.Writing.{wrote_none}
use Rattle.kernel_renumber.specs.Renumbers.{new_id, new_place}
use Rattle.kernel_renumber.proofs.Places.{wrote_more}
use Rattle.kernel_renumber.proofs.rename_cycle.Goals as goal

pub loop-j-init : goal.loop-j-init
loop-j-init c = (omega arith, wrote_none c.args.steps.now c.args.at)

pub loop-j-preserved : goal.loop-j-preserved
loop-j-preserved c =
    let at = c in
    let s = at in
    let a = s.args in
    let f = new_place (new_id (take a.n a.ids.now)) a.lone in
    let w = at.loop-j.invariant.1 in
    (omega arith, wrote_more f a.steps.now a.at a.k at.loop-j.j at.loop-j.steps s.requires.k_in_bounds (omega arith) w _ c.new_place.ensures)

pub returns : goal.returns
returns c =
    let at = c in
    let e : at.loop-j.j ≡ at.args.k = omega arith in
    rw e at at.loop-j.invariant.1
