-- `count_steps` meets its contract: both directions together. Assumes nothing.
use borrow.Author.Rules.{rules}
use mathlib.Core.Path.{ap₂, ◌∙◌}
use Prim.Native.Nat.{◌+◌}
use native.Mathlib.Omega.{arith}
use lib.ListN.{take}
use Rattle.store.specs.View.{cycles_from}
use Rattle.rows_sides.proofs.Counting.{cycles_both, steps_few}
use Rattle.rows_uses.proofs.count_steps.Goals as goal

pub overflow_add-result : goal.overflow_add-result
overflow_add-result c =
    let r = c.count_sides-x.ensures in
    let s = c in
    let a = s.args in
    let ns = take a.n a.cycles.now in
    record { fits = omega (arith, r.forward_value, r.backward_value, cycles_both a.e (cycles_from ns a.steps.now), steps_few a.e ns a.steps.now, s.requires.cycles_in_bounds) }

pub returns : goal.returns
returns c =
    let r = c.count_sides-x.ensures in
    let a = c.args in
    ap₂ ◌+◌ r.forward_value r.backward_value ∙ cycles_both a.e (cycles_from (take a.n a.cycles.now) a.steps.now)
