-- `path_uses` meets its contract: both directions together. Assumes nothing.
use borrow.Author.Rules.{rules}
use mathlib.Core.Path.{ap₂, ◌∙◌}
use Prim.Native.Nat.{◌+◌}
use native.Mathlib.Omega.{arith}
use Rattle.store.specs.View.{cycle_of}
use Rattle.rows_sides.proofs.Counting.{cycle_both}
use Rattle.rows_uses.specs.declared.Use.TheVariants.{Step}
use Rattle.rows_uses.proofs.Runs.{uses_few}
use Rattle.rows_uses.proofs.path_uses.Goals as goal

pub overflow_add-result : goal.overflow_add-result
overflow_add-result c =
    let r = c.path_sides-x.ensures in
    let s = c in
    let a = s.args in
    record { fits = omega (arith, r.forward_value, r.backward_value, cycle_both a.i (cycle_of a.c a.l.now), uses_few Step a.i a.c a.l.now, s.requires) }

pub returns : goal.returns
returns c =
    let r = c.path_sides-x.ensures in
    let a = c.args in
    ap₂ ◌+◌ r.forward_value r.backward_value ∙ cycle_both a.i (cycle_of a.c a.l.now)
