-- `number_rows` meets its contract. Assumes nothing.
use borrow.Author.Rules.{rules}
use Prim.Native.Nat.{◌-◌, ◌≤◌}
use native.Mathlib.Omega.{arith}
use mathlib.Core.Path.{◌≡◌}
use Rattle.kernel_renumber.specs.Renumbers.{RowsNumbered}
use Rattle.kernel_renumber.proofs.Rows.{numbering_start, numbering_turn}
use Rattle.kernel_renumber.proofs.number_rows.Goals as goal

pub loop-i-init : goal.loop-i-init
loop-i-init c = (omega arith, numbering_start c.args.ids.now)

pub loop-i-preserved : goal.loop-i-preserved
loop-i-preserved c =
    let at = c in
    let s = at in
    (omega arith, numbering_turn s.args.ids.now at.loop-i.i at.loop-i.ids _ at.loop-i.invariant.1 (omega (arith, s.requires.n_le_cells_most, s.requires.ids_len)) (omega arith))

pub returns : goal.returns
returns c =
    let at = c in
    let e : at.loop-i.i ≡ at.args.n = omega arith in
    rw e at at.loop-i.invariant.1
