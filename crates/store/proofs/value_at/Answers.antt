-- `value_at` meets its contract. Assumes nothing.
use borrow.Author.Rules.{rules}
use Prim.Native.Nat.{◌-◌}
use native.Mathlib.Omega.{arith}
use Rattle.store.proofs.Rows.{value_found, value_none}
use Rattle.store.proofs.value_at.Goals as goal

pub returns-then-row-n : goal.returns-then-row-n
returns-then-row-n c =
    let f = c in
    let a = f.args in
    value_found a.ids.now a.values.now a.n _ a.id a.z (omega arith) f.find-row.ensures 0 (omega arith)

pub returns : goal.returns
returns c =
    let f = c in
    let a = f.args in
    value_none a.ids.now a.values.now a.n _ a.id a.z (omega arith) f.find-row.ensures (omega arith)
