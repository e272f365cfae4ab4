-- `new_id` meets its contract. Assumes nothing.
use borrow.Author.Rules.{rules}
use Prim.Native.Nat.{◌≤◌}
use native.Mathlib.Omega.{arith}
use Rattle.kernel_renumber.proofs.Places.{id_small}
use Rattle.kernel_renumber.proofs.new_id.Goals as goal

-- a row is one of those in use, or the next
few : (c : goal.After-row_of-row) → c.row_of-row.result ≤ 256
few c =
    let s = c in
    let a = s.args in
    omega (arith, c.row_of-row.ensures, id_small a.n a.table.now a.ids.now s.requires a.i)

pub overflow_add-result : goal.overflow_add-result
overflow_add-result c = record { fits = omega (arith, few c) }

pub overflow_cast-result : goal.overflow_cast-result
overflow_cast-result c = record { fits = omega (arith, few c) }
