-- `place` meets its contract. Assumes nothing.
use borrow.Author.Rules.{rules}
use Prim.Native.Nat.{◌≤◌}
use native.Mathlib.Omega.{arith}
use lib.ListN.{take}
use lib.Seq.{length-take-le}
use Rattle.store.proofs.Rows.{row_le}
use Rattle.rows_links.proofs.place.Goals as goal

-- the row is one of those in use, or the next
few : (c : goal.After-find-row) → c.find-row.result ≤ 256
few c =
    let a = c.args in
    let p = c.requires.id_rows in
    let f = p.few in
    let l = length-take-le a.n a.ids.now (omega (arith, p.size)) in
    omega (arith, c.find-row.ensures, row_le a.e (take a.n a.ids.now))

pub find-row-requires : goal.find-row-requires
find-row-requires c = let p = c.requires.id_rows in record {
  n_bound = p.few;
  ids_len = p.size;
  rising = p.rising;
}

pub overflow_cast-result : goal.overflow_cast-result
overflow_cast-result c = record { fits = omega (arith, few c) }

pub overflow_mul-result : goal.overflow_mul-result
overflow_mul-result c = record { fits = omega (arith, few c) }

pub overflow_add-result : goal.overflow_add-result
overflow_add-result c = record { fits = omega (arith, few c) }
