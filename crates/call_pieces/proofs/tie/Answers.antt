-- `tie` meets its contract. Assumes nothing.
use Prim.Native.Nat.{◌<◌}
use native.Mathlib.Omega.{arith}
use Rattle.call_pieces.proofs.Tying.{tie_size, tie_leads, tie_row, tie_enough, tie_grown}
use Rattle.call_pieces.proofs.tie.Goals as goal

-- the other row is there
other_in : (r : goal.After-join-arg-1) → r.row_of-other.result < r.args.n
other_in r =
    let s = r in
    let a = s.args in
    omega (
      arith,
      r.row_of-other.ensures,
      tie_row a.n a.table.now a.ids.now a.up.now s.requires.finds a.left s.requires.some a.id s.requires.t,
    )

pub row_of-other-requires : goal.row_of-other-requires
row_of-other-requires c = c.requires.finds.table

pub join-requires : goal.join-requires
join-requires c =
    let r = c in
    let s = r in
    let a = s.args in
    let o = other_in r in
    let p = s.requires.finds in
    let leads = tie_leads a.n a.table.now a.ids.now a.up.now p a.left s.requires.some in record {
      up_len = tie_size a.n a.table.now a.ids.now a.up.now p a.left s.requires.some;
      x_lt_cells_most = (omega (arith, s.requires.row_lt_n, p.table.few), omega (arith, o, p.table.few));
      leads = (leads a.row s.requires.row_lt_n, leads r.row_of-other.result o);
    }

pub overflow_sub-result : goal.overflow_sub-result
overflow_sub-result c =
    let r = c in
    let s = r in
    let a = s.args in
    tie_enough a.n a.table.now a.ids.now a.up.now s.requires.finds a.left s.requires.some a.row s.requires.row_lt_n a.id s.requires.t _ _
    r.row_of-other.ensures _ c.join.ensures

pub returns : goal.returns
returns c =
    let r = c in
    let s = r in
    let a = s.args in
    tie_grown a.n a.table.now a.ids.now a.up.now s.requires.finds a.left s.requires.some a.row s.requires.row_lt_n a.id s.requires.t _ _
    r.row_of-other.ensures _ c.join.ensures
