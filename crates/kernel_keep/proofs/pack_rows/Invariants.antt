-- `pack_rows` meets its contract: every array is packed alike. Assumes nothing.
use Prim.Native.Nat.{◌-◌, ◌≤◌}
use mathlib.Core.Path.{◌≡◌}
use Rattle.store.proofs.Lists.{Packing}
use Rattle.lent.specs.Sheets.{arrays, Same}
use Rattle.kernel_keep.proofs.pack_rows.Given as goal

abbrev pub invariant-loop-i : goal.invariant-loop-i
invariant-loop-i l =
    let a = arrays l.initial.sheet in
    let b = arrays l.sheet in
    record {
      in_bounds : l.i ≤ l.n;
      ids : Packing l.dead a.ids l.i l.k b.ids;
      kinds : Packing l.dead a.kinds l.i l.k b.kinds;
      starts : Packing l.dead a.starts l.i l.k b.starts;
      ends : Packing l.dead a.ends l.i l.k b.ends;
      bends : Packing l.dead a.bends l.i l.k b.bends;
      counts : Packing l.dead a.counts l.i l.k b.counts;
      px : Packing l.dead a.px l.i l.k b.px;
      py : Packing l.dead a.py l.i l.k b.py;
      same : Same l.initial.sheet l.sheet;
      kept : b ≡ record b { next = a.next; count = a.count; cycles = a.cycles; steps = a.steps; bx = a.bx; by = a.by };
    }

abbrev pub decreases-loop-i : goal.decreases-loop-i
decreases-loop-i l = l.n - l.i
