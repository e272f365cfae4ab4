-- `put_bends` meets its contract. Assumes nothing.
use Prim.Native.Nat.{◌≤◌, ◌%◌}
use mathlib.Core.Path.{◌≡◌}
use lib.ListN.{length}
use lib.Seq.{paste}
use Rattle.rows_new.specs.Runs.{run_at}
use Rattle.rows_new.specs.Copies.{repeated}
use Rattle.lent.specs.Arrays.{positions_in}
use Rattle.kernel_copies.proofs.put_bends.Given as goal

abbrev pub invariant-loop-j : goal.invariant-loop-j
invariant-loop-j l =
    (l.j ≤ l.t) × (l.i ≡ l.j % l.k) × (length l.bx ≡ 2048) × (length l.by ≡ 2048)
    × (positions_in l.bx l.by ≡ paste (positions_in l.initial.bx l.initial.by) l.base (repeated l.n (run_at l.first l.k (positions_in l.initial.bx l.initial.by))) l.j)
