-- `tie_cycles` meets its contract. Assumes nothing.
use Prim.Native.Nat.{◌-◌, ◌≤◌}
use lib.ListN.{take, drop, get_or}
use Rattle.call_pieces.proofs.Tying.{Tying}
use Rattle.call_pieces.proofs.tie_cycles.Given as goal

abbrev pub invariant-loop-j : goal.invariant-loop-j
invariant-loop-j l =
    (l.j ≤ l.k) × Tying (take l.n l.ids) l.initial.up l.left (get_or l.ids l.row 0) (drop l.first l.cycles) l.steps l.from l.j l.up l.rest l.at
