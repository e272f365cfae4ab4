-- `script::put_cycles` meets its contract. The loop's invariant: what is left to load makes, from here on, what all of it makes. Assumes nothing.
use Prim.Native.Nat.{◌-◌}
use Rattle.script.proofs.Loads.{Loading}
use Rattle.script.proofs.put_cycles.Given as goal

abbrev pub invariant-loop-i : goal.invariant-loop-i
invariant-loop-i l =
    Loading l.script l.first l.count l.initial.counts l.row l.initial.steps l.place l.counts l.steps l.at (l.i-end - l.i) l.i l.used
