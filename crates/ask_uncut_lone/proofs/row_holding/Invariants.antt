-- `row_holding` meets its contract. The loop keeps: a row left holds the cycle. Assumes nothing.
use Prim.Native.Nat.{◌-◌}
use Rattle.ask_uncut_lone.proofs.Search.{Passing}
use Rattle.ask_uncut_lone.proofs.row_holding.Given as goal

abbrev pub invariant-loop-i : goal.invariant-loop-i
invariant-loop-i l = Passing l.counts l.n l.j l.place l.i
