-- `row_holding` meets its contract. The loop keeps: a row left holds the cycle. Assumes nothing.
use native.Mathlib.Omega.{arith}
use Rattle.ask_uncut_lone.proofs.Search.{passing_start, passing_found, passing_turn, passing_end}
use Rattle.ask_uncut_lone.proofs.row_holding.Goals as goal

pub loop-i-init : goal.loop-i-init
loop-i-init c = let a = c.args in passing_start a.counts.now a.n a.j

pub returns-then-place-k : goal.returns-then-place-k
returns-then-place-k c =
    passing_found c.args.counts.now c.args.n c.args.j (omega arith) c.loop-i.place c.loop-i.i (omega arith) c.loop-i.invariant _
    c.wide-k.ensures c.if-place-k.true

pub loop-i-preserved : goal.loop-i-preserved
loop-i-preserved c =
    passing_turn c.args.counts.now c.args.n c.args.j (omega arith) c.loop-i.place c.loop-i.i (omega arith) c.loop-i.invariant _
    c.wide-k.ensures (λ g. omega arith)

pub returns : goal.returns
returns c = passing_end c.args.counts.now c.args.n c.args.j (omega arith) c.loop-i.place c.loop-i.i (omega arith) c.loop-i.invariant
