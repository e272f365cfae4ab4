-- `ring_uses` meets its contract. Assumes nothing.
use borrow.Author.Rules.{rules}
use Rattle.store.specs.View.{cycle_of}
use Rattle.rows_uses.proofs.Runs.{ring_unused, ring_used}
use Rattle.rows_uses.proofs.ring_uses.Goals as goal

pub returns-then-n-eq0 : goal.returns-then-n-eq0
returns-then-n-eq0 c = let a = c.args in
    ring_unused a.i c.path_uses-n.result (cycle_of a.c a.l.now) c.path_uses-n.ensures c.if-n-eq0.true

pub returns : goal.returns
returns c = let a = c.args in
    ring_used a.i c.path_uses-n.result (cycle_of a.c a.l.now) c.path_uses-n.ensures c.if-n-eq0.false
