-- `entry_told::put_line` meets its contract: five stores. Assumes nothing.
use Prim.Native.Nat.{ℕ, suc, ◌+◌}
use native.Mathlib.Omega.{arith}
use borrow.Author.Rules.{rules}
use mathlib.Core.Path.{◌≡◌}
use lib.ListN.{length-set}
use Rattle.entry_told.proofs.Going.{five_stored}
use Rattle.entry_told.proofs.put_line.Goals as goal

pub bounds-lines-at-2 : goal.bounds-lines-at-2
bounds-lines-at-2 c = simp length-set (omega arith)

pub bounds-lines-at-3 : goal.bounds-lines-at-3
bounds-lines-at-3 c = simp length-set (omega arith)

pub bounds-lines-at-4 : goal.bounds-lines-at-4
bounds-lines-at-4 c = simp length-set (omega arith)

pub bounds-lines-at-5 : goal.bounds-lines-at-5
bounds-lines-at-5 c = simp length-set (omega arith)

pub returns : goal.returns
returns c = let a = c.args in five_stored a.lines.now a.at a.number a.first a.new a.removed a.left
