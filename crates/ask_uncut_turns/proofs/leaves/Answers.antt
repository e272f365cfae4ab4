-- `leaves` meets its contract: the row of its edge, or none. Assumes nothing.
use borrow.Author.Rules.{rules}
use mathlib.Core.Path.{◌∙◌}
use Rattle.std.proofs.Common.{length-take-le}
use native.Mathlib.Omega.{arith}
use Rattle.sound.specs.Rows.{rows_of}
use Rattle.ask_uncut_turns.proofs.Turning.{leaves_row, leaves_none}
use Rattle.ask_uncut_turns.proofs.leaves.Goals as goal

pub returns-then-row-n : goal.returns-then-row-n
returns-then-row-n c =
    let a = c.args in
    c.goes_on.ensures ∙ leaves_row (rows_of a.n a.ids.now a.kinds.now a.starts.now a.ends.now) a.v a.s _ c.find-row.ensures

pub returns : goal.returns
returns c =
    let a = c.args in
    let l = length-take-le a.n a.kinds.now (omega arith) in
    leaves_none (rows_of a.n a.ids.now a.kinds.now a.starts.now a.ends.now) a.v a.s _ c.find-row.ensures (omega arith)
