-- `turns_at` meets its contract. Assumes nothing.
use mathlib.Core.Path.{sym, ◌∙◌}
use borrow.Author.Rules.{rules}
use Rattle.complex.specs.Uses.{passage}
use Rattle.store.specs.View.{halfedge_of}
use Rattle.sound.specs.Rows.{rows_of}
use Rattle.ask_uncut_turns.proofs.Turning.{turns_then, turns_not}
use Rattle.ask_uncut_turns.proofs.turns_at.Goals as goal

pub returns-then-turns_back : goal.returns-then-turns_back
returns-then-turns_back c =
    let a = c.args in
    c.leaves.ensures
    ∙ turns_then (rows_of a.n a.ids.now a.kinds.now a.starts.now a.ends.now) a.whole a.v
    (passage (halfedge_of a.h) (halfedge_of a.k)) (sym c.turns_back.ensures ∙ c.if-turns_back.true)

pub returns : goal.returns
returns c =
    let a = c.args in
    turns_not (rows_of a.n a.ids.now a.kinds.now a.starts.now a.ends.now) a.whole a.v
    (passage (halfedge_of a.h) (halfedge_of a.k)) (sym c.turns_back.ensures ∙ c.if-turns_back.false)
