-- `printing::put_last` meets its contract. Assumes nothing.
use native.Mathlib.Omega.{arith}
use borrow.Author.Rules.{rules}
use mir.Syntax.{w32}
use mir.Val.{SFits}
use Rattle.lent.specs.Sheets.{seen}
use Rattle.text.proofs.Puts.{put_as}
use Rattle.printing.proofs.Last.{cells_few, last_text_lem, last_few}
use Rattle.printing.proofs.put_last.Goals as goal

pub euler-e-requires : goal.euler-e-requires
euler-e-requires c = c.requires.t

pub overflow_cast-view : goal.overflow_cast-view
overflow_cast-view c =
    let a = seen c.args.view.now in
    let h = cells_few a c.requires.t c.known.ensures in
    omega arith

pub put_end-requires : goal.put_end-requires
put_end-requires c =
    let a = seen c.args.view.now in
    let f : SFits w32 c.euler-e.result = search rules in
    let h = last_few a c.requires.t c.known.ensures c.euler-e.result f in
    let g = c.requires in
    omega arith

pub returns : goal.returns
returns c =
    let a = seen c.args.view.now in
    put_as c.put_end.ensures (last_text_lem a c.requires.t c.known.ensures c.euler-e.result (search rules) c.euler-e.ensures)
