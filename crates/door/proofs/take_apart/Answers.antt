-- `take_apart` meets its contract. Assumes nothing.
use borrow.Author.Rules.{rules}
use Rattle.door.proofs.Rows.{apart_held, apart_normal}
use Rattle.door.proofs.take_apart.Goals as goal

pub returns-clause-apart : goal.returns-clause-apart
returns-clause-apart c =
    let w = c in
    let s = w in
    let d = s.args.d in
    let r = w.put_cells.ensures.all_rows in
    let xs = c.put_bends.new.bx in
    let ys = c.put_bends.new.by in
    record { held = apart_held d _ xs ys r c.put_bends.ensures; rows = apart_normal d _ xs ys r }
