-- `lent_table::row_of` meets its contract. A hinted row that has the id is its first. Assumes nothing.
use mathlib.Core.Path.{◌≡◌, ap₂, sym, ◌∙◌}
use native.Mathlib.Omega.{arith}
use lib.ListN.{length, take}
use lib.Seq.{length-take-le}
use Rattle.std.specs.Prelude.{unwrap_or}
use Rattle.lent_table.proofs.First.{hinted, searched_row}
use Rattle.lent_table.proofs.row_of.Goals as goal

pub returns-then-ids-row : goal.returns-then-ids-row
returns-then-ids-row c =
    let a = c.args in
    hinted a.n a.table.now a.ids.now c.requires a.id _ _ c.wide.ensures
    c.row_in-row.ensures (omega arith) c.if-ids-row.true

pub returns : goal.returns
returns c =
    let ids = take c.args.n c.args.ids.now in
    let p = c.requires in
    let z : length ids ≡ c.args.n = length-take-le c.args.n c.args.ids.now (omega (arith, p.few, p.ids)) in
    c.unwrap_or.ensures ∙ ap₂ unwrap_or c.search.ensures (sym z) ∙ searched_row c.args.id ids
