-- `find` meets its contract. Assumes nothing.
use mathlib.Core.Path.{◌≡◌, ap, sym, ◌∙◌}
use native.Mathlib.Omega.{arith}
use lib.ListN.{length, take}
use lib.Seq.{length-take-le}
use Rattle.std.specs.Result.{result_unwrap_or}
use Rattle.store.proofs.Rows.{row_searched}
use Rattle.store.proofs.find.Goals as goal

pub returns : goal.returns
returns c =
    let ids = take c.args.n c.args.ids.now in
    let z : length ids ≡ c.args.n = length-take-le c.args.n c.args.ids.now (omega arith) in
    c.unwrap_or.ensures
    ∙ ap (result_unwrap_or c.binary_search.result) (sym z)
    ∙ row_searched c.args.id ids c.binary_search.result c.requires.rising c.binary_search.ensures.position
