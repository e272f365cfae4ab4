-- `lent_sums::sums` meets its contract. Assumes nothing.
use borrow.Author.Rules.{rules}
use Rattle.lent.specs.Arrays.{Arrays, of_lists}
use Rattle.lent_sums.proofs.Ready.{readied, sums_ask}
use Rattle.lent_sums.proofs.sums.Goals as goal

abbrev arrays : goal.After-totals → Arrays
arrays c =
    let a = c.args in
    of_lists a.view.now.next a.view.now.count a.view.now.ids.now a.view.now.kinds.now a.view.now.starts.now a.view.now.ends.now a.view.now.bends.now a.view.now.counts.now a.view.now.px.now a.view.now.py.now a.view.now.cycles.now a.view.now.steps.now a.view.now.bx.now a.view.now.by.now

abbrev arrays_2 : goal.After-known → Arrays
arrays_2 c =
    let a = c.args in
    of_lists a.view.now.next a.view.now.count a.view.now.ids.now a.view.now.kinds.now a.view.now.starts.now a.view.now.ends.now a.view.now.bends.now a.view.now.counts.now a.view.now.px.now a.view.now.py.now a.view.now.cycles.now a.view.now.steps.now a.view.now.bx.now a.view.now.by.now

pub totals-requires : goal.totals-requires
totals-requires c = sums_ask (arrays_2 c) c.requires c.known.ensures

pub returns : goal.returns
returns c =
    let k = c in
    let s = k in
    readied (arrays s) s.requires k.known.ensures c.totals.result c.totals.ensures
