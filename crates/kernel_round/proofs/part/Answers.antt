-- `part` meets its contract: small lists are taken where they have room; lists as large as the drawing's have room. Assumes nothing.
use borrow.Author.Rules.{rules}
use Rattle.kernel_round.proofs.Parting.{none_read, small_fit, large_fit}
use Rattle.kernel_round.proofs.part.Goals as goal

pub returns-then-moved-eq0 : goal.returns-then-moved-eq0
returns-then-moved-eq0 c =
    let y = c in
    let x = y in
    let i = x in
    let s = i in
    let a = s.args in
    none_read a.cycles.now a.steps.now a.s a.script.now a.moved a.place a.e s.requires i.if-moved-eq0.true _ _ x.put.ensures
    y.put-then-moved-eq0.ensures

pub part_in-requires : goal.part_in-requires
part_in-requires c =
    let i = c in
    let s = i in
    let a = s.args in
    let g = small_fit a.cycles.now a.steps.now a.s a.script.now a.moved a.place a.e s.requires i.if-s-lt63.true in
    record {
      round_parting = s.requires;
      fit = g;
    }

pub part_in-requires-2 : goal.part_in-requires-2
part_in-requires-2 c =
    let s = c in
    let a = s.args in
    let g = large_fit a.cycles.now a.steps.now a.s a.script.now a.moved a.place a.e s.requires in
    record {
      round_parting = s.requires;
      fit = g;
    }
