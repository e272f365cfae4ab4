-- `copy_others` meets its contract. Assumes nothing.
use borrow.Author.Rules.{rules}
use Rattle.kernel_paths.proofs.Around.{inside, others_first, others_last, others_built}
use Rattle.kernel_paths.proofs.copy_others.Goals as goal

pub about-t-requires : goal.about-t-requires
about-t-requires c = inside c.requires.lies

pub copy_cycles-w-requires : goal.copy_cycles-w-requires
copy_cycles-w-requires c =
    let t = c in
    let b = t.requires in
    others_first b.lies t.about-t.ensures b

pub copy_cycles-requires : goal.copy_cycles-requires
copy_cycles-requires c =
    let x = c in
    let t = x in
    let b = t.requires in
    others_last b.lies t.about-t.ensures b x.copy_cycles-w.ensures x.copy_cycles-w.auto.numbers x.copy_cycles-w.auto.places

pub returns : goal.returns
returns c =
    let x = c in
    let t = x in
    let b = t.requires in
    others_built b.lies t.about-t.ensures b x.copy_cycles-w.ensures c.copy_cycles.ensures
