-- `copy_around` meets its contract. Assumes nothing.
use borrow.Author.Rules.{rules}
use mathlib.Core.Path.{refl, ◌∙◌}
use Rattle.kernel_paths.proofs.Around.{inside, around_first, around_path, around_last, around_built}
use Rattle.kernel_paths.proofs.copy_around.Goals as goal

pub about-t-requires : goal.about-t-requires
about-t-requires c = inside c.requires.lies

pub copy_cycles-w-requires : goal.copy_cycles-w-requires
copy_cycles-w-requires c =
    let t = c in
    let g = t.requires in
    around_first g.lies t.about-t.ensures g refl refl

pub push_path-x-requires : goal.push_path-x-requires
push_path-x-requires c =
    let x = c in
    let t = x in
    let g = t.requires in
    around_path g.lies t.about-t.ensures g x.copy_cycles-w.ensures x.copy_cycles-w.auto.numbers x.copy_cycles-w.auto.places

pub copy_cycles-requires : goal.copy_cycles-requires
copy_cycles-requires c =
    let y = c in
    let x = y in
    let t = x in
    let g = t.requires in
    around_last g.lies t.about-t.ensures g x.copy_cycles-w.ensures y.push_path-x.ensures
    (y.push_path-x.auto.numbers ∙ x.copy_cycles-w.auto.numbers) (y.push_path-x.auto.places ∙ x.copy_cycles-w.auto.places)

pub returns : goal.returns
returns c =
    let y = c in
    let x = y in
    let t = x in
    let g = t.requires in
    around_built g.lies t.about-t.ensures g x.copy_cycles-w.ensures y.push_path-x.ensures c.copy_cycles.ensures
