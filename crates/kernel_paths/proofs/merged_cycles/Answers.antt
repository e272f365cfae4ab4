-- `merged_cycles` meets its contract. Assumes nothing.
use borrow.Author.Rules.{rules}
use Rattle.kernel_paths.proofs.Becoming.{merged_puts, merged_others, merged_done}
use Rattle.kernel_paths.proofs.merged_cycles.Goals as goal

pub copy_around-u-requires : goal.copy_around-u-requires
copy_around-u-requires c =
    let b = c in
    let a = b in
    let g = a.requires in
    merged_puts g.merging a.following-a.ensures b.following-b.ensures g.room_for

pub copy_others-requires : goal.copy_others-requires
copy_others-requires c =
    let x = c in
    let b = x in
    let a = b in
    let g = a.requires in
    merged_others g.merging a.following-a.ensures b.following-b.ensures g.room_for x.copy_around-u.ensures
    x.copy_around-u.auto.numbers x.copy_around-u.auto.places

pub returns : goal.returns
returns c =
    let x = c in
    let b = x in
    let a = b in
    let g = a.requires in
    merged_done g.merging a.following-a.ensures b.following-b.ensures g.room_for x.copy_around-u.ensures
    c.copy_others.ensures
