-- `ringed_cycles` meets its contract. Assumes nothing.
use borrow.Author.Rules.{rules}
use mathlib.Core.Path.{refl}
use Rattle.kernel_paths.proofs.Becoming.{ringed_first, ringed_second, ringed_done}
use Rattle.kernel_paths.proofs.ringed_cycles.Goals as goal

pub copy_others-u-requires : goal.copy_others-u-requires
copy_others-u-requires c = let g = c.requires in ringed_first g.ringing g.room_for refl refl

pub copy_others-requires : goal.copy_others-requires
copy_others-requires c =
    let x = c in
    let g = x.requires in
    ringed_second g.ringing g.room_for x.copy_others-u.ensures x.copy_others-u.auto.numbers x.copy_others-u.auto.places

pub returns : goal.returns
returns c =
    let x = c in
    let g = x.requires in
    ringed_done g.ringing g.room_for x.copy_others-u.ensures c.copy_others.ensures
