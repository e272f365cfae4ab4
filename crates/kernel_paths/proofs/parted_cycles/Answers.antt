-- `parted_cycles` meets its contract. Assumes nothing.
use borrow.Author.Rules.{rules}
use Rattle.rows_stretches.proofs.Lists.{here_asks, there_asks}
use Rattle.kernel_paths.proofs.Becoming.{parted_puts, parted_path, parted_done}
use Rattle.kernel_paths.proofs.parted_cycles.Goals as goal

pub up_to-a-requires : goal.up_to-a-requires
up_to-a-requires c = let whole = here_asks c.requires.parting in record {
  count_bound = whole.0;
  s_lt_count = whole.1.0;
  t_lt_count = whole.1.1;
}

pub copy_around-u-requires : goal.copy_around-u-requires
copy_around-u-requires c =
    let a = c in
    let g = a.requires in
    parted_puts g.parting a.up_to-a.ensures g.room_for

pub up_to-b-requires : goal.up_to-b-requires
up_to-b-requires c = let whole = there_asks c.requires.parting in record {
  count_bound = whole.0;
  s_lt_count = whole.1.0;
  t_lt_count = whole.1.1;
}

pub push_path-requires : goal.push_path-requires
push_path-requires c =
    let b = c in
    let x = b in
    let a = x in
    let g = a.requires in
    parted_path g.parting a.up_to-a.ensures g.room_for x.copy_around-u.ensures b.up_to-b.ensures
    x.copy_around-u.auto.numbers x.copy_around-u.auto.places

pub returns : goal.returns
returns c =
    let b = c in
    let x = b in
    let a = x in
    let g = a.requires in
    parted_done g.parting a.up_to-a.ensures g.room_for x.copy_around-u.ensures b.up_to-b.ensures c.push_path.ensures
