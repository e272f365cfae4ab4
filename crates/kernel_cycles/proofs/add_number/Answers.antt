-- `add_number` meets its contract. Assumes nothing.
use borrow.Author.Rules.{rules}
use Rattle.kernel_cycles.proofs.Moving.{moved_one}
use Rattle.kernel_cycles.proofs.add_number.Goals as goal

pub returns : goal.returns
returns c =
    let x = c in
    let st = x in
    let a = st.args in
    moved_one a.l.now a.s a.x _ st.requires x.shift_back.ensures
