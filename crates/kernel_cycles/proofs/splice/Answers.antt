-- `splice` meets its contract. Assumes nothing.
use borrow.Author.Rules.{rules}
use Rattle.kernel_cycles.proofs.Moving.{moved_spliced}
use Rattle.kernel_cycles.proofs.splice.Goals as goal

pub returns : goal.returns
returns c =
    let y = c in
    let x = y in
    let st = x in
    let a = st.args in
    let p = st.requires in
    moved_spliced a.l.now a.new.now _ _ a.s a.n p.rest_in_bounds p.n_in_bounds p.rest_in_bounds_2 x.shift.ensures y.copy_run.ensures.out_after
