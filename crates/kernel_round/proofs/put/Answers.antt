-- `put` meets its contract. Assumes nothing.
use borrow.Author.Rules.{rules}
use native.Mathlib.Omega.{arith}
use lib.ListN.{drop, length-drop}
use Rattle.kernel_round.proofs.Parting.{put_is}
use Rattle.kernel_round.proofs.put.Goals as goal

pub returns : goal.returns
returns c =
    let k = c in
    let x = k in
    let s = x in
    let a = s.args in
    let p = s.requires in
    put_is a.l.now _ a.s a.new.now a.n (drop a.n a.new.now) a.m _ x.splice.auto.l x.splice.ensures
    (omega (arith, p.m_in_bounds, length-drop a.n a.new.now)) p.m_in_bounds_2 k.copy_run.ensures.out_after
