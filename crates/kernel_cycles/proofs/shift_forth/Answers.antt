-- `shift_forth` meets its contract. Assumes nothing.
use borrow.Author.Rules.{rules}
use Prim.Native.Nat.{◌-◌}
use mathlib.Core.Path.{◌≡◌}
use native.Mathlib.Omega.{arith}
use Rattle.kernel_cycles.proofs.Moving.{GoingForth, forth_start, forth_turn, forth_end}
use Rattle.kernel_cycles.proofs.shift_forth.Goals as goal

pub loop-i-init : goal.loop-i-init
loop-i-init c = forth_start _ _ _ _

pub loop-i-preserved : goal.loop-i-preserved
loop-i-preserved c =
    let at = c in
    let st = at in
    let a = st.args in
    forth_turn a.l.now a.from a.n a.to at.loop-i.i at.loop-i.l st.requires.to_le_from st.requires.n_in_bounds (omega arith) at.loop-i.invariant

pub shape_of-l : goal.shape_of-l
shape_of-l c = c.loop-i.invariant.size

pub returns : goal.returns
returns c =
    let at = c in
    let st = at in
    let p = at.loop-i.invariant in
    let l = p.le in
    let e : at.loop-i.i ≡ st.args.n = omega arith in
    forth_end _ _ _ _ _ st.requires.to_le_from st.requires.n_in_bounds (rw e at at.loop-i.invariant)
