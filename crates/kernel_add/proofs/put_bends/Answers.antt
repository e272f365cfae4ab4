-- `put_bends` meets its contract. The loop's invariant: the first i bends stand. Assumes nothing.
use borrow.Author.Rules.{rules}
use Prim.Native.Nat.{ℕ, ◌≤◌, ◌-◌}
use native.Mathlib.Omega.{arith}
use mathlib.Core.Path.{◌≡◌, sym, ◌∙◌, subst}
use Rattle.bends.specs.Bends.{positions_at}
use Rattle.bends.proofs.Laws.{positions_length}
use Rattle.rows_new.proofs.Bends.{positions_get}
use Rattle.kernel_add.specs.Comes.{BendsPut}
use Rattle.kernel_add.proofs.Put.{put_none, put_more}
use Rattle.kernel_add.proofs.put_bends.Goals as goal

pub loop-i-init : goal.loop-i-init
loop-i-init c = (omega arith, put_none _ _ _ _)

pub loop-i-preserved : goal.loop-i-preserved
loop-i-preserved c =
    let p = c in
    let test = p in
    let lp = test in
    let w = lp.wide-n.ensures in
    let st = lp in
    let a = st.args in
    let i = lp.loop-i.i in
    let h = test.loop-i-test.true in
    let m = positions_length a.script.now a.first a.k in
    let lx = st.requires.bx_len in
    let ly = st.requires in
    let room = st.requires.k_bound in (
      omega (arith, h),
      put_more _ _ a.at (positions_at a.script.now a.first a.k) i _ _ lp.loop-i.invariant.1 p.position_at-p.result p.position_at-p.result
          (lx ∙ sym ly.by_len) (omega (arith, h, w, room, lx)) (omega (arith, h, w, m))
          (p.position_at-p.ensures ∙ sym (positions_get a.script.now a.first a.k i p.position_at-p.result (omega (arith, h, w))))
          _ _ c.put_bend.ensures.bx_after c.put_bend.ensures.by_after,
    )

pub returns : goal.returns
returns c =
    let lp = c in
    let a = lp.args in
    let e : lp.loop-i.i ≡ a.k = omega (arith, lp.loop-i.invariant.0, c.loop-i-test.false, lp.wide-n.ensures) in
    subst (λ (n : ℕ). BendsPut a.bx.now a.by.now a.at (positions_at a.script.now a.first a.k) n lp.loop-i.bx lp.loop-i.by) e
    lp.loop-i.invariant.1
