-- `cells_of` meets its contract: a cell more at each turn. Assumes nothing.
use mathlib.Core.Path.{◌≡◌, refl, sym, ◌∙◌}
use native.Mathlib.Omega.{arith}
use lib.ListN.{length, length-set}
use Rattle.lent.specs.Arrays.{held_by}
use Rattle.lent.specs.Sheets.{seen}
use Rattle.lent.proofs.Held.{cells_length}
use Rattle.call_cells.specs.Rows.{past_cell}
use Rattle.door.proofs.Fronts.{front_turn, front_all}
use Rattle.door.proofs.cells_of.Goals as goal

pub loop-i-init : goal.loop-i-init
loop-i-init c = (omega arith, refl, refl)

pub loop-i-preserved : goal.loop-i-preserved
loop-i-preserved c =
    let t = c in
    let lp = t.loop-i in
    let s = t in
    let a = s.args in
    let l = (held_by (seen a.view.now)).cells in
    let h : length l ≡ length a.view.now.ids.now = cells_length _ a.view.now.ids.now in
    let k = t.loop-i-test.true in (
      omega (arith, k),
      length-set lp.out _ _ ∙ lp.invariant.1,
      front_turn l lp.out lp.i _ past_cell
          (omega (arith, h, k, s.requires)) (omega (arith, lp.invariant.1, k)) c.cell_at-c.ensures lp.invariant.2,
    )

pub returns : goal.returns
returns c =
    let lp = c.loop-i in
    let s = c in
    let a = s.args in
    let e : lp.i ≡ 256 = omega (arith, c.loop-i-test.false, lp.invariant.0) in
    let l = (held_by (seen a.view.now)).cells in
    front_all l lp.out lp.i (cells_length _ a.view.now.ids.now ∙ s.requires ∙ sym e) (lp.invariant.1 ∙ sym e) lp.invariant.2
