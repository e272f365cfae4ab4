-- `bends_of` meets its contract: a bend more at each turn. Assumes nothing.
use borrow.Author.Rules.{rules}
use Prim.Native.Nat.{◌≤◌, ◌-◌}
use mathlib.Core.Path.{◌≡◌, refl, sym, ◌∙◌}
use native.Mathlib.Omega.{arith}
use lib.Ieee.{nan}
use lib.ListN.{length, take, length-set}
use Rattle.coordinate.specs.declared.Position.{Position}
use Rattle.lent.specs.Arrays.{positions_in}
use Rattle.lent.proofs.Held.{positions_length, positions_at_lem}
use Rattle.door.proofs.Fronts.{front_turn, front_all}
use Rattle.door.proofs.bends_of.Goals as goal

pub loop-i-init : goal.loop-i-init
loop-i-init c = (omega arith, refl, refl)

pub loop-i-preserved : goal.loop-i-preserved
loop-i-preserved c =
    let t = c in
    let lp = t.loop-i in
    let s = t in
    let xs = s.args.bx.now in
    let ys = s.args.by.now in
    let z : Position = record { x = nan; y = nan } in
    let h = positions_length xs ys (s.requires.0 ∙ sym s.requires.1) in
    let k = t.loop-i-test.true in (
      omega (arith, k),
      length-set lp.out _ _ ∙ lp.invariant.1,
      front_turn (positions_in xs ys) lp.out lp.i _ z (omega (arith, h, k, s.requires.0)) (omega (arith, lp.invariant.1, k))
          (c.bend_at-p.ensures ∙ sym (positions_at_lem xs ys lp.i z (omega (arith, s.requires.0, k)) (omega (arith, s.requires.1, k)))) lp.invariant.2,
    )

pub returns : goal.returns
returns c =
    let lp = c.loop-i in
    let s = c in
    let xs = s.args.bx.now in
    let ys = s.args.by.now in
    let e : lp.i ≡ 2048 = omega (arith, c.loop-i-test.false, lp.invariant.0) in
    front_all (positions_in xs ys) lp.out lp.i (positions_length xs ys (s.requires.0 ∙ sym s.requires.1) ∙ s.requires.0 ∙ sym e) (lp.invariant.1 ∙ sym e) lp.invariant.2
