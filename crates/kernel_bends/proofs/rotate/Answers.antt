-- `rotate` meets its contract. Assumes nothing.
use mathlib.Core.Path.{sym}
use native.Mathlib.Omega.{arith}
use Rattle.kernel_bends.proofs.Turning.{three, rotated_none, rotated_all}
use borrow.Author.Rules.{rules}
use Rattle.kernel_bends.proofs.rotate.Goals as goal

pub returns-then-from-mid : goal.returns-then-from-mid
returns-then-from-mid c =
    let s = c in
    sym (rotated_none s.args.from s.args.mid s.args.to s.args.l.now (sym c.if-from-mid.true) (omega (arith, s.requires.from_le_mid, s.requires.mid_le_to)))

pub returns-then-mid-to : goal.returns-then-mid-to
returns-then-mid-to c =
    let s = c in
    sym (rotated_all s.args.from s.args.mid s.args.to s.args.l.now c.if-mid-to.true (omega (arith, s.requires.from_le_mid, s.requires.mid_le_to)))

pub returns : goal.returns
returns c =
    let r3 = c in
    let r2 = r3 in
    let r1 = r2 in
    let s = r1 in
    three s.args.l.now r1.reverse.new.l r2.reverse-2.new.l r3.reverse-3.new.l s.args.from s.args.mid s.args.to s.requires.from_le_mid
    s.requires.mid_le_to s.requires.to_in_bounds
    r1.reverse.ensures r2.reverse-2.ensures r3.reverse-3.ensures
