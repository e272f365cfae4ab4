-- `put_bends` meets its contract: a bend more at each turn. Assumes nothing.
use borrow.Author.Rules.{rules}
use Prim.Native.Nat.{◌≤◌, ◌-◌}
use mathlib.Core.Path.{◌≡◌, refl}
use native.Mathlib.Omega.{arith}
use lib.ListN.{length}
use Rattle.door.proofs.Fronts.{Bends, bends_turn, bends_all}
use Rattle.door.proofs.put_bends.Goals as goal

pub loop-i-init : goal.loop-i-init
loop-i-init c = (omega arith, record { first = c.requires.0; second = c.requires.1; front = refl })

pub loop-i-preserved : goal.loop-i-preserved
loop-i-preserved c =
    let l = c.loop-i in
    let w = c.put_bend.ensures in
    (omega arith, bends_turn c.args.bends 2048 (search rules) l.i l.bx l.by l.invariant.1 _ _ _ _ (omega arith) refl w.bx_after w.by_after)

pub returns : goal.returns
returns c =
    let l = c.loop-i in
    bends_all c.args.bends 2048 (search rules) l.i l.bx l.by l.invariant.1 (omega arith)
