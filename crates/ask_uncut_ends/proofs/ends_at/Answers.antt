-- `ends_at` meets its contract. The loop keeps: the ends of the rows left are to be added. Assumes nothing.
use Prim.Native.Nat.{◌+◌}
use mathlib.Core.Path.{◌≡◌, ◌∙◌}
use native.Mathlib.Omega.{arith}
use lib.ListN.{take, get_or}
use mathlib.Core.List.{foldl}
use Rattle.ask_uncut_ends.specs.declared.Ends.{Ends}
use Rattle.ask_uncut_ends.specs.Ends.{row_ends, one_end, ends_in}
use Rattle.ask_uncut_ends.proofs.Finding.{row_open, row_none, Ending, ending_start, ending_turn, ending_end, folded}
use Rattle.ask_uncut_ends.proofs.ends_at.Goals as goal
use Rattle.ask_uncut_ends.proofs.ends_at.Goals.{then-kinds-i-eq1, else-kinds-i-eq1}

pub loop-i-init : goal.loop-i-init
loop-i-init c = let a = c.args in (omega arith, ending_start a.v a.n a.ids.now a.kinds.now a.starts.now a.ends.now)

pub edge_ends-x-requires : goal.edge_ends-x-requires
edge_ends-x-requires c = omega (arith, c.loop-i.invariant.1.few, c.loop-i-test.true, c.requires.few)

pub loop-i-preserved : goal.loop-i-preserved
loop-i-preserved c =
    let a = c.args in
    let p = c.requires in
    let i = c.loop-i.i in
    let x = c.loop-i.x in
    let on : (y : Ends) → y
    ≡ foldl one_end x (row_ends a.v (get_or a.ids.now i 0) (get_or a.kinds.now i 0) (get_or a.starts.now i 0) (get_or a.ends.now i 0))
    → Ending a.v a.n a.ids.now a.kinds.now a.starts.now a.ends.now y (i + 1) =
    λ y.
    ending_turn a.v a.n a.ids.now a.kinds.now a.starts.now a.ends.now (omega (arith, p.few, p.ids)) (omega (arith, p.few, p.kinds))
    (omega (arith, p.few, p.starts)) (omega (arith, p.few, p.ends)) x y i c.loop-i-test.true c.loop-i.invariant.1 in (
      omega (arith, c.loop-i-test.true),
      elim c.if-kinds-i-eq1.branch [
        | then-kinds-i-eq1 w ↦ rw w.x-is (on _ (row_open x a.v _ _ _ _ w.if-kinds-i-eq1.true _ w.edge_ends-x.ensures))
        | else-kinds-i-eq1 w ↦ rw w.x-is (on _ (row_none x a.v _ _ _ _ w.if-kinds-i-eq1.false))
      ],
    )

pub returns : goal.returns
returns c =
    let a = c.args in
    let p = c.requires in
    ending_end a.v a.n a.ids.now a.kinds.now a.starts.now a.ends.now (omega (arith, p.few, p.ids)) (omega (arith, p.few, p.kinds))
    (omega (arith, p.few, p.starts)) (omega (arith, p.few, p.ends))
    c.loop-i.x c.loop-i.i (omega arith) c.loop-i.invariant.1
    ∙ folded (ends_in a.v (take a.n a.ids.now) (take a.n a.kinds.now) (take a.n a.starts.now) (take a.n a.ends.now))
