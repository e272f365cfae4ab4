-- `top` meets its contract. Assumes nothing.
use borrow.Author.Rules.{rules}
use Prim.Native.Nat.{◌<◌}
use mathlib.Core.Path.{◌≡◌, refl}
use native.Mathlib.Omega.{arith}
use Rattle.rows_pieces.specs.Ways.{above}
use Rattle.rows_pieces.proofs.Ways.{Climbing, climb_start, climb_below, climb_turn, climb_end}
use Rattle.rows_pieces.proofs.top.Goals as goal

pub loop-a-init : goal.loop-a-init
loop-a-init c = (climb_start _ _ c.requires.up_len, c.row_in-a.ensures)

pub bounds-up-a : goal.bounds-up-a
bounds-up-a c = let at = c in omega (arith, at.loop-a.invariant.0, at.requires.row_lt_cells_most)

pub bounds-up-r-in-loop-a : goal.bounds-up-r-in-loop-a
bounds-up-r-in-loop-a c = let at = c in omega (arith, at.loop-a.invariant.0, at.requires.row_lt_cells_most)

-- where the row above leads is below the row
pub bounds-up-r-in-loop-a-2 : goal.bounds-up-r-in-loop-a-2
bounds-up-r-in-loop-a-2 c =
    let a = c.args in
    let l = c.loop-a in
    let b = climb_below a.row a.up.now l.r l.up l.invariant.0 c.requires.leads c.requires.row_lt_cells_most l.a (omega (arith, l.invariant.0)) in
    omega (arith, c.row_in-r.ensures, b, l.invariant.0, c.requires.row_lt_cells_most)

pub loop-a-smaller : goal.loop-a-smaller
loop-a-smaller c =
    let a = c.args in
    let l = c.loop-a in
    let b = climb_below a.row a.up.now l.r l.up l.invariant.0 c.requires.leads c.requires.row_lt_cells_most l.a (omega (arith, l.invariant.0)) in
    omega (arith, c.row_in-r.ensures, b)

pub loop-a-preserved : goal.loop-a-preserved
loop-a-preserved c =
    let at = c in
    let s = at in
    let e = c.row_in-r.ensures in
    let turn = climb_turn s.args.row s.args.up.now at.loop-a.r at.loop-a.up at.loop-a.invariant.0 s.requires.leads s.requires.row_lt_cells_most at.loop-a.a _
    at.loop-a.invariant.1 refl (omega arith) in
    (rw e turn, c.row_in-a-in-loop-a.ensures)

pub returns : goal.returns
returns c =
    let at = c in
    let s = at in
    climb_end s.args.row s.args.up.now at.loop-a.r at.loop-a.up at.loop-a.invariant.0 s.requires.leads s.requires.row_lt_cells_most at.loop-a.a at.loop-a.invariant.1
    (λ l. omega arith)
