-- `part` meets its contract. Assumes nothing.
use borrow.Author.Rules.{rules}
use Prim.Native.Nat.{◌≤◌, ◌-◌}
use mathlib.Core.Path.{◌≡◌}
use native.Mathlib.Omega.{arith}
use Rattle.rows_pieces.specs.Ways.{Owns}
use Rattle.rows_pieces.proofs.Ways.{owns_turn}
use Rattle.rows_pieces.proofs.part.Goals as goal

pub loop-i-init : goal.loop-i-init
loop-i-init c = (omega arith, record { size = c.requires.up_len; own = λ r h. absurd (omega arith) })

pub overflow_cast-up : goal.overflow_cast-up
overflow_cast-up c = let s = c in omega (arith, s.requires.n_le_cells_most)

pub bounds-up-i : goal.bounds-up-i
bounds-up-i c = let at = c in omega (arith, at.requires.n_le_cells_most, at.loop-i.invariant.1.size)

pub loop-i-preserved : goal.loop-i-preserved
loop-i-preserved c =
    let at = c in
    (omega arith, owns_turn at.loop-i.up at.loop-i.i at.loop-i.invariant.1 (omega (arith, at.requires.n_le_cells_most)) _ (omega arith))

pub returns : goal.returns
returns c =
    let at = c in
    let e : at.loop-i.i ≡ at.args.n = omega arith in
    rw e at at.loop-i.invariant.1
