-- `put_bends` meets its contract. The loop's invariant: the first i bends stand. Assumes nothing.
use borrow.Author.Rules.{rules}
use Prim.Native.Nat.{ℕ, ◌≤◌, ◌-◌}
use native.Mathlib.Omega.{arith}
use mathlib.Core.Path.{◌≡◌, sym, ◌∙◌, subst}
use Rattle.bends.specs.Bends.{positions_at}
use Rattle.bends.proofs.Laws.{positions_length}
use Rattle.rows_new.proofs.Bends.{positions_get}
use Rattle.kernel_add.specs.Comes.{BendsPut}
use Rattle.kernel_add.proofs.Put.{put_none, put_more}
use Rattle.kernel_add.proofs.put_bends.Given as goal

abbrev pub invariant-loop-i : goal.invariant-loop-i
invariant-loop-i l = (l.i ≤ l.n) × BendsPut l.initial.bx l.initial.by l.at (positions_at l.script l.first l.k) l.i l.bx l.by
