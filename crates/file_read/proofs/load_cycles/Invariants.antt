-- `file_read::load_cycles` meets its contract. The loop's invariant: i cycles were read and put into the arrays. Assumes nothing.
use Prim.Native.Nat.{◌-◌, ◌≤◌}
use borrow.Author.Rules.{rules}
use native.Mathlib.Omega.{arith}
use mathlib.Core.Path.{refl, subst, ◌∙◌}
use lib.ListN.{drop}
use Rattle.number.specs.Readers.{times}
use Rattle.complex.specs.Decode.{read_cycle}
use Rattle.file_read.specs.Filling.{CyclesLoaded}
use Rattle.file_read.proofs.Loading.{Loading, loading_start, too_many, loading_sizes, loading_turn, loading_over, loading_end}
use Rattle.file_read.proofs.load_cycles.Given as goal

abbrev pub invariant-loop-i : goal.invariant-loop-i
invariant-loop-i l = (l.i ≤ l.n) × Loading l.s l.at l.n l.initial.cycles l.initial.steps l.initial.u l.i l.p l.cycles l.steps l.u
