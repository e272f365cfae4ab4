-- Every kind of command gives a rebuild of the drawing: cells go, cells change, cells come. Assumes nothing.
use Prim.Native.Nat.{ℕ}
use mathlib.Core.Path.{sym, subst}
use mathlib.Core.Bool.{Bool}
use mathlib.Core.List.{List}
use Rattle.complex.specs.Cells.{Figure, Sheet}
use Rattle.complex.specs.Edits.{rebuild}
use Rattle.complex.specs.Decode.{Command}
use Rattle.complex.specs.Commands.{result}
use Rattle.complex.proofs.Plan.{plan, result_built}

pub data Rebuilt (s : Sheet) : Sheet → Type 0 where
  rebuilt : (p : ℕ → Bool) (f : ℕ → Figure → Figure) (new : List Figure) → Rebuilt s (rebuild p f new s)

pub result_rebuilt : (s : Sheet) (c : Command) → Rebuilt s (result s c)
result_rebuilt s c = let p = plan s c in subst (Rebuilt s) (sym (result_built s c)) (rebuilt p.stays p.change p.new)
