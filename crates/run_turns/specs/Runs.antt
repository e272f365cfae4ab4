-- The run over bytes from any drawing. Definitions only.
use Rattle.std.specs.Prelude.{ℕ, List, length}
use Rattle.complex.specs.Cells.{Sheet}
use Rattle.complex.specs.Answer.{command, rest}
use Rattle.complex.specs.Program.{Run, ran}

-- the run over the bytes from the drawing s
unfoldable pub run_from : Sheet → List ℕ → Run
unfolding command rest
run_from s bytes = ran (length bytes) s bytes
