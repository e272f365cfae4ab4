-- `dazolbei::dz_block_write` meets its contract: the file, its count a u32. Assumes nothing.
use native.Mathlib.Omega.{arith}
use mathlib.Core.Path.{ap}
use Rattle.complex.specs.Calls.{Filled}
use Rattle.entry_files.proofs.Counts.{write_on_few}
use Rattle.dazolbei.proofs.dz_block_write.Goals as goal

pub overflow_cast-bytes : goal.overflow_cast-bytes
overflow_cast-bytes c =
    let e = ap (λ (x : Filled). x.count) c.write-w.ensures in
    let h = write_on_few _ c.known.ensures c.args.buffer.now in
    record { fits = omega arith }

pub returns : goal.returns
returns c = c.write-w.ensures
