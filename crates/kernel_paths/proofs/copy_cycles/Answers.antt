-- `copy_cycles` meets its contract. Assumes nothing.
use borrow.Author.Rules.{rules}
use Rattle.kernel_paths.proofs.Runs.{run_built}
use Rattle.kernel_paths.proofs.copy_cycles.Goals as goal

pub returns : goal.returns
returns c =
    let x = c in
    let r = x.copy_run-c.ensures in
    let s = c.copy_run-s.ensures in
    run_built x.requires _ _ _ _ r.value r.out_after s.value s.out_after
