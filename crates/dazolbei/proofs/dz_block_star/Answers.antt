-- `dazolbei::dz_block_star` meets its contract: the star, its count a u32. Assumes nothing.
use native.Mathlib.Omega.{arith}
use mathlib.Core.Path.{ap}
use Rattle.complex.specs.Calls.{Filled}
use Rattle.lent.specs.Arrays.{of_lists}
use Rattle.entry_files.proofs.Counts.{star_on_few}
use Rattle.dazolbei.proofs.dz_block_star.Goals as goal

pub overflow_cast-found : goal.overflow_cast-found
overflow_cast-found c =
    let a = c.args in
    let e = ap (λ (x : Filled). x.count) c.star-s.ensures in
    let h = star_on_few (of_lists a.next a.count a.ids.now a.kinds.now a.starts.now a.ends.now a.bends.now a.counts.now a.px.now a.py.now a.cycles.now a.steps.now a.bx.now a.by.now) a.id a.buffer.now in
    record { fits = omega arith }

pub returns : goal.returns
returns c = c.star-s.ensures
