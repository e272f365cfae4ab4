-- `totals` meets its contract: three sums. Assumes nothing.
use borrow.Author.Rules.{rules}
use native.Mathlib.Omega.{arith}
use Rattle.lent.proofs.totals.Goals as goal

pub place_sum-s-requires : goal.place_sum-s-requires
place_sum-s-requires c =
    let at = c in
    let e = c.place_sum-c.ensures in
    let s = at.requires.cycle_sum in
    let z = at.requires.cycle_room in
    record {
      n_in_bounds = omega arith;
      counts_bound = rw e at.requires.step_sum;
    }

pub returns : goal.returns
returns c =
    let e = c.place_sum-c.ensures in
    rw (c.place_sum-s.ensures, e, c.place_sum-b.ensures)
