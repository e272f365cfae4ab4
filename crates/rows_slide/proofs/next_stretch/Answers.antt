-- `next_stretch` meets its contract. Assumes nothing.
use borrow.Author.Rules.{rules}
use Prim.Native.Nat.{◌-◌}
use native.Mathlib.Omega.{arith}
use Rattle.store.specs.Edits.{places_of}
use Rattle.rows_slide.proofs.Sliding.{alike_goes}
use Rattle.rows_slide.proofs.Runs.{run_few}
use Rattle.rows_slide.proofs.next_stretch.Goals as goal

pub place_sum-gone-requires : goal.place_sum-gone-requires
place_sum-gone-requires c =
    let s = c in
    let d = c.dead_until-mid in
    let h = d.ensures.from in
    let g = d.ensures.within in
    let k = run_few (places_of 0) s.args.counts.now s.args.i (d.result - s.args.i) s.args.n (omega arith) in
    record {
      n_in_bounds = omega (arith, s.requires.n_in_bounds_2);
      counts_bound = omega (arith, k, s.requires.counts_bound);
    }

pub place_sum-stay-requires : goal.place_sum-stay-requires
place_sum-stay-requires c =
    let s = c in
    let d = c.dead_until-mid in
    let v = c.living_until-next in
    let h = v.ensures.from in
    let g = v.ensures.within in
    let k = run_few (places_of 0) s.args.counts.now d.result (v.result - d.result) s.args.n (omega arith) in
    record {
      n_in_bounds = omega (arith, s.requires.n_in_bounds_2);
      counts_bound = omega (arith, k, s.requires.counts_bound);
    }

pub returns : goal.returns
returns c =
    let v = c.living_until-next in
    let d = c.dead_until-mid in
    let s = c in
    record {
      dead = d.ensures;
      living = v.ensures;
      more = alike_goes s.requires.i_lt_n d.ensures v.ensures;
      gone = c.place_sum-gone.ensures;
      stay = c.place_sum-stay.ensures;
    }
