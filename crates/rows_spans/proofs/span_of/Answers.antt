-- `span_of` meets its contract: three sums. Assumes nothing.
use borrow.Author.Rules.{rules}
use native.Mathlib.Omega.{arith}
use Rattle.rows_spans.proofs.Splicing.{span_sum}
use Rattle.rows_spans.proofs.span_of.Goals as goal

pub place_sum-a-requires : goal.place_sum-a-requires
place_sum-a-requires c =
    let st = c in
    let a = st.args in
    record {
      n_in_bounds = omega arith;
      counts_bound = omega (arith, span_sum a.z a.counts.now a.s, st.requires.counts_bound);
    }

pub place_sum-b-requires : goal.place_sum-b-requires
place_sum-b-requires c =
    let st = c in
    let a = st.args in
    record {
      n_in_bounds = omega (arith, st.requires.rest_in_bounds);
      counts_bound = omega (arith, span_sum a.z a.counts.now a.s, st.requires.counts_bound);
    }

pub place_sum-c-requires : goal.place_sum-c-requires
place_sum-c-requires c =
    let st = c in
    let a = st.args in
    record {
      n_in_bounds = omega (arith, st.requires.rest_in_bounds);
      counts_bound = omega (arith, span_sum a.z a.counts.now a.s, st.requires.counts_bound);
    }

pub returns : goal.returns
returns c =
    let u = c.place_sum-a.ensures in
    let v = c.place_sum-b.ensures in
    let w = c.place_sum-c.ensures in
    λ i. record { first = u i; count = v i; rest = w i }
