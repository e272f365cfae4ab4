-- `spans_of` meets its contract. Assumes nothing.
use borrow.Author.Rules.{rules}
use Prim.Native.Nat.{ℕ, ◌+◌, ◌-◌}
use mathlib.Core.Path.{◌≡◌, ap, ◌∙◌}
use native.Mathlib.Omega.{arith}
use lib.ListN.{take}
use Rattle.complex.specs.Lists.{total}
use Rattle.store.specs.Edits.{places_of}
use Rattle.rows_spans.specs.declared.Span.{Span}
use Rattle.rows_spans.specs.Runs.{span_of, row_span}
use Rattle.rows_spans.proofs.Splicing.{span_sum}
use Rattle.rows_spans.proofs.spans_of.Goals as goal

pub span_of-c-requires : goal.span_of-c-requires
span_of-c-requires c =
    let st = c in
    let a = st.args in
    let e : a.row + 1 + (a.n - (a.row + 1)) ≡ a.n = omega (arith, st.requires.row_lt_n) in
    record {
      rest_in_bounds = omega (arith, st.requires.n_in_bounds);
      counts_bound = rw e st.requires.at_bound;
    }

pub span_of-s-requires : goal.span_of-s-requires
span_of-s-requires c =
    let st = c in
    let a = st.args in
    let e : a.row + 1 + (a.n - (a.row + 1)) ≡ a.n = omega (arith, st.requires.row_lt_n) in
    let g : c.span_of-c.result.first + c.span_of-c.result.count + c.span_of-c.result.rest ≡ total (places_of 0) (take a.n a.at.now) =
    ap (λ (s : Span). s.first + s.count + s.rest) c.span_of-c.ensures ∙ span_sum 0 a.at.now (row_span a.n a.row)
    ∙ ap (λ (k : ℕ). total (places_of 0) (take k a.at.now)) e
    in
    record {
      rest_in_bounds = omega (arith, g, st.requires.at_in_bounds);
      counts_bound = rw g st.requires.cycles_bound;
    }

pub returns : goal.returns
returns c =
    let a = c.args in
    let u = c.span_of-c.ensures in
    let v = c.span_of-s.ensures ∙ ap (span_of 1 a.cycles.now) u in
    λ i. record { cycles = u i; steps = v i }
