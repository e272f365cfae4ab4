-- `swap_cycle` meets its contract. Assumes nothing.
use Prim.Native.Nat.{ℕ}
use mathlib.Core.Path.{ap, sym, subst, ◌∙◌}
use mathlib.Core.List.{List}
use native.Mathlib.Omega.{arith}
use lib.ListN.{length, take, drop, set, get_or}
use Rattle.store.specs.View.{width}
use Rattle.number.specs.Readers.{spread}
use Rattle.rows_steps.specs.Swap.{swap_word, Wrote}
use Rattle.rows_steps.proofs.Writing.{wrote_one, steps_lone, steps_some, width_some}
use Rattle.kernel_swap.proofs.Along.{ahead_at, ahead_run}
use borrow.Author.Rules.{rules}
use Rattle.kernel_swap.proofs.swap_cycle.Goals as goal

pub bounds-steps-from : goal.bounds-steps-from
bounds-steps-from c =
    let st = c in
    let z = ap width c.if-c-eq0.true in
    let k = ahead_at _ _ _ _ _ st.requires.ahead in
    omega (arith, z, st.requires.c_in_bounds)

pub offset_bounds-steps-at : goal.offset_bounds-steps-at
offset_bounds-steps-at c =
    let st = c in
    let z = ap width c.if-c-eq0.true in
    let k = ahead_at _ _ _ _ _ st.requires.ahead in
    search (rules, k, z)

pub bounds-steps-at : goal.bounds-steps-at
bounds-steps-at c =
    let st = c in
    let z = ap width c.if-c-eq0.true in
    let k = ahead_at _ _ _ _ _ st.requires.ahead in
    omega (arith, z, k, st.requires.c_in_bounds)

pub returns-then-c-eq0 : goal.returns-then-c-eq0
returns-then-c-eq0 c =
    let st = c in
    let a = st.args in
    let z = ap width c.if-c-eq0.true in
    let k = ahead_at _ _ _ _ _ st.requires.ahead in
    let e = steps_lone a.t a.c a.steps.now a.from c.if-c-eq0.true (omega (arith, z, st.requires.c_in_bounds)) in record {
      value = sym (ap length e);
      wrote = subst (λ (y : List ℕ). Wrote a.steps.now a.at y (set a.steps.now a.at (get_or a.steps.now a.from 0))) (sym e)
          (wrote_one a.steps.now a.at _ (omega (arith, z, k, st.requires.c_in_bounds)));
    }

pub swap_run-requires : goal.swap_run-requires
swap_run-requires c =
    let st = c in
    let a = st.args in
    let w = c.wide.ensures in
    let n = c.if-c-eq0.false in
    record {
      n_bound = st.requires.n_bound;
      n_in_bounds = omega (arith, w, width_some a.c n, st.requires.c_in_bounds);
      ahead = ahead_run a.t a.c _ _ _ _ n w st.requires.ahead;
    }

pub returns : goal.returns
returns c =
    let st = c in
    let a = st.args in
    let w = c.wide.ensures in
    let n = c.if-c-eq0.false in
    let r = c.swap_run in
    let e = ap (λ (k : ℕ). spread (swap_word a.t) (take k (drop a.from a.steps.now))) w
    ∙ sym (steps_some a.t a.c (drop a.from a.steps.now) n) in
    record {
      value = r.ensures.value ∙ ap length e;
      wrote = subst (λ (y : List ℕ). Wrote a.steps.now a.at y r.new.steps) e r.ensures.wrote;
    }
