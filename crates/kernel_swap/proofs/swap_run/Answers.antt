-- `swap_run` meets its contract. Assumes nothing.
use borrow.Author.Rules.{rules}
use Prim.Native.Nat.{ℕ, ◌≤◌, ◌<◌, ◌-◌, ◌+◌}
use mathlib.Core.Path.{◌≡◌, refl, ap, sym, subst, ◌∙◌}
use mathlib.Core.List.{List}
use native.Mathlib.Omega.{arith}
use lib.ListN.{length, take, drop, get_or}
use Rattle.number.specs.Readers.{spread}
use Rattle.rows_steps.specs.Swap.{swap_word, Wrote}
use Rattle.rows_steps.proofs.Writing.{wrote_none}
use Rattle.kernel_swap.proofs.Along.{place_length, place_room, place_turn}
use Rattle.kernel_swap.proofs.swap_run.Goals as goal

pub loop-i-init : goal.loop-i-init
loop-i-init c = (omega arith, refl, wrote_none _ _)

pub bounds-steps-from : goal.bounds-steps-from
bounds-steps-from c =
    let at = c in
    let st = at in
    let a = st.args in
    let h : at.loop-i.i < a.n = omega arith in
    omega (arith, at.loop-i.invariant.2.size, st.requires.n_in_bounds)

pub overflow_add-at : goal.overflow_add-at
overflow_add-at c =
    let at = c in
    let st = at in
    let a = st.args in
    let h : at.loop-i.i < a.n = omega arith in
    let m = place_room a.t a.steps.now a.from a.n a.at at.loop-i.i at.loop-i.w at.loop-i.steps st.requires.n_in_bounds h st.requires.ahead
    at.loop-i.invariant.1 at.loop-i.invariant.2 in
    record { fits = omega (arith, m, st.requires.n_in_bounds) }

pub put_step-k-requires : goal.put_step-k-requires
put_step-k-requires c =
    let at = c in
    let st = at in
    let a = st.args in
    let h : at.loop-i.i < a.n = omega arith in
    let m = place_room a.t a.steps.now a.from a.n a.at at.loop-i.i at.loop-i.w at.loop-i.steps st.requires.n_in_bounds h st.requires.ahead
    at.loop-i.invariant.1 at.loop-i.invariant.2 in
    record {
      n_bound = st.requires.n_bound;
      s_in_bounds = omega (arith, m, st.requires.n_in_bounds, at.loop-i.invariant.2.size);
    }

pub overflow_add-w : goal.overflow_add-w
overflow_add-w c =
    let at = c in
    let st = at in
    let a = st.args in
    let h : at.loop-i.i < a.n = omega arith in
    let m = place_room a.t a.steps.now a.from a.n a.at at.loop-i.i at.loop-i.w at.loop-i.steps st.requires.n_in_bounds h st.requires.ahead
    at.loop-i.invariant.1 at.loop-i.invariant.2 in
    record { fits = omega (arith, m, st.requires.n_in_bounds, c.put_step-k.ensures.value) }

pub loop-i-preserved : goal.loop-i-preserved
loop-i-preserved c =
    let at = c in
    let h : at.loop-i.i < at.args.n = omega arith in
    let t = at.args.t in
    let q = at.requires in
    let v = at.loop-i.invariant in
    let p = c.put_step-k in (
      omega arith,
      ap (λ (k : ℕ). at.loop-i.w + k) p.ensures.value ∙ place_length t _ _ _ _ _ at.loop-i.w _ q.n_in_bounds h q.ahead v.1 v.2,
      place_turn t _ _ _ _ _ at.loop-i.w _ q.n_in_bounds h q.ahead v.1 v.2 p.new.out p.ensures.wrote,
    )

pub shape_of-steps : goal.shape_of-steps
shape_of-steps c = c.loop-i.invariant.2.size

pub returns : goal.returns
returns c =
    let at = c in
    let st = at in
    let a = st.args in
    let e : at.loop-i.i ≡ a.n = omega arith in
    record {
      value = rw e at at.loop-i.invariant.1;
      wrote = rw e at at.loop-i.invariant.2;
    }
