-- `rows_steps::put_step` meets its contract. Assumes nothing.
use borrow.Author.Rules.{rules}
use Prim.Native.Nat.{ℕ}
use mathlib.Core.Path.{ap, sym, subst, ◌∙◌}
use mathlib.Core.List.{List, [], ◌∷◌}
use native.Mathlib.Omega.{arith}
use lib.ListN.{length, set}
use lib.Seq.{length-take-le}
use Rattle.rows_steps.specs.Swap.{Wrote}
use Rattle.rows_steps.proofs.Writing.{wrote_one, swap_fore, swap_back, swap_other}
use Rattle.rows_steps.proofs.put_step.Goals as goal

pub put_two-requires : goal.put_two-requires
put_two-requires c =
    let st = c in
    let t = st.args.t in
    let s = st.args.s in
    let e = swap_fore t s c.if-s-t.true in
    let l = length-take-le t.n (t.f1 ∷ t.f2 ∷ []) st.requires.n_bound in
    record {
      n_bound = st.requires.n_bound;
      n_in_bounds = omega (arith, ap length e, l, st.requires.s_in_bounds);
    }

pub returns-then-s-t : goal.returns-then-s-t
returns-then-s-t c =
    let st = c in
    let t = st.args.t in
    let s = st.args.s in
    let e = swap_fore t s c.if-s-t.true in
    let l = length-take-le t.n (t.f1 ∷ t.f2 ∷ []) st.requires.n_bound in record {
      value = sym (ap length e ∙ l);
      wrote = subst (λ (y : List ℕ). Wrote st.args.out.now st.args.at y
          c.put_two.new.out) (sym e) c.put_two.ensures;
    }

pub put_two-requires-then-s-t-2 : goal.put_two-requires-then-s-t-2
put_two-requires-then-s-t-2 c =
    let st = c in
    let t = st.args.t in
    let s = st.args.s in
    let e = swap_back t s c.if-s-t.false c.if-s-t-2.true in
    let l = length-take-le t.n (t.b1 ∷ t.b2 ∷ []) st.requires.n_bound in
    record {
      n_bound = st.requires.n_bound;
      n_in_bounds = omega (arith, ap length e, l, st.requires.s_in_bounds);
    }

pub returns-then-s-t-2 : goal.returns-then-s-t-2
returns-then-s-t-2 c =
    let st = c in
    let t = st.args.t in
    let s = st.args.s in
    let e = swap_back t s c.if-s-t.false c.if-s-t-2.true in
    let l = length-take-le t.n (t.b1 ∷ t.b2 ∷ []) st.requires.n_bound in record {
      value = sym (ap length e ∙ l);
      wrote = subst (λ (y : List ℕ). Wrote st.args.out.now st.args.at y
          c.put_two-then-s-t-2.new.out) (sym e) c.put_two-then-s-t-2.ensures;
    }

pub bounds-out-at : goal.bounds-out-at
bounds-out-at c =
    let st = c in
    let t = st.args.t in
    let s = st.args.s in
    let e = swap_other t s c.if-s-t.false c.if-s-t-2.false in
    omega (arith, ap length e, st.requires.s_in_bounds)

pub returns : goal.returns
returns c =
    let st = c in
    let t = st.args.t in
    let s = st.args.s in
    let e = swap_other t s c.if-s-t.false c.if-s-t-2.false in record {
      value = sym (ap length e);
      wrote = subst (λ (y : List ℕ). Wrote st.args.out.now st.args.at y (set st.args.out.now st.args.at s)) (sym e)
          (wrote_one st.args.out.now st.args.at s (omega (arith, ap length e, st.requires.s_in_bounds)));
    }
