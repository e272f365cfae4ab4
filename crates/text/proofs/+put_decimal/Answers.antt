-- `put_decimal`, which calls itself, meets its contract. Assumes nothing.
use native.Mathlib.Omega.{arith}
use native.Mathlib.Nat.{le_of_lt}
use mathlib.Core.Path.{refl}
use Rattle.text.proofs.Decimal.{last_room, last_put, more_room, more_put, stays_within}
use Rattle.text.proofs.+put_decimal.Goals as goal

pub bounds-out-at : goal.bounds-out-at
bounds-out-at t c = last_room c.args.out.now c.args.at c.args.n c.if-n-lt10.true c.requires

pub overflow_add-result : goal.overflow_add-result
overflow_add-result t c =
    let h = last_room c.args.out.now c.args.at c.args.n c.if-n-lt10.true c.requires in
    omega (arith, c.well_formed.1.0.0)

pub returns-then-n-lt10 : goal.returns-then-n-lt10
returns-then-n-lt10 t c =
    let r = last_put c.args.out.now c.args.at c.args.n c.if-n-lt10.true in
    record { value = r.0; out_after = r.1 }

pub put_decimal-end-requires : goal.put_decimal-end-requires
put_decimal-end-requires t c =
    let g = more_room c.args.out.now c.args.at c.args.n c.if-n-lt10.false c.requires in
    (omega arith, le_of_lt g)

pub bounds-out-end : goal.bounds-out-end
bounds-out-end t c =
    stays_within c.put_decimal-end.ensures.value (more_room c.args.out.now c.args.at c.args.n c.if-n-lt10.false c.requires)
    c.put_decimal-end.auto.out

pub overflow_add-result-2 : goal.overflow_add-result-2
overflow_add-result-2 t c =
    let h = stays_within c.put_decimal-end.ensures.value
    (more_room c.args.out.now c.args.at c.args.n c.if-n-lt10.false c.requires) refl in
    omega (arith, c.well_formed.1.0.0)

pub returns : goal.returns
returns t c =
    let r = more_put c.args.out.now c.args.at c.args.n c.if-n-lt10.false c.put_decimal-end.result c.put_decimal-end.new.out
    c.put_decimal-end.ensures.value c.put_decimal-end.ensures.out_after in
    record { value = r.0; out_after = r.1 }
