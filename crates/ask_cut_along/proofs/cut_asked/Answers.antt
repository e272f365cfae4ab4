-- `cut_asked` meets its contract. Assumes nothing.
use borrow.Author.Rules.{rules}
use native.Mathlib.Omega.{arith}
use Prim.Native.Nat.{ℕ, ◌+◌, ◌≤◌}
use lib.Dec.{lit≤}
use Rattle.answer.specs.Late.{Small}
use Rattle.ask_cut_along.proofs.Corners.{lone_small, one_no_lem, two_no_lem}
use Rattle.ask_cut_along.proofs.cut_asked.Goals as goal

-- no more lone vertices than cycles
few_first : (o : goal.After-lone_step) → o.lone_step-alone.result ≤ 1
few_first o = let a = o.args in let l = lone_small a.cycles.now a.s a.c1 in omega (arith, o.lone_step-alone.ensures)

few_first_2 : (o : goal.Then-c1-c2) → o.lone_step-alone.result ≤ 1
few_first_2 o = let a = o.args in let l = lone_small a.cycles.now a.s a.c1 in omega (arith, o.lone_step-alone.ensures)

few_both : (w : goal.After-lone_step) → w.lone_step-alone.result + w.lone_step.result ≤ 2
few_both w =
    let o = w in
    let a = o.args in
    let l = lone_small a.cycles.now a.s a.c2 in
    omega (arith, few_first o, w.lone_step.ensures)

small : {x y n b : ℕ} → x ≤ 2 → y ≤ 1 → n ≤ 2 → b ≤ 4294967295 → Small (record { cells = x; cycles = y; steps = n; bends = b })
small hx hy hn hb = record { cells = omega arith; cycles = omega arith; steps = omega arith; bends = omega arith }

pub late_asked-requires : goal.late_asked-requires
late_asked-requires c =
    let o = c in
    let v = o in
    let s = v in
    let h = few_first_2 o in record {
      next_le_ids_end = s.requires.next_le_ids_end;
      le_ids_end = lit≤ tt;
      small = (
        s.requires.small,
        small (omega arith) (omega arith) (omega arith) (omega (arith, v.wide-bends.ensures, s.ranges.k)),
        small (omega arith) (omega arith) (omega arith) (omega arith),
      );
    }

pub returns-then-c1-c2 : goal.returns-then-c1-c2
returns-then-c1-c2 c =
    let o = c in
    let v = o in
    let a = v.args in
    one_no_lem a.next a.t a.cycles.now a.s a.c1 a.c2 a.k v.wide-bends.result o.lone_step-alone.result v.wide-bends.ensures o.lone_step-alone.ensures
    c.if-c1-c2.true _ c.late_asked.ensures

pub overflow_add-both : goal.overflow_add-both
overflow_add-both c = let h = few_both c in omega arith

pub late_asked-requires-2 : goal.late_asked-requires-2
late_asked-requires-2 c =
    let v = c in
    let s = v in
    let h = few_both c in record {
      next_le_ids_end = s.requires.next_le_ids_end;
      le_ids_end = lit≤ tt;
      small = (
        s.requires.small,
        small (omega arith) (omega arith) (omega arith) (omega (arith, v.wide-bends.ensures, s.ranges.k)),
        small (omega arith) (omega arith) h (omega arith),
      );
    }

pub returns : goal.returns
returns c =
    let w = c in
    let o = w in
    let v = o in
    let a = v.args in
    two_no_lem a.next a.t a.cycles.now a.s a.c1 a.c2 a.k v.wide-bends.result o.lone_step-alone.result v.wide-bends.ensures o.lone_step-alone.ensures
    w.if-c1-c2.false w.lone_step.result w.lone_step.ensures _ c.late_asked-2.ensures
