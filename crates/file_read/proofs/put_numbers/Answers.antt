-- `file_read::put_numbers` meets its contract. The loop's invariant: i numbers were read and put into out. Assumes nothing.
use Prim.Native.Nat.{◌-◌, ◌≤◌}
use mathlib.Core.Path.{refl, sym, ap, ◌∙◌}
use borrow.Author.Rules.{rules}
use native.Mathlib.Omega.{arith}
use Rattle.number.specs.Numbers.{read_number, number_says}
use Rattle.number.proofs.Laws.{malformed_at, value_at_lem}
use Rattle.file_read.proofs.Reading.{reading_bad}
use Rattle.file_read.proofs.Putting.{Putting, putting_start, putting_turn, putting_end}
use Rattle.file_read.proofs.put_numbers.Goals as goal

pub loop-i-init : goal.loop-i-init
loop-i-init c = let st = c in (omega arith, putting_start _ _ _ _ _ st.requires.at_in_bounds (omega (arith, st.requires.m_in_bounds)))

pub shape_of-out-in_default : goal.shape_of-out-in_default
shape_of-out-in_default c = c.loop-i.invariant.1.added.size

pub returns-in_default : goal.returns-in_default
returns-in_default c =
    let r = c in
    let at = r in
    let a = at.args in
    let P = at.loop-i.invariant.1 in (
      refl,
      reading_bad read_number a.s.now a.at a.m at.loop-i.i at.loop-i.p P.numbers P.reading r.loop-i-test.true
          (malformed_at a.s.now at.loop-i.p (sym r.read_number.ensures ∙ ap number_says c.in_default.is)),
    )

pub bounds-out-used : goal.bounds-out-used
bounds-out-used c =
    let at = c in
    omega (arith, at.loop-i.invariant.1.added.size, at.requires.m_in_bounds)

pub loop-i-preserved : goal.loop-i-preserved
loop-i-preserved c =
    let r = c in
    let at = r in
    let st = at in
    let a = st.args in
    let P = at.loop-i.invariant.1 in
    let v = value_at_lem a.s.now at.loop-i.p _ _ (sym r.read_number.ensures ∙ ap number_says c.in-Some.is) in (
      omega arith,
      putting_turn a.s.now a.at a.m a.out.now a.used at.loop-i.i at.loop-i.p at.loop-i.out P _ _ r.loop-i-test.true
          (omega (arith, st.requires.m_in_bounds)) v.0 v.2,
    )

pub shape_of-out : goal.shape_of-out
shape_of-out c = c.loop-i.invariant.1.added.size

pub returns : goal.returns
returns c =
    let at = c in
    let a = at.args in
    let P = at.loop-i.invariant.1 in
    putting_end a.s.now a.at a.m a.out.now a.used at.loop-i.i at.loop-i.p at.loop-i.out P (omega arith)
