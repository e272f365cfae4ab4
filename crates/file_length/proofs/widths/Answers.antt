-- `file_length::widths` meets its contract. The loop's invariant: the sum is that of the first i numbers. Assumes nothing.
use borrow.Author.Rules.{rules}
use Prim.Native.Nat.{ℕ, ◌+◌, ◌-◌, ◌≤◌}
use mathlib.Core.Path.{◌≡◌, refl, ap, sym, ◌∙◌, subst}
use native.Mathlib.Omega.{arith}
use lib.Dec.{T, ltb→lt}
use lib.ListN.{length, take, get_or}
use lib.Seq.{length-take-le, get_or-take}
use Rattle.number.specs.Numbers.{numbers_end}
use Rattle.complex.specs.Lists.{total}
use Rattle.store.proofs.Lists.{sum_more}
use Rattle.file_parts.specs.Parts.{spells}
use Rattle.file_length.specs.Widths.{spell_width}
use Rattle.file_parts.proofs.Laying.{all_get}
use Rattle.file_length.proofs.Lengths.{total_most, width_most}
use Rattle.file_length.proofs.widths.Goals as goal

pub loop-i-init : goal.loop-i-init
loop-i-init c = (omega arith, refl)

pub offset_bounds-src-i : goal.offset_bounds-src-i
offset_bounds-src-i c = let r = c.requires.spelled_numbers.room in search rules

pub bounds-src-i : goal.bounds-src-i
bounds-src-i c = let r = c.requires.spelled_numbers.room in omega arith

pub number_width-sum-requires : goal.number_width-sum-requires
number_width-sum-requires c =
    let w = c in
    let l = w.loop-i in
    let s = w in
    let src = s.args.src.now in
    let n = s.args.n in
    let k : length (take n src) ≡ n = length-take-le n src (let r = s.requires.spelled_numbers.room in omega arith) in
    ltb→lt (get_or src l.i 0) numbers_end
    (subst (λ (v : ℕ). T (spells v)) (get_or-take n src l.i 0 w.loop-i-test.true) (all_get spells (take n src) l.i 0 s.requires.spelled_numbers.spelled (omega arith)))

pub overflow_add-sum : goal.overflow_add-sum
overflow_add-sum c =
    let w = c in
    let l = w.loop-i in
    let s = w in
    let src = s.args.src.now in
    let m = total_most spell_width 3 width_most (take l.i src) in
    let k = length-take-le l.i src (let r = s.requires.spelled_numbers.room in omega arith) in
    let v = width_most (get_or src l.i 0) in
    let e = c.number_width-sum.ensures in
    record { fits = omega (arith, s.requires.n_bound) }

pub loop-i-preserved : goal.loop-i-preserved
loop-i-preserved c =
    let w = c in
    let l = w.loop-i in
    let s = w in
    let src = s.args.src.now in
    let r = s.requires.spelled_numbers.room in
    (omega arith, (λ i. l.invariant.1 i + c.number_width-sum.ensures i) ∙ sym (sum_more spell_width src l.i 0 (omega arith)))

pub returns : goal.returns
returns c =
    let l = c.loop-i in
    let s = c in
    let e : l.i ≡ s.args.n = omega arith in
    l.invariant.1 ∙ ap (λ (k : ℕ). total spell_width (take k s.args.src.now)) e
