-- `euler_rows` meets its contract. Assumes nothing.
use mir.Syntax.{w32}
use mir.ValLaws.{to_z-of_z}
use mathlib.Core.Path.{◌≡◌, ap, ap₂, ◌∙◌}
use lib.ListN.{take, get_or}
use borrow.Author.Rules.{rules}
use Prim.Native.Nat.{ℕ, ◌≤◌, ◌-◌, ◌+◌}
use native.Mathlib.Omega.{arith}
use lib.IntN.{sub_ℕ}
use lib.Seq.{length-take-le}
use Rattle.complex.specs.Lists.{total}
use Rattle.store.proofs.Lists.{sum_le}
use Rattle.rows_euler.specs.Shares.{gain_in, losses_in, euler_in}
use Rattle.rows_marks.proofs.Marking.{sum_on}
use Rattle.rows_euler.proofs.Counting.{gain_most, gains_most, losses_most, losses_more}
use Rattle.rows_euler.proofs.euler_rows.Goals as goal

pub overflow_add-up : goal.overflow_add-up
overflow_add-up c =
    let at = c in
    let a = at.args in
    let l = length-take-le at.loop-i.i a.kinds.now (omega arith) in
    let g = gains_most (take at.loop-i.i a.kinds.now) in
    let m = gain_most (get_or a.kinds.now at.loop-i.i 0) in
    record { fits = omega (arith, l, g, m, at.loop-i.invariant, c.gain_of-up.ensures) }

pub overflow_add-down : goal.overflow_add-down
overflow_add-down c =
    let at = c in
    let a = at.args in
    let i = at.loop-i.i in
    let e = losses_more a.kinds.now a.counts.now i (omega arith) (omega arith) at.loop-i.down _ at.loop-i.invariant.2 c.loss_of-down.ensures in
    let l = length-take-le (i + 1) a.kinds.now (omega arith) in
    let m = losses_most (take (i + 1) a.kinds.now) (take (i + 1) a.counts.now) in
    let s = sum_le (λ (k : ℕ). k) a.counts.now (i + 1) a.n (omega arith) in
    record { fits = omega (arith, e, l, m, s, at.requires.counts_bound) }

pub loop-i-preserved : goal.loop-i-preserved
loop-i-preserved c =
    let at = c in
    let a = at.args in
    let i = at.loop-i.i in (
      omega arith,
      sum_on gain_in a.kinds.now a.n i 0 (omega arith) (omega arith) at.loop-i.up at.loop-i.invariant.1 _ c.gain_of-up.ensures,
      losses_more a.kinds.now a.counts.now i (omega arith) (omega arith) at.loop-i.down _ at.loop-i.invariant.2 c.loss_of-down.ensures,
    )

pub difference-requires : goal.difference-requires
difference-requires c =
    let at = c in
    let a = at.args in
    let i = at.loop-i.i in
    let l = length-take-le i a.kinds.now (omega arith) in
    let g = gains_most (take i a.kinds.now) in
    let m = losses_most (take i a.kinds.now) (take i a.counts.now) in
    let s = sum_le (λ (k : ℕ). k) a.counts.now i a.n (omega arith) in
    (omega (arith, l, g, m, s, at.loop-i.invariant, at.requires.counts_bound), omega (arith, l, g, m, s, at.loop-i.invariant, at.requires.counts_bound))

pub returns : goal.returns
returns c =
    let at = c in
    let a = at.args in
    let e : at.loop-i.i ≡ a.n = omega arith in
    to_z-of_z w32 c.difference.result (record { sfits = c.difference.type_inv })
    ∙ c.difference.ensures
    ∙ ap₂ sub_ℕ at.loop-i.invariant.1 at.loop-i.invariant.2
    ∙ ap (λ (k : ℕ). euler_in (take k a.kinds.now) (take k a.counts.now)) e
