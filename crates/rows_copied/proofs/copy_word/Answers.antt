-- `copy_word` meets its contract. Assumes nothing.
use borrow.Author.Rules.{rules}
use Prim.Native.Nat.{ℕ, ◌+◌, ◌*◌, ◌/◌, ◌%◌, ◌<◌, ◌≤◌}
use mathlib.Core.Path.{◌≡◌}
use native.Mathlib.Omega.{arith}
use Rattle.complex.specs.Sound.{ids_end}
use Rattle.complex.specs.Unglue.{copy_of}
use Rattle.rows_copied.proofs.Runs.{word_other, word_own, copy_most}
use Rattle.rows_copied.proofs.copy_word.Goals as goal

pub returns-then-i-s : goal.returns-then-i-s
returns-then-i-s c = let a = c.args in word_other a.i a.next a.k a.s c.if-i-s.true

-- a copy's id, doubled
room : (i next k s w : ℕ) → w ≡ copy_of i next k → i ≡ s / 2 → s < 4294967296 → next ≤ ids_end → k ≤ ids_end → w * 2 + s % 2 < 4294967296
room i next k s w e h r p q =
    let m = copy_most i next k 2147483647 (omega arith) (omega arith) in
    omega arith

pub overflow_mul-result : goal.overflow_mul-result
overflow_mul-result c =
    let a = c.args in
    let p = c.requires in
    let r = room a.i a.next a.k a.s _ c.copy_of.ensures c.if-i-s.false (omega arith) p.next_le_ids_end p.k_le_ids_end in
    record { fits = omega arith }

pub overflow_add-result : goal.overflow_add-result
overflow_add-result c =
    let a = c.args in
    let p = c.requires in
    record { fits = room a.i a.next a.k a.s _ c.copy_of.ensures c.if-i-s.false (omega arith) p.next_le_ids_end p.k_le_ids_end }

pub returns : goal.returns
returns c = let a = c.args in word_own a.i a.next a.k a.s c.if-i-s.false c.copy_of.ensures
