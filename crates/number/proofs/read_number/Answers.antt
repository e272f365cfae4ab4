-- `number::read_number` meets its contract. Assumes nothing.
use Prim.Native.Nat.{ℕ, ◌+◌, ◌-◌, ◌*◌, ◌≤◌, ◌<◌}
use mathlib.Core.Path.{◌≡◌, refl, sym}
use mathlib.Core.List.{List}
use borrow.Author.Rules.{rules}
use native.Mathlib.Omega.{arith}
use lib.ListN.{length, get_or, drop}
use Rattle.number.specs.Said.{done, no, placed_or}
use Rattle.number.specs.Numbers.{number_at, more}
use Rattle.number.proofs.Reading.{read_at_end, read_at_last, read_at_next, read_at_stop}
use Rattle.number.proofs.Reading.{more_at_end, more_at_zero, more_at_last, more_at_next, more_at_stop}
use Rattle.number.proofs.read_number.Goals as goal

-- ---- a first byte that is not the last
module _ (s : List ℕ) (at : ℕ) (there : at < length s) (big : 128 ≤ get_or s at 0) where
  one_byte : length s ≤ at + 1 → no 2 ≡ number_at s at
  one_byte h = read_at_stop s at there big (sym (more_at_end s (at + 1) 2 h))

  module _ (there₂ : at + 1 < length s) where
    second_zero : get_or s (at + 1) 0 ≡ 0 → no 2 ≡ number_at s at
    second_zero z = read_at_stop s at there big (sym (more_at_zero s (at + 1) 2 (λ e. omega arith) there₂ z))

    second_last : (get_or s (at + 1) 0 ≡ 0 → ⊥) → get_or s (at + 1) 0 < 128
        → done (get_or s at 0 - 128 + 128 * get_or s (at + 1) 0, at + 1 + 1) ≡ number_at s at
    second_last z h = read_at_next s at there big (get_or s (at + 1) 0) (at + 1 + 1) (sym (more_at_last s (at + 1) 2 (λ e. omega arith) there₂ z h))

    -- ---- nor is the second
    module _ (big₂ : 128 ≤ get_or s (at + 1) 0) where
      third_stop : no 2 ≡ placed_or 2 (length s) (more 1 (drop (at + 1 + 1) s)) → no 2 ≡ number_at s at
      third_stop e = read_at_stop s at there big (sym (more_at_stop s (at + 1) 2 (λ e. omega arith) there₂ big₂ (sym e)))

      two_bytes : length s ≤ at + 1 + 1 → no 2 ≡ number_at s at
      two_bytes h = third_stop (more_at_end s (at + 1 + 1) 1 h)

      module _ (there₃ : at + 1 + 1 < length s) where
        third_zero : get_or s (at + 1 + 1) 0 ≡ 0 → no 2 ≡ number_at s at
        third_zero z = third_stop (more_at_zero s (at + 1 + 1) 1 (λ e. omega arith) there₃ z)

        third_big : 128 ≤ get_or s (at + 1 + 1) 0 → no 2 ≡ number_at s at
        third_big h = third_stop (more_at_stop s (at + 1 + 1) 1 (λ e. omega arith) there₃ h refl)

        third_last : (get_or s (at + 1 + 1) 0 ≡ 0 → ⊥) → get_or s (at + 1 + 1) 0 < 128
            → done (get_or s at 0 - 128 + 128 * (get_or s (at + 1) 0 - 128 + 128 * get_or s (at + 1 + 1) 0), at + 1 + 1 + 1) ≡ number_at s at
        third_last z h =
            read_at_next s at there big _ _
            (sym (more_at_next s (at + 1) 2 (λ e. omega arith) there₂ big₂ _ _ (sym (more_at_last s (at + 1 + 1) 1 (λ e. omega arith) there₃ z h))))

-- ---- the first byte
pub returns-then-s-at : goal.returns-then-s-at
returns-then-s-at c = read_at_end c.before.args.s.now c.before.args.at c.if-s-at.true

pub overflow_cast-a : goal.overflow_cast-a
overflow_cast-a c = omega (arith, c.shared_slice_known-1.given c.before.before.args.at)

pub returns-then-a-lt128 : goal.returns-then-a-lt128
returns-then-a-lt128 c = let a = c.before.before.before.args in read_at_last a.s.now a.at c.before.before.if-s-at.false c.if-a-lt128.true

pub returns-then-s-second : goal.returns-then-s-second
returns-then-s-second c =
    let b = c.before in
    let a = b.before.before.before.args in
    one_byte a.s.now a.at b.before.before.if-s-at.false b.if-a-lt128.false c.if-s-second.true

pub overflow_cast-b : goal.overflow_cast-b
overflow_cast-b c = omega (arith, c.shared_slice_known-2-1.given (c.before.before.before.before.before.args.at + 1))

pub returns-then-b-eq0 : goal.returns-then-b-eq0
returns-then-b-eq0 c =
    let t = c.before.before in
    let b = t.before in
    let a = b.before.before.before.args in
    second_zero a.s.now a.at b.before.before.if-s-at.false b.if-a-lt128.false t.if-s-second.false c.if-b-eq0.true

pub overflow_add-result-then-b-lt128 : goal.overflow_add-result-then-b-lt128
overflow_add-result-then-b-lt128 c =
    let a = c.before.before.before.before.before.before.before.args in
    let k = c.before.before.before.before.before.shared_slice_known-1.given a.at in
    record { fits = omega arith }

pub returns-then-b-lt128 : goal.returns-then-b-lt128
returns-then-b-lt128 c =
    let t = c.before.before.before in
    let b = t.before in
    let a = b.before.before.before.args in
    second_last a.s.now a.at b.before.before.if-s-at.false b.if-a-lt128.false t.if-s-second.false c.before.if-b-eq0.false c.if-b-lt128.true

pub returns-then-s-third : goal.returns-then-s-third
returns-then-s-third c =
    let t = c.before.before.before.before in
    let b = t.before in
    let a = b.before.before.before.args in
    two_bytes a.s.now a.at b.before.before.if-s-at.false b.if-a-lt128.false t.if-s-second.false c.before.if-b-lt128.false c.if-s-third.true

pub overflow_cast-c : goal.overflow_cast-c
overflow_cast-c c = omega (arith, c.shared_slice_known-3-1.given (c.before.before.before.before.before.before.before.before.before.args.at + 1 + 1))

pub returns-then-c-eq0 : goal.returns-then-c-eq0
returns-then-c-eq0 c =
    let u = c.before.before in
    let t = u.before.before.before.before in
    let b = t.before in
    let a = b.before.before.before.args in
    third_zero a.s.now a.at b.before.before.if-s-at.false b.if-a-lt128.false t.if-s-second.false u.before.if-b-lt128.false u.if-s-third.false c.if-c-eq0.true

pub returns-then-c-ge128 : goal.returns-then-c-ge128
returns-then-c-ge128 c =
    let u = c.before.before.before in
    let t = u.before.before.before.before in
    let b = t.before in
    let a = b.before.before.before.args in
    third_big a.s.now a.at b.before.before.if-s-at.false b.if-a-lt128.false t.if-s-second.false u.before.if-b-lt128.false u.if-s-third.false c.if-c-ge128.true

-- every byte is below 256
small : (c : goal.Else-c-ge128) (i : ℕ) → get_or c.before.before.before.before.before.before.before.before.before.before.before.args.s.now i 0 < 256
small c i = (c.before.before.shared_slice_known-3-1.given i).fits

pub overflow_add-result-2 : goal.overflow_add-result-2
overflow_add-result-2 c =
    let a = c.before.before.before.before.before.before.before.before.before.before.before.args in
    let h = small c (a.at + 1) in
    record { fits = omega (arith, c.if-c-ge128.false) }

pub overflow_mul-result-3 : goal.overflow_mul-result-3
overflow_mul-result-3 c =
    let a = c.before.before.before.before.before.before.before.before.before.before.before.args in
    let h = small c (a.at + 1) in
    record { fits = omega (arith, c.if-c-ge128.false) }

pub overflow_add-result-3 : goal.overflow_add-result-3
overflow_add-result-3 c =
    let a = c.before.before.before.before.before.before.before.before.before.before.before.args in
    let g = small c a.at in
    let h = small c (a.at + 1) in
    record { fits = omega (arith, c.if-c-ge128.false) }

pub returns : goal.returns
returns c =
    let u = c.before.before.before in
    let t = u.before.before.before.before in
    let b = t.before in
    let a = b.before.before.before.args in
    third_last a.s.now a.at b.before.before.if-s-at.false b.if-a-lt128.false t.if-s-second.false u.before.if-b-lt128.false
    u.if-s-third.false c.before.if-c-eq0.false c.if-c-ge128.false
