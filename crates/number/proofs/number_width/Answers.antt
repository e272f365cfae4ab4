-- `number::number_width` meets its contract. The loop's invariant: the bytes counted and those of what is left are one more than the bytes of n.
-- Assumes nothing.
use Prim.Native.Nat.{ℕ, suc, ◌+◌, ◌/◌, ◌≤◌, ◌<◌}
use mathlib.Core.Path.{◌≡◌, ap}
use native.Mathlib.Omega.{arith}
use lib.ListN.{length}
use Rattle.number.specs.Numbers.{numbers_end, spell}
use Rattle.number.proofs.Laws.{spell_last, spell_next, spelled_length}
use Rattle.number.proofs.number_width.Goals as goal

-- one byte counted
turn : (n rest width : ℕ) → 128 ≤ rest → rest < numbers_end → width + length (spell rest) ≡ 1 + length (spell n)
    → (rest / 128 < numbers_end) × (width + 1 + length (spell (rest / 128)) ≡ 1 + length (spell n))
turn n rest width h l e =
    let s : length (spell rest) ≡ suc (length (spell (rest / 128))) = ap length (spell_next rest h l) in
    (omega arith, omega arith)

end : (n rest width : ℕ) → rest < 128 → width + length (spell rest) ≡ 1 + length (spell n) → width ≡ length (spell n)
end n rest width h e =
    let s : length (spell rest) ≡ 1 = ap length (spell_last rest h) in
    omega arith

pub loop-rest-init : goal.loop-rest-init
loop-rest-init c = omega arith

pub overflow_add-width : goal.overflow_add-width
overflow_add-width c = omega (arith, spelled_length c.before.before.args.n)

pub loop-rest-smaller : goal.loop-rest-smaller
loop-rest-smaller c = omega arith

pub loop-rest-preserved : goal.loop-rest-preserved
loop-rest-preserved c =
    let l = c.before.loop-rest in
    turn c.before.before.args.n l.rest l.width c.loop-rest-test.true l.invariant.0 l.invariant.1

pub returns : goal.returns
returns c =
    let l = c.before.loop-rest in
    end c.before.before.args.n l.rest l.width c.loop-rest-test.false l.invariant.1
