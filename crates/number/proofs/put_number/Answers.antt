-- `number::put_number` meets its contract.
-- The loop's invariant: what is left of n, spelled at the place that the loop is at, makes the bytes that n spelled at the first place makes. Assumes nothing.
use Prim.Native.Nat.{ℕ, suc, ◌+◌, ◌/◌, ◌%◌, ◌≤◌, ◌<◌}
use mathlib.Core.Path.{◌≡◌, refl, sym, ap, ◌∙◌}
use mathlib.Core.List.{List}
use borrow.Author.Rules.{rules}
use native.Mathlib.Numerals.{add-one}
use native.Mathlib.Omega.{arith}
use lib.ListN.{length, set, length-set}
use lib.Seq.{sets}
use Rattle.number.specs.Numbers.{numbers_end, spell}
use Rattle.number.proofs.Laws.{spell_last, spell_next, spelled_length}
use Rattle.number.proofs.put_number.Invariants.{Left}
use Rattle.number.proofs.put_number.Goals as goal

turn : (n at : ℕ) (out₀ out : List ℕ) (rest place : ℕ) → 128 ≤ rest → Left n at out₀ out rest place
    → Left n at out₀ (set out place (rest % 128 + 128)) (rest / 128) (place + 1)
turn n at out₀ out rest place h l =
    let e = spell_next rest h l.small in
    let s : length (spell rest) ≡ suc (length (spell (rest / 128))) = ap length e in
    let f = l.ends in
    let b = l.small in
    record {
      small = omega arith;
      ends = omega arith;
      bytes =
          ap (λ (p : ℕ). sets (set out place (rest % 128 + 128)) p (spell (rest / 128))) (add-one place)
          ∙ ap (sets out place) (sym e)
          ∙ l.bytes;
      long = length-set out place (rest % 128 + 128) ∙ l.long;
    }

end : (n at : ℕ) (out₀ out : List ℕ) (rest place : ℕ) → rest < 128 → Left n at out₀ out rest place
    → (place + 1 ≡ at + length (spell n)) × (set out place rest ≡ sets out₀ at (spell n))
end n at out₀ out rest place h l =
    let e = spell_last rest h in
    let s : length (spell rest) ≡ 1 = ap length e in
    let f = l.ends in
    (omega arith, ap (sets out place) (sym e) ∙ l.bytes)

pub loop-rest-init : goal.loop-rest-init
loop-rest-init c = record { small = c.requires.n_lt_numbers_end; ends = refl; bytes = refl; long = refl }

pub bounds-out-place : goal.bounds-out-place
bounds-out-place c = omega (arith, spelled_length c.before.loop-rest.rest)

pub overflow_add-place : goal.overflow_add-place
overflow_add-place c = omega (arith, spelled_length c.before.loop-rest.rest)

pub loop-rest-smaller : goal.loop-rest-smaller
loop-rest-smaller c = omega arith

pub loop-rest-preserved : goal.loop-rest-preserved
loop-rest-preserved c = turn _ _ _ _ _ _ c.loop-rest-test.true c.before.loop-rest.invariant

pub bounds-out-place-2 : goal.bounds-out-place-2
bounds-out-place-2 c = omega (arith, spelled_length c.before.loop-rest.rest)

pub overflow_add-result : goal.overflow_add-result
overflow_add-result c = omega (arith, spelled_length c.before.loop-rest.rest)

pub shape_of-out : goal.shape_of-out
shape_of-out c = simp length-set c.before.loop-rest.invariant.long

pub returns : goal.returns
returns c = let whole = end _ _ _ _ _ _ c.loop-rest-test.false c.before.loop-rest.invariant in record {
  value = whole.0;
  out_after = whole.1;
}
