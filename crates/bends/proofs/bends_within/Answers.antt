-- `bends::bends_within` meets its contract. The loop's invariant: the test of all the bends is the test of those that are left. Assumes nothing.
use Prim.Native.Nat.{ℕ, suc, ◌+◌, ◌-◌, ◌<◌, ◌≤◌}
use mathlib.Core.Path.{◌≡◌, sym, ap, ◌∙◌}
use mathlib.Core.List.{List}
use mathlib.Core.Bool.{Bool, true, false, ◌&&◌}
use native.Mathlib.Omega.{arith}
use Rattle.coordinate.specs.Bounds.{within}
use Rattle.coordinate.specs.Positions.{position_at}
use Rattle.bends.proofs.bends_within.Invariants.{test}
use Rattle.bends.proofs.bends_within.Goals as goal

-- the test of the next bend and of those after it
one_more : (s : List ℕ) (at n : ℕ) → 0 < n → test s at n ≡ within (position_at s at) && test s (at + 16) (n - 1)
one_more s at n h = let e : n ≡ suc (n - 1) = omega arith in ap (test s at) e

outside : (s : List ℕ) (at n : ℕ) → 0 < n → within (position_at s at) ≡ false → false ≡ test s at n
outside s at n h w = sym (one_more s at n h ∙ ap (λ (b : Bool). b && test s (at + 16) (n - 1)) w)

inside : (s : List ℕ) (at n : ℕ) → 0 < n → within (position_at s at) ≡ true → test s (at + 16) (n - 1) ≡ test s at n
inside s at n h w = sym (one_more s at n h ∙ ap (λ (b : Bool). b && test s (at + 16) (n - 1)) w)

none : (s : List ℕ) (at n : ℕ) → n ≤ 0 → true ≡ test s at n
none s at n h = let e : 0 ≡ n = omega arith in ap (test s at) e

pub loop-init : goal.loop-init
loop-init c =
    let e : c.args.count - 0 ≡ c.args.count = omega arith in
    (omega arith, ap (test c.args.part.now c.args.first) e)

pub returns-then-not-in_bounds : goal.returns-then-not-in_bounds
returns-then-not-in_bounds c =
    let w = sym (c.in_bounds.ensures ∙ ap within c.position_at-bend.ensures) ∙ c.if-not-in_bounds.true in
    outside c.args.part.now c.loop.at (c.args.count - c.loop.counter) (omega arith) w ∙ c.loop.invariant.1

pub loop-preserved : goal.loop-preserved
loop-preserved c =
    let w = sym (c.in_bounds.ensures ∙ ap within c.position_at-bend.ensures) ∙ c.if-not-in_bounds.false in
    let e : c.args.count - (c.loop.counter + 1) ≡ c.args.count - c.loop.counter - 1 = omega arith in (
      omega arith,
      ap (test c.args.part.now (c.loop.at + 16)) e
          ∙ inside c.args.part.now c.loop.at (c.args.count - c.loop.counter) (omega arith) w ∙ c.loop.invariant.1,
    )

pub returns : goal.returns
returns c = none c.args.part.now c.loop.at (c.args.count - c.loop.counter) (omega arith) ∙ c.loop.invariant.1
