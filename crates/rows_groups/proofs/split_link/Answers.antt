-- `split_link` meets its contract. Assumes nothing.
use Prim.Native.Nat.{ℕ, ◌+◌, ◌<◌}
use native.Mathlib.Omega.{arith}
use mathlib.Core.Path.{◌≡◌, refl, sym, ap, ap₂, ◌∙◌}
use mathlib.Core.Bool.{Bool, true, false}
use borrow.Author.Tests.{eqb-true, eqb-false}
use lib.Dec.{eqb}
use lib.ListN.{get_or}
use Rattle.rows_groups.specs.Search.{differs, splits}
use Rattle.rows_groups.proofs.split_link.Goals as goal

one_more : (f : ℕ → Bool) (i : ℕ) → ((j : ℕ) → j < i → f j ≡ false) → f i ≡ false → (j : ℕ) → j < i + 1 → f j ≡ false
one_more f i h e j l = go (eqb j i) refl
  where
    go : (b : Bool) → eqb j i ≡ b → f j ≡ false
    go true t = ap f (eqb-true j i t) ∙ e
    go false t = h j (let u = eqb-false j i t in omega arith)

pub loop-i-init : goal.loop-i-init
loop-i-init c = (omega arith, λ j l. absurd (omega arith))

pub offset_bounds-groups-x : goal.offset_bounds-groups-x
offset_bounds-groups-x c = let p = c.requires.left c.loop-i.i c.loop-i-test.true in record { fits = omega (arith, p, c.wide-x.ensures) }

pub bounds-groups-x : goal.bounds-groups-x
bounds-groups-x c = let p = c.requires.left c.loop-i.i c.loop-i-test.true in omega (arith, p, c.wide-x.ensures)

pub offset_bounds-groups-y : goal.offset_bounds-groups-y
offset_bounds-groups-y c = let p = c.requires.right c.loop-i.i c.loop-i-test.true in record { fits = omega (arith, p, c.wide-y.ensures) }

pub bounds-groups-y : goal.bounds-groups-y
bounds-groups-y c = let p = c.requires.right c.loop-i.i c.loop-i-test.true in omega (arith, p, c.wide-y.ensures)

-- the test of the link is that of the definition
pub returns-then-differs : goal.returns-then-differs
returns-then-differs c =
    let a = c.args in
    let asked : c.differs.result ≡ splits a.groups.now a.xs.now a.ys.now a.g c.loop-i.i =
    c.differs.ensures ∙ ap₂ (λ (x y : ℕ). differs (get_or a.groups.now x 0) (get_or a.groups.now y 0) a.g) c.wide-x.ensures c.wide-y.ensures in
    record { within = c.loop-i.invariant.0; before = c.loop-i.invariant.1; here = λ l. sym asked ∙ c.if-differs.true }

pub loop-i-preserved : goal.loop-i-preserved
loop-i-preserved c =
    let a = c.args in
    let asked : c.differs.result ≡ splits a.groups.now a.xs.now a.ys.now a.g c.loop-i.i =
    c.differs.ensures ∙ ap₂ (λ (x y : ℕ). differs (get_or a.groups.now x 0) (get_or a.groups.now y 0) a.g) c.wide-x.ensures c.wide-y.ensures in
    (omega arith, one_more (splits a.groups.now a.xs.now a.ys.now a.g) c.loop-i.i c.loop-i.invariant.1 (sym asked ∙ c.if-differs.false))

pub returns : goal.returns
returns c =
    let l = c.loop-i in
    let e : l.i ≡ c.args.m = omega (arith, l.invariant.0) in
    record { within = omega arith; before = λ j h. l.invariant.1 j (omega arith); here = λ h. absurd (omega arith) }
