-- `others` meets its contract. Assumes nothing.
use borrow.Author.Rules.{rules}
use Prim.Native.Nat.{ℕ, ◌≤◌, ◌<◌, ◌-◌}
use mathlib.Core.Path.{◌≡◌, refl, sym, ap, ◌∙◌}
use mathlib.Core.Bool.{not, false}
use mathlib.Core.List.{map}
use native.Mathlib.Omega.{arith}
use lib.ListN.{length, take, length-set}
use lib.Seq.{take_all}
use Rattle.store.proofs.Lists.{Mapping, mapping_turn}
use Rattle.rows_corners.proofs.others.Goals as goal

pub loop-i-preserved : goal.loop-i-preserved
loop-i-preserved c =
    let at = c in
    let a = at.args in
    let h : at.loop-i.i < length at.loop-i.out = omega (arith, at.loop-i.invariant.2) in (
      omega arith,
      mapping_turn not a.flags.now at.loop-i.i at.loop-i.out _ false (omega arith) h refl at.loop-i.invariant.1,
      length-set at.loop-i.out _ _ ∙ at.loop-i.invariant.2,
    )

pub returns : goal.returns
returns c =
    let at = c in
    let e : at.loop-i.i ≡ 512 = omega arith in
    let f = at.args.flags.now in
    let l : length f ≡ 512 = at.requires.flags_len in
    let s = at.loop-i.invariant.2 in
    sym (take_all 512 at.loop-i.out (omega arith)) ∙ ap (λ (n : ℕ). take n at.loop-i.out) (sym e) ∙ at.loop-i.invariant.1.front
    ∙ ap (λ (n : ℕ). map not (take n f)) e ∙ ap (map not) (take_all 512 f (omega arith))
