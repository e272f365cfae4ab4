-- `copy_run` meets its contract: after i numbers the first i of the run are pasted. Assumes nothing.
use borrow.Author.Rules.{rules}
use Prim.Native.Nat.{ℕ, ◌≤◌, ◌-◌, ◌+◌}
use mathlib.Core.Path.{◌≡◌, refl, ap, ap₂, sym, ◌∙◌}
use mathlib.Core.List.{List}
use native.Mathlib.Omega.{arith}
use native.Mathlib.Numerals.{add-one}
use lib.ListN.{length, drop, set, length-set, length-drop}
use lib.Seq.{paste, paste-zero, paste-suc, get_or-drop}
use Rattle.rows_spans.proofs.copy_run.Goals as goal

pub loop-i-init : goal.loop-i-init
loop-i-init c = let a = c.args in (omega arith, paste-zero a.out.now a.at (drop a.from a.src.now), refl)

pub loop-i-preserved : goal.loop-i-preserved
loop-i-preserved c =
    let at = c in
    let a = at.args in
    let s = drop a.from a.src.now in
    let l = length-drop a.from a.src.now in (
      omega arith,
      ap₂ (λ (q : List ℕ) (v : ℕ). set q (a.at + at.loop-i.i) v) at.loop-i.invariant.1 (sym (get_or-drop a.from a.src.now at.loop-i.i 0))
          ∙ paste-suc a.out.now a.at s at.loop-i.i 0 (omega arith) (omega arith)
          ∙ ap (paste a.out.now a.at s) (sym (add-one at.loop-i.i)),
      length-set at.loop-i.out _ _ ∙ at.loop-i.invariant.2,
    )

pub shape_of-out : goal.shape_of-out
shape_of-out c = c.loop-i.invariant.2

pub returns : goal.returns
returns c =
    let at = c in
    let e : at.loop-i.i ≡ at.args.n = omega arith in
    record {
      value = refl;
      out_after = rw e at at.loop-i.invariant.1;
    }
