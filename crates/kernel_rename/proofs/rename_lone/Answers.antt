-- `rename_lone` meets its contract. Assumes nothing.
use borrow.Author.Rules.{rules}
use Prim.Native.Nat.{ℕ, ◌+◌, ◌-◌, ◌<◌, ◌≤◌}
use native.Mathlib.Omega.{arith}
use mathlib.Core.Path.{◌≡◌, refl, ap, ◌∙◌}
use mathlib.Core.List.{List}
use lib.ListN.{length, get_or}
use Rattle.complex.specs.Glue.{renamed}
use Rattle.store.specs.Edits.{places_of}
use Rattle.rows_steps.specs.Renaming.{rename_place}
use Rattle.kernel_rename.proofs.Lone.{Walking, walking_start, walk_room, walk_steps, walk_lone, walked}
use Rattle.kernel_rename.proofs.rename_lone.Goals as goal
use Rattle.kernel_rename.proofs.rename_lone.Goals.{then-c-eq0, else-c-eq0}

-- the one place of a lone vertex
lone : (ns : List ℕ) (i at : ℕ) → at + places_of 1 (get_or ns i 0) ≤ 2048 → get_or ns i 0 ≡ 0 → at < 2048
lone ns i at r z = let e = ap (places_of 1) z in omega arith

pub loop-i-init : goal.loop-i-init
loop-i-init c = let a = c.args in (omega arith, walking_start (rename_place (renamed a.a a.b)) a.cycles.now a.steps.now)

pub offset_bounds-steps-at : goal.offset_bounds-steps-at
offset_bounds-steps-at c =
    let r = walk_room c.loop-i.invariant.1 c.args.n (omega arith) (omega arith) c.requires.cycles_bound in
    let h = lone c.args.cycles.now c.loop-i.i c.loop-i.at r c.if-c-eq0.true in
    omega arith

pub bounds-steps-at : goal.bounds-steps-at
bounds-steps-at c =
    let r = walk_room c.loop-i.invariant.1 c.args.n (omega arith) (omega arith) c.requires.cycles_bound in
    let h = lone c.args.cycles.now c.loop-i.i c.loop-i.at r c.if-c-eq0.true in
    omega arith

pub offset_bounds-steps-at-then-c-eq0 : goal.offset_bounds-steps-at-then-c-eq0
offset_bounds-steps-at-then-c-eq0 c =
    let r = walk_room c.loop-i.invariant.1 c.args.n (omega arith) (omega arith) c.requires.cycles_bound in
    let h = lone c.args.cycles.now c.loop-i.i c.loop-i.at r c.if-c-eq0.true in
    omega arith

pub bounds-steps-at-then-c-eq0 : goal.bounds-steps-at-then-c-eq0
bounds-steps-at-then-c-eq0 c =
    let r = walk_room c.loop-i.invariant.1 c.args.n (omega arith) (omega arith) c.requires.cycles_bound in
    let h = lone c.args.cycles.now c.loop-i.i c.loop-i.at r c.if-c-eq0.true in
    omega arith

pub overflow_add-at : goal.overflow_add-at
overflow_add-at c =
    let r = walk_room c.loop-i.invariant.1 c.args.n (omega arith) (omega arith) c.requires.cycles_bound in
    omega arith

pub loop-i-preserved : goal.loop-i-preserved
loop-i-preserved c =
    let t = c in
    let s = t in
    let w = t.loop-i.invariant.1 in
    let h : t.loop-i.i < length s.args.cycles.now = omega (arith, s.requires.n_le_cycles_most, s.requires.cycles_len.0) in
    let r = walk_room w s.args.n (omega arith) (omega arith) s.requires.cycles_bound in
    let g : t.loop-i.at + places_of 1 (get_or s.args.cycles.now t.loop-i.i 0) ≤ length s.args.steps.now = omega (arith, s.requires.cycles_len.1) in
    elim c.if-c-eq0.branch [
      | then-c-eq0 x ↦ (
        omega arith,
        rw c.places-at.ensures (rw x.steps-is (walk_lone w h g x.if-c-eq0.true _ x.rename.ensures)),
      )
      | else-c-eq0 x ↦ (
        omega arith,
        rw c.places-at.ensures (rw x.steps-is (walk_steps w h g (λ v. refl) x.if-c-eq0.false)),
      )
    ]

pub returns : goal.returns
returns c =
    let at = c in
    let e : at.loop-i.i ≡ at.args.n = omega arith in
    let w = rw e at at.loop-i.invariant.1 in
    record {
      lone_renamed = walked w;
      steps_len = w.size ∙ at.requires.cycles_len.1;
    }
