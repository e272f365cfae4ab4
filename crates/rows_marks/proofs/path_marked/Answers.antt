-- `path_marked` meets its contract. Assumes nothing.
use borrow.Author.Rules.{rules}
use Prim.Native.Nat.{ℕ, ◌≤◌, ◌-◌}
use mathlib.Core.Path.{refl, sym, ◌∙◌}
use native.Mathlib.Omega.{arith}
use lib.ListN.{take, drop}
use Rattle.store.specs.View.{halfedge_of}
use Rattle.rows_marks.specs.Marks.{step_marked}
use Rattle.rows_marks.proofs.Marking.{Seeking, seeking_turn, seeking_found, seeking_end, any_map}
use Rattle.rows_marks.proofs.path_marked.Goals as goal

pub loop-i-init : goal.loop-i-init
loop-i-init c = (omega arith, record { rest = refl })

pub step_marked-requires : goal.step_marked-requires
step_marked-requires c = c.requires.sought

pub returns-then-step_marked : goal.returns-then-step_marked
returns-then-step_marked c =
    let at = c in
    let a = at.args in
    let q = step_marked (take a.n a.ids.now) (take a.n a.marks.now) in
    seeking_found (λ (s : ℕ). q (halfedge_of s)) a.steps.now a.from a.m (omega arith) at.loop-i.i 0 (omega arith)
    at.loop-i.invariant.1 (sym c.step_marked.ensures ∙ c.if-step_marked.true)
    ∙ any_map q halfedge_of (take a.m (drop a.from a.steps.now))

pub loop-i-preserved : goal.loop-i-preserved
loop-i-preserved c =
    let at = c in
    let a = at.args in
    let q = step_marked (take a.n a.ids.now) (take a.n a.marks.now) in (
      omega arith,
      seeking_turn (λ (s : ℕ). q (halfedge_of s)) a.steps.now a.from a.m (omega arith) at.loop-i.i 0 (omega arith)
          at.loop-i.invariant.1 (sym c.step_marked.ensures ∙ c.if-step_marked.false),
    )

pub returns : goal.returns
returns c =
    let at = c in
    let a = at.args in
    let q = step_marked (take a.n a.ids.now) (take a.n a.marks.now) in
    seeking_end (λ (s : ℕ). q (halfedge_of s)) a.steps.now a.from a.m (omega arith) at.loop-i.i (omega arith) at.loop-i.invariant.1
    ∙ any_map q halfedge_of (take a.m (drop a.from a.steps.now))
