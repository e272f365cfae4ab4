-- `face_uses` meets its contract. The loop keeps: the uses of the cycles left are to be added. Assumes nothing.
use borrow.Author.Rules.{rules}
use Prim.Native.Nat.{◌≤◌, ◌-◌, ◌+◌}
use mathlib.Core.Path.{◌∙◌}
use native.Mathlib.Omega.{arith}
use lib.ListN.{get_or}
use Rattle.store.proofs.Lists.{places_one}
use Rattle.ask_uncut_uses.proofs.Using.{Facing, facing_start, facing_room, facing_turn, facing_end}
use Rattle.ask_uncut_uses.proofs.face_uses.Goals as goal

pub loop-i-init : goal.loop-i-init
loop-i-init c = let a = c.args in (omega arith, facing_start a.e a.face a.cycles.now a.c0 a.k a.steps.now a.p0 a.x0)

pub cycle_uses-x-requires : goal.cycle_uses-x-requires
cycle_uses-x-requires c =
    let at = c in
    let s = at in
    let a = s.args in
    let p = s.requires in record {
      steps_len = p.steps_len;
      c_bound = facing_room a.e a.face a.cycles.now a.c0 a.k a.steps.now a.p0 a.x0 (omega (arith, p.cycles_len, p.k_bound)) at.loop-i.x
          at.loop-i.from at.loop-i.i (omega (arith, c)) at.loop-i.invariant.1 p.cycles_bound;
    }

pub overflow_add-from : goal.overflow_add-from
overflow_add-from c =
    let at = c in
    let s = at in
    let a = s.args in
    let p = s.requires in
    let r = facing_room a.e a.face a.cycles.now a.c0 a.k a.steps.now a.p0 a.x0 (omega (arith, p.cycles_len, p.k_bound)) at.loop-i.x
    at.loop-i.from at.loop-i.i (omega (arith, c)) at.loop-i.invariant.1 p.cycles_bound in
    let e = c.places-from.ensures ∙ places_one (get_or a.cycles.now (a.c0 + at.loop-i.i) 0) in
    record { fits = omega (arith, e, r) }

pub loop-i-preserved : goal.loop-i-preserved
loop-i-preserved c =
    let at = c in
    let s = at in
    let a = s.args in
    let p = s.requires in (
      omega (arith, c),
      facing_turn a.e a.face a.cycles.now a.c0 a.k a.steps.now a.p0 a.x0 (omega (arith, p.cycles_len, p.k_bound)) at.loop-i.x
          at.loop-i.from at.loop-i.i (omega (arith, c)) at.loop-i.invariant.1
          _ c.cycle_uses-x.ensures _ (c.places-from.ensures ∙ places_one (get_or a.cycles.now (a.c0 + at.loop-i.i) 0)),
    )

pub returns : goal.returns
returns c =
    let at = c in
    let s = at in
    let a = s.args in
    let p = s.requires in
    facing_end a.e a.face a.cycles.now a.c0 a.k a.steps.now a.p0 a.x0 (omega (arith, p.cycles_len, p.k_bound)) at.loop-i.x at.loop-i.from
    at.loop-i.i (omega arith) at.loop-i.invariant.1
