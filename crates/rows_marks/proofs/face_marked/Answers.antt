-- `face_marked` meets its contract. Assumes nothing.
use borrow.Author.Rules.{rules}
use Prim.Native.Nat.{◌≤◌, ◌<◌, ◌-◌, ◌+◌}
use mathlib.Core.Path.{◌≡◌, sym, ◌∙◌}
use native.Mathlib.Omega.{arith}
use lib.ListN.{length, take, drop, get_or, length-drop}
use lib.Seq.{get_or-drop}
use Rattle.complex.specs.Sound.{steps_most}
use Rattle.complex.proofs.Bools.{or_none}
use Rattle.store.specs.View.{width}
use Rattle.store.proofs.Lists.{places_one}
use Rattle.rows_marks.specs.Marks.{cycle_marked}
use Rattle.rows_marks.proofs.Faces.{Walking, walk_within, walk_turn}
use Rattle.rows_marks.proofs.face_marked.Goals as goal

pub loop-j-init : goal.loop-j-init
loop-j-init c = (omega arith, record { told = sym (or_none _); next_is = omega arith })

-- the next cycle is there, and so are its steps
pub cycle_marked-marked-requires : goal.cycle_marked-marked-requires
cycle_marked-marked-requires c =
    let a = c.args in
    let p = c.requires in
    let l = c.loop-j in
    let h : l.j < length (drop a.first a.cycles.now) = simp length-drop (omega arith) in
    let e = sym (get_or-drop a.first a.cycles.now l.j 0) in
    let w = walk_within l.invariant.1 h (get_or a.cycles.now (a.first + l.j) 0) a.k e c.loop-j-test.true in
    record { sought = p.sought; steps_len = p.steps_len; c_bound = omega (arith, w, p.cycles_bound) }

pub overflow_add-next : goal.overflow_add-next
overflow_add-next c =
    let a = c.args in
    let p = c.requires in
    let l = c.loop-j in
    let h : l.j < length (drop a.first a.cycles.now) = simp length-drop (omega arith) in
    let e = sym (get_or-drop a.first a.cycles.now l.j 0) in
    let w = walk_within l.invariant.1 h (get_or a.cycles.now (a.first + l.j) 0) a.k e c.loop-j-test.true in
    let s = c.places-next.ensures ∙ places_one (get_or a.cycles.now (a.first + l.j) 0) in
    record { fits = omega (arith, w, p.cycles_bound, s) }

pub loop-j-preserved : goal.loop-j-preserved
loop-j-preserved c =
    let a = c.args in
    let p = c.requires in
    let l = c.loop-j in
    let h : l.j < length (drop a.first a.cycles.now) = simp length-drop (omega arith) in
    let e = sym (get_or-drop a.first a.cycles.now l.j 0) in
    let s = c.places-next.ensures ∙ places_one (get_or a.cycles.now (a.first + l.j) 0) in
    (omega arith, walk_turn l.invariant.1 h _ e _ c.cycle_marked-marked.ensures _ s)

pub returns : goal.returns
returns c =
    let v = c.loop-j.invariant.1 in
    let e : c.loop-j.j ≡ c.args.k = omega arith in
    record {
      marked_value = rw e at v.told;
      next_value = rw e at v.next_is;
    }
