-- `rename_cycles` meets its contract. Assumes nothing.
use borrow.Author.Rules.{rules}
use Prim.Native.Nat.{◌+◌, ◌-◌, ◌<◌, ◌≤◌}
use native.Mathlib.Omega.{arith}
use mathlib.Core.Path.{◌≡◌, ◌∙◌}
use lib.ListN.{length, get_or, take}
use Rattle.store.specs.Edits.{places_of}
use Rattle.kernel_rename.proofs.Lone.{Walking, walking_start, walk_room, walked}
use Rattle.kernel_renumber.specs.Renumbers.{new_id, new_place}
use Rattle.kernel_renumber.proofs.Places.{walk_cycle}
use Rattle.kernel_renumber.proofs.rename_cycles.Goals as goal

-- the places of the cycle in turn
room : (t : goal.After-rename_cycle)
    → t.loop-i.at + places_of 1 (get_or t.args.cycles.now t.loop-i.i 0) ≤ 2048
room t =
    let s = t in
    walk_room t.loop-i.invariant.1 s.args.k (omega arith) (omega (arith, s.requires.k_le_cycles_most, s.requires.cycles_len.0)) s.requires.cycles_bound

room_2 : (t : goal.After-rename_cycle-arg-1)
    → t.loop-i.at + places_of 1 (get_or t.args.cycles.now t.loop-i.i 0) ≤ 2048
room_2 t =
    let s = t in
    walk_room t.loop-i.invariant.1 s.args.k (omega arith) (omega (arith, s.requires.k_le_cycles_most, s.requires.cycles_len.0)) s.requires.cycles_bound

pub loop-i-init : goal.loop-i-init
loop-i-init c =
    let a = c.args in
    (omega arith, walking_start (new_place (new_id (take a.n a.ids.now))) a.cycles.now a.steps.now)

pub rename_cycle-requires : goal.rename_cycle-requires
rename_cycle-requires c =
    let t = c in
    let s = t in
    let z = t.loop-i.invariant.1.size ∙ s.requires.cycles_len.1 in
    record {
      table = s.requires.table;
      k_in_bounds = omega (arith, room_2 t, c.places-m.ensures, z);
      steps_len = z;
    }

pub overflow_add-at : goal.overflow_add-at
overflow_add-at c = record { fits = omega (arith, room c, c.places-m.ensures) }

pub loop-i-preserved : goal.loop-i-preserved
loop-i-preserved c =
    let p = c in
    let t = p in
    let at = t in
    let s = at in
    let a = s.args in
    let h : at.loop-i.i < length a.cycles.now = omega (arith, s.requires.k_le_cycles_most, s.requires.cycles_len.0) in
    let g : at.loop-i.at + p.places-m.result ≤ length a.steps.now = omega (arith, room t, p.places-m.ensures, s.requires.cycles_len.1) in (
      omega arith,
      walk_cycle (new_place (new_id (take a.n a.ids.now))) a.cycles.now a.steps.now at.loop-i.i at.loop-i.at at.loop-i.steps
          at.loop-i.invariant.1 h p.places-m.result p.places-m.ensures g _ c.rename_cycle.ensures,
    )

pub returns : goal.returns
returns c =
    let at = c in
    let s = at in
    let e : at.loop-i.i ≡ s.args.k = omega arith in
    let w = rw e at at.loop-i.invariant.1 in
    record {
      places_rewritten = walked w;
      steps_len = w.size ∙ s.requires.cycles_len.1;
    }
