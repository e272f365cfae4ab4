-- `turns` meets its contract. The loop keeps: the whole test is the test of the cycles left, whose steps begin at `from`. Assumes nothing.
use borrow.Author.Rules.{rules}
use Prim.Native.Nat.{ℕ, ◌+◌, ◌-◌, ◌≤◌}
use mathlib.Core.Path.{sym, ◌∙◌}
use native.Mathlib.Omega.{arith}
use lib.ListN.{get_or}
use Rattle.complex.specs.Cells.{Cycle, steps_of}
use Rattle.complex.specs.Uses.{passages}
use Rattle.store.specs.View.{width}
use Rattle.store.proofs.Lists.{places_one}
use Rattle.sound.specs.Rows.{rows_of}
use Rattle.ask_uncut_turns.specs.Turns.{turns_at}
use Rattle.ask_uncut_turns.proofs.Turning.{Rounding, rounding_start, rounding_room, rounding_found, rounding_turn, rounding_end}
use Rattle.ask_uncut_turns.proofs.turns.Goals as goal

-- its steps stand within the array
room : (t : goal.After-places-from) → t.loop-i.from + width (get_or t.args.cycles.now t.loop-i.i 0) ≤ 2048
room t = let q = t.requires in rounding_room t.loop-i.invariant.1 (omega (arith, q.cycled.counts, q.cycled.few)) (omega arith) 2048 q.cycled.wide

room_2 : (t : goal.After-c-1) → t.loop-i.from + width (get_or t.args.cycles.now t.loop-i.i 0) ≤ 2048
room_2 t = let q = t.requires in rounding_room t.loop-i.invariant.1 (omega (arith, q.cycled.counts, q.cycled.few)) (omega arith) 2048 q.cycled.wide

pub loop-i-init : goal.loop-i-init
loop-i-init c = (omega arith, rounding_start _ _ _ _ _)

pub cycle_turns-requires : goal.cycle_turns-requires
cycle_turns-requires c = let p = c.requires in record {
  rowed = p.rowed;
  steps_len = p.cycled.steps;
  c_bound = room_2 c;
}

pub returns-then-cycle_turns : goal.returns-then-cycle_turns
returns-then-cycle_turns c =
    let at = c in
    let q = at.requires in
    rounding_found at.loop-i.invariant.1 (omega (arith, q.cycled.counts, q.cycled.few)) (omega arith) (sym c.cycle_turns.ensures ∙ c.if-cycle_turns.true)

pub overflow_add-from : goal.overflow_add-from
overflow_add-from c =
    let t = c in
    record { fits = omega (arith, c.places-from.ensures ∙ places_one (get_or t.args.cycles.now t.loop-i.i 0), room t) }

pub loop-i-preserved : goal.loop-i-preserved
loop-i-preserved c =
    let t = c in
    let q = t.requires in (
      omega (arith, t),
      rounding_turn t.loop-i.invariant.1 (omega (arith, q.cycled.counts, q.cycled.few)) (omega (arith, t))
          (sym c.cycle_turns.ensures ∙ c.if-cycle_turns.false) _ (c.places-from.ensures ∙ places_one (get_or t.args.cycles.now t.loop-i.i 0)),
    )

pub returns : goal.returns
returns c = let q = c.requires in rounding_end c.loop-i.invariant.1 (omega (arith, q.cycled.counts, q.cycled.few)) (omega arith)
