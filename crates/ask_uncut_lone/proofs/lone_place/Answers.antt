-- `lone_place` meets its contract. The loop keeps: the place is among the cycles left. Assumes nothing.
use mathlib.Core.Path.{sym, ◌∙◌}
use native.Mathlib.Omega.{arith}
use lib.ListN.{get_or}
use Rattle.store.proofs.Lists.{places_one}
use Rattle.ask_uncut_lone.proofs.Search.{seeking_start, seeking_room, seeking_found, seeking_turn, seeking_end}
use Rattle.ask_uncut_lone.proofs.lone_place.Goals as goal

pub loop-i-init : goal.loop-i-init
loop-i-init c = seeking_start _ _ _ _

pub is_lone-requires : goal.is_lone-requires
is_lone-requires c = record {
  steps_len = c.requires.steps_len;
  c_bound = seeking_room c.loop-i.invariant (omega arith) (omega arith) c.requires.cycles_bound;
}

pub returns-then-is_lone : goal.returns-then-is_lone
returns-then-is_lone c = seeking_found c.loop-i.invariant (omega arith) (omega arith) (sym c.is_lone.ensures ∙ c.if-is_lone.true)

pub overflow_add-from : goal.overflow_add-from
overflow_add-from c =
    let room = seeking_room c.loop-i.invariant (omega arith) (omega arith) c.requires.cycles_bound in
    record { fits = omega (arith, c.places-from.ensures ∙ places_one (get_or c.args.cycles.now c.loop-i.i 0), room) }

pub loop-i-preserved : goal.loop-i-preserved
loop-i-preserved c =
    let e = c.places-from.ensures ∙ places_one (get_or c.args.cycles.now c.loop-i.i 0) in
    let n = sym c.is_lone.ensures ∙ c.if-is_lone.false in
    seeking_turn c.loop-i.invariant (omega arith) (omega arith) n _ e

pub returns : goal.returns
returns c = seeking_end c.loop-i.invariant (omega arith) (omega arith)
