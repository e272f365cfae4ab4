-- `script::put_cycles` meets its contract. The loop's invariant: what is left to load makes, from here on, what all of it makes. Assumes nothing.
use mathlib.Core.Path.{◌≡◌, ◌∙◌}
use native.Mathlib.Omega.{arith}
use Prim.Native.Nat.{◌+◌, ◌-◌}
use Rattle.script.proofs.Steps.{one_passed}
use Rattle.script.proofs.Loads.{length_stands, cycle_stands, loading_start, loading_one, loading_fit, loading_turn}
use Rattle.script.proofs.Loads.{loading_used, loading_lengths, loading_places}
use Rattle.script.proofs.put_cycles.Goals as goal

pub loop-i-init : goal.loop-i-init
loop-i-init c =
    let w = c.wide.ensures in
    let e : c.args.row + c.wide.result - c.args.row ≡ c.args.count = omega arith in
    rw e (loading_start _ _ _ _ _ _ _ c.requires.script_room.stand)

pub take_number-size-requires : goal.take_number-size-requires
take_number-size-requires c = length_stands c.loop-i.invariant.walk.stand (omega arith)

pub copy_numbers-at-requires : goal.copy_numbers-at-requires
copy_numbers-at-requires c =
    let l = c.loop-i.invariant in
    let w = c.places-width.ensures in
    let h = loading_fit c.requires.script_room l (omega arith) c.take_number-size.ensures w in
    let z = c.requires in
    record {
      stand = cycle_stands c.take_number-size.ensures w (loading_one c.requires.script_room l (omega arith));
      count_bound = omega arith;
      out_len = l.steps_size ∙ z.steps_len;
    }

pub loop-i-preserved : goal.loop-i-preserved
loop-i-preserved c =
    rw one_passed (loading_turn c.requires.script_room c.loop-i.invariant (omega arith) c.take_number-size.ensures
    c.places-width.ensures c.copy_numbers-at.ensures)

pub returns : goal.returns
returns c =
    let p = c.requires.script_room in
    let l = c.loop-i.invariant in
    record {
      value = loading_used p l (omega arith);
      counts_after = loading_lengths p l (omega arith);
      steps_after = loading_places p l (omega arith);
    }
