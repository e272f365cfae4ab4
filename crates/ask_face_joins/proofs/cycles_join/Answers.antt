-- `cycles_join` meets its contract. The loop's invariant: the cycles that are left join if all of them do. Assumes nothing.
use mathlib.Core.Bool.{false}
use mathlib.Core.Path.{◌≡◌, refl}
use native.Mathlib.Omega.{arith}
use Prim.Native.Nat.{◌-◌}
use Rattle.sound.specs.Rows.{rows_of}
use Rattle.decode_parts.proofs.Rest.{leaves_cycle}
use Rattle.script.proofs.Steps.{one_passed, one_stands, walking_start, asking_end}
use Rattle.ask_face_named.specs.Walks.{passes_in}
use Rattle.ask_face_named.proofs.Passing.{walked_to, walked_no, first_fails, first_passes}
use Rattle.ask_face_joins.proofs.cycles_join.Goals as goal

pub loop-init : goal.loop-init
loop-init c =
    let e : c.args.k - 0 ≡ c.args.k = omega arith in
    rw e (record { walk = walking_start c.requires.stand; is = refl }, c.requires.hints_len)

pub cycle_joins-requires : goal.cycle_joins-requires
cycle_joins-requires c =
    let l = c.loop.invariant in
    record {
      stand = one_stands l.0.walk.stand (omega arith) leaves_cycle;
      hinted = record { rows = c.requires.rowed; hints = l.1 };
    }

pub returns-in_default : goal.returns-in_default
returns-in_default c =
    first_fails (passes_in (rows_of c.args.n c.args.ids.now c.args.kinds.now c.args.starts.now c.args.ends.now) false) c.loop.invariant.0 leaves_cycle (omega arith) (walked_no c.cycle_joins.ensures.walked c.in_default.is)

pub loop-preserved : goal.loop-preserved
loop-preserved c =
    let w = walked_to c.cycle_joins.ensures.walked c.in-Some.is in
    rw one_passed (first_passes (passes_in (rows_of c.args.n c.args.ids.now c.args.kinds.now c.args.starts.now c.args.ends.now) false) c.loop.invariant.0 leaves_cycle (omega arith) w.1 w.0, c.cycle_joins.ensures.hints_len)

pub returns : goal.returns
returns c = asking_end c.loop.invariant.0 leaves_cycle (omega arith)
