-- `cycles_named` meets its contract. The loop's invariant: the cycles that are left name vertices and edges if all of them do. Assumes nothing.
use lib.ListN.{take}
use mathlib.Core.Path.{◌≡◌, refl, sym, ◌∙◌}
use native.Mathlib.Omega.{arith}
use Prim.Native.Nat.{◌-◌}
use Rattle.decode_parts.proofs.Rest.{leaves_cycle}
use Rattle.script.proofs.Steps.{one_passed, one_stands, walking_start, asking_end}
use Rattle.ask_face_named.specs.Walks.{names_in}
use Rattle.ask_face_named.proofs.Passing.{first_fails, first_passes}
use Rattle.ask_face_named.proofs.cycles_named.Goals as goal

pub loop-init : goal.loop-init
loop-init c =
    let e : c.args.k - 0 ≡ c.args.k = omega arith in
    rw e (record { walk = walking_start c.requires.stand; is = refl })

pub cycle_named-requires : goal.cycle_named-requires
cycle_named-requires c = record {
  stand = one_stands c.loop.invariant.walk.stand (omega arith) leaves_cycle;
  valued = c.requires.valued;
}

pub returns-then-not-cycle_named : goal.returns-then-not-cycle_named
returns-then-not-cycle_named c =
    first_fails (names_in (take c.args.n c.args.ids.now) (take c.args.n c.args.kinds.now)) c.loop.invariant leaves_cycle (omega arith) (sym c.cycle_named.ensures ∙ c.if-not-cycle_named.true)

pub cycle_end-at-requires : goal.cycle_end-at-requires
cycle_end-at-requires c = one_stands c.loop.invariant.walk.stand (omega arith) leaves_cycle

pub loop-preserved : goal.loop-preserved
loop-preserved c =
    rw one_passed (first_passes (names_in (take c.args.n c.args.ids.now) (take c.args.n c.args.kinds.now)) c.loop.invariant leaves_cycle (omega arith) c.cycle_end-at.ensures
    (sym c.cycle_named.ensures ∙ c.if-not-cycle_named.false))

pub returns : goal.returns
returns c = asking_end c.loop.invariant leaves_cycle (omega arith)
