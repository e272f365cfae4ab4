-- `cycle_named` meets its contract. The loop's invariant: the steps that are left name edges if all of them do. Assumes nothing.
use native.Mathlib.Omega.{arith}
use mathlib.Core.Path.{◌≡◌, refl, sym, ◌∙◌}
use Prim.Native.Nat.{ℕ, ◌-◌}
use mathlib.Core.Bool.{Bool, true, false}
use mathlib.Core.List.{[]}
use lib.ListN.{take}
use Rattle.sound.specs.Rows.{rows_of}
use Rattle.decode_parts.proofs.Rest.{leaves_number}
use Rattle.script.proofs.Loads.{length_stands}
use Rattle.script.proofs.Steps.{one_passed, one_stands, walking_start, asking_stop, asking_turn, asking_end}
use Rattle.ask_face_named.specs.Walks.{step_named}
use Rattle.ask_face_named.proofs.Walking.{first_no_lem, first_yes}
use Rattle.ask_face_named.proofs.Passing.{walked_to, walked_no, stands_one, stands_some, passes_lone, passes_named}
use Rattle.ask_face_named.proofs.cycle_named.Goals as goal

-- whether a step names an edge
abbrev named : goal.Else-not-step_named → ℕ → Bool
named st = step_named (take st.args.n st.args.ids.now) (take st.args.n st.args.kinds.now)

abbrev named_2 : goal.Then-not-step_named → ℕ → Bool
named_2 st = step_named (take st.args.n st.args.ids.now) (take st.args.n st.args.kinds.now)

pub take_number-size-requires : goal.take_number-size-requires
take_number-size-requires c = length_stands c.requires.stand (omega arith)

-- ---- a lone vertex
pub lone_named-requires : goal.lone_named-requires
lone_named-requires c =
    record {
      stand = stands_one c.take_number-size.ensures c.requires.stand c.if-m-eq0.true;
      valued = c.requires.valued;
    }

pub returns-in_default : goal.returns-in_default
returns-in_default c =
    passes_lone c.take_number-size.ensures c.requires.stand (rows_of c.args.n c.args.ids.now c.args.kinds.now [] []) true c.if-m-eq0.true false
    (sym (walked_no c.lone_named.ensures c.in_default.is))

pub returns-then-m-eq0 : goal.returns-then-m-eq0
returns-then-m-eq0 c =
    passes_lone c.take_number-size.ensures c.requires.stand (rows_of c.args.n c.args.ids.now c.args.kinds.now [] []) true c.if-m-eq0.true true
    (sym (walked_to c.lone_named.ensures c.in-Some.is).0)

-- ---- steps
pub loop-init : goal.loop-init
loop-init c =
    let e : c.take_number-size.result.value - 0 ≡ c.take_number-size.result.value = omega arith in
    rw e (record { walk = walking_start (stands_some c.take_number-size.ensures c.requires.stand c.if-m-eq0.false); is = refl })

pub take_number-taken-requires : goal.take_number-taken-requires
take_number-taken-requires c = one_stands c.loop.invariant.walk.stand (omega arith) leaves_number

pub returns-then-not-step_named : goal.returns-then-not-step_named
returns-then-not-step_named c =
    passes_named c.take_number-size.ensures c.requires.stand (rows_of c.args.n c.args.ids.now c.args.kinds.now [] []) true c.if-m-eq0.false refl _
    (asking_stop c.loop.invariant leaves_number (omega arith) c.take_number-taken.ensures
    (λ ns. first_no_lem (named_2 c) c.take_number-taken.result.value ns (sym c.step_named.ensures ∙ c.if-not-step_named.true)))

pub loop-preserved : goal.loop-preserved
loop-preserved c =
    rw one_passed (asking_turn c.loop.invariant leaves_number (omega arith) c.take_number-taken.ensures
    (λ ns. first_yes (named c) c.take_number-taken.result.value ns (sym c.step_named.ensures ∙ c.if-not-step_named.false)))

pub returns : goal.returns
returns c =
    passes_named c.take_number-size.ensures c.requires.stand (rows_of c.args.n c.args.ids.now c.args.kinds.now [] []) true c.if-m-eq0.false refl _
    (asking_end c.loop.invariant leaves_number (omega arith))
