-- `repeated` meets its contract. The loop's invariant: those that are left are s if all of them are. Assumes nothing.
use mathlib.Core.Path.{◌≡◌, refl, sym}
use borrow.Author.Tests.{eq-eqb, ne_eqb}
use native.Mathlib.Omega.{arith}
use lib.Dec.{eqb}
use Prim.Native.Nat.{◌-◌}
use Rattle.decode_parts.proofs.Rest.{leaves_number}
use Rattle.script.proofs.Steps.{one_passed, one_stands, walking_start, walking_end, asking_stop, asking_turn, asking_end}
use Rattle.ask_face_named.proofs.Walking.{first_no_lem, first_yes}
use Rattle.ask_face_joins.proofs.repeated.Goals as goal

pub loop-init : goal.loop-init
loop-init c =
    let e : c.args.m - 0 ≡ c.args.m = omega arith in
    rw e (record { walk = walking_start c.requires; is = refl })

pub take_number-taken-requires : goal.take_number-taken-requires
take_number-taken-requires c = one_stands c.loop.invariant.walk.stand (omega arith) leaves_number

pub returns-then-s-t : goal.returns-then-s-t
returns-then-s-t c =
    let s = c.args.s in
    let t = c.take_number-taken in
    let e = asking_stop c.loop.invariant leaves_number (omega arith) t.ensures
    (λ ns. first_no_lem (eqb s) t.result.value ns (ne_eqb _ _ c.if-s-t.true)) in
    record { says = sym e }

pub loop-preserved : goal.loop-preserved
loop-preserved c =
    let s = c.args.s in
    let t = c.take_number-taken in
    rw one_passed (asking_turn c.loop.invariant leaves_number (omega arith) t.ensures
    (λ ns. first_yes (eqb s) t.result.value ns (eq-eqb _ _ c.if-s-t.false)))

pub returns : goal.returns
returns c =
    let l = c.loop.invariant in
    record { says = (sym (asking_end l leaves_number (omega arith)), walking_end l.walk leaves_number (omega arith)) }
