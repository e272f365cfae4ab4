-- `leads` meets its contract. The loop's invariant: the steps that are left lead from here to w if all of them lead from u. Assumes nothing.
use Prim.Native.Nat.{◌-◌}
use mathlib.Core.Path.{◌≡◌, refl, sym, ◌∙◌}
use borrow.Author.Tests.{eq-eqb, ne_eqb}
use native.Mathlib.Omega.{arith}
use Rattle.sound.specs.Rows.{Rows, rows_of}
use Rattle.sound.proofs.Looking.{step_goes, step_head, step_dead}
use Rattle.decode_parts.proofs.Rest.{leaves_number}
use Rattle.script.proofs.Steps.{one_passed, one_stands, walking_start, walking_end, asking_stop, asking_turn, asking_end}
use Rattle.ask_face_joins.proofs.Joining.{leads_no, leads_on}
use Rattle.ask_face_joins.proofs.leads.Goals as goal

abbrev rows : goal.After-side-here → Rows
rows st = rows_of st.args.n st.args.ids.now st.args.kinds.now st.args.starts.now st.args.ends.now

abbrev rows_2 : goal.Then-not-goes_on → Rows
rows_2 st = rows_of st.args.n st.args.ids.now st.args.kinds.now st.args.starts.now st.args.ends.now

abbrev rows_3 : goal.Then-n-row → Rows
rows_3 st = rows_of st.args.n st.args.ids.now st.args.kinds.now st.args.starts.now st.args.ends.now

pub loop-init : goal.loop-init
loop-init c =
    let e : c.args.m - 0 ≡ c.args.m = omega arith in
    rw e (record { walk = walking_start c.requires.stand; is = refl }, c.requires.hinted.hints)

pub take_number-taken-requires : goal.take_number-taken-requires
take_number-taken-requires c = one_stands c.loop.invariant.0.walk.stand (omega arith) leaves_number

pub returns-then-n-row : goal.returns-then-n-row
returns-then-n-row c =
    let l = c.loop in
    let a = c.args in
    let p = c.requires.hinted.rows in
    let s = c.take_number-taken.result.value in
    let r = c.row_of-row.ensures in
    let g =
    step_dead a.n a.ids.now a.kinds.now a.starts.now a.ends.now _ s r.value (omega (arith, p.few, p.kinds)) c.if-n-row.true l.here in
    let e = asking_stop l.invariant.0 leaves_number (omega arith) c.take_number-taken.ensures (λ ns. leads_no (rows_3 c) l.here s ns a.w g) in
    record {
      walked = record { says = sym e };
      hints_len = r.hints_len_2;
    }

pub returns-then-not-goes_on : goal.returns-then-not-goes_on
returns-then-not-goes_on c =
    let l = c.loop in
    let a = c.args in
    let s = c.take_number-taken.result.value in
    let r = c.row_of-row.ensures in
    let g =
    step_goes a.n a.ids.now a.kinds.now a.starts.now a.ends.now _ s r.value l.here _ c.goes_on.ensures
    ∙ c.if-not-goes_on.true in
    let e = asking_stop l.invariant.0 leaves_number (omega arith) c.take_number-taken.ensures (λ ns. leads_no (rows_2 c) l.here s ns a.w g) in
    record {
      walked = record { says = sym e };
      hints_len = r.hints_len_2;
    }

pub loop-preserved : goal.loop-preserved
loop-preserved c =
    let l = c.loop in
    let a = c.args in
    let s = c.take_number-taken.result.value in
    let r = c.row_of-row.ensures in
    let g =
    step_goes a.n a.ids.now a.kinds.now a.starts.now a.ends.now _ s r.value l.here _ c.goes_on.ensures
    ∙ c.if-not-goes_on.false in
    let h = step_head a.n a.ids.now a.kinds.now a.starts.now a.ends.now _ s r.value _ c.side-here.ensures in
    rw one_passed (asking_turn l.invariant.0 leaves_number (omega arith) c.take_number-taken.ensures (λ ns. leads_on (rows c) l.here s ns a.w g _ h), r.hints_len_2)

pub returns-then-here-w : goal.returns-then-here-w
returns-then-here-w c =
    let l = c.loop.invariant in
    record {
      walked = record { says = (sym (asking_end l.0 leaves_number (omega arith)) ∙ eq-eqb _ _ c.if-here-w.true, walking_end l.0.walk leaves_number (omega arith)) };
      hints_len = l.1;
    }

pub returns : goal.returns
returns c =
    let l = c.loop.invariant in
    record {
      walked = record { says = sym (asking_end l.0 leaves_number (omega arith)) ∙ ne_eqb _ _ c.if-here-w.false };
      hints_len = l.1;
    }
