-- `dazolbei::dz_block_run` meets its contract: 1, 9, or what the script's run leaves in the block. Assumes nothing.
use borrow.Author.Rules.{rules}
use Prim.Native.Nat.{◌≤◌}
use native.Mathlib.Omega.{arith}
use mathlib.Core.Path.{subst}
use lib.ListN.{length}
use Rattle.lent.specs.Arrays.{Arrays, of_lists}
use Rattle.call_asked.specs.Entries.{Asked}
use Rattle.call_asked.proofs.Questions.{asked_sums, asked_no}
use Rattle.entry_room.specs.Rooms.{lines_for}
use Rattle.entry_room.proofs.Rooms.{lines_parts, nine_of, none_of_lem}
use Rattle.dazolbei.proofs.Running.{run_unsound, run_short, run_done_lem}
use Rattle.dazolbei.proofs.dz_block_run.Goals as goal

pub returns-in_default : goal.returns-in_default
returns-in_default c =
    let s = of_lists c.args.next.now c.args.count.now c.args.ids.now c.args.kinds.now c.args.starts.now c.args.ends.now c.args.bends.now c.args.counts.now c.args.px.now c.args.py.now c.args.cycles.now c.args.steps.now c.args.bx.now c.args.by.now in
    let q : Asked s c.asked.result = subst (λ (x : Arrays). Asked x c.asked.result) c.view.ensures c.asked.ensures in
    run_unsound s c.args.script.now c.args.lines.now (asked_no s c.asked.result q c.in_default.is)

pub returns-then-no-ne0 : goal.returns-then-no-ne0
returns-then-no-ne0 c =
    let s = of_lists c.args.next.now c.args.count.now c.args.ids.now c.args.kinds.now c.args.starts.now c.args.ends.now c.args.bends.now c.args.counts.now c.args.px.now c.args.py.now c.args.cycles.now c.args.steps.now c.args.bx.now c.args.by.now in
    let q : Asked s c.asked.result = subst (λ (x : Arrays). Asked x c.asked.result) c.view.ensures c.asked.ensures in
    run_short s c.args.script.now c.args.lines.now (asked_sums s c.asked.result _ q c.in-Some.is).sound _
    (nine_of (lines_for (length c.args.script.now) (length c.args.lines.now)) c.lines_no-no.result c.lines_no-no.ensures c.if-no-ne0.true)

pub run_lines-n-requires : goal.run_lines-n-requires
run_lines-n-requires c =
    let a = c.args in
    let s = of_lists c.args.next.now c.args.count.now c.args.ids.now c.args.kinds.now c.args.starts.now c.args.ends.now c.args.bends.now c.args.counts.now c.args.px.now c.args.py.now c.args.cycles.now c.args.steps.now c.args.bx.now c.args.by.now in
    let q : Asked s c.asked.result = subst (λ (x : Arrays). Asked x c.asked.result) c.view.ensures c.asked.ensures in
    let room = none_of_lem (lines_for (length a.script.now) (length a.lines.now)) c.lines_no-no.result c.lines_no-no.ensures c.if-no-ne0.false in
    let p = lines_parts (length a.script.now) (length a.lines.now) room in
    record {
      t = (asked_sums s c.asked.result _ q c.in-Some.is).sound;
      script_in_bounds = p.0;
      script_in_bounds_2 = p.1;
    }

pub overflow_cast-commands : goal.overflow_cast-commands
overflow_cast-commands c =
    let a = c.args in
    let room = none_of_lem (lines_for (length a.script.now) (length a.lines.now)) c.lines_no-no.result c.lines_no-no.ensures c.if-no-ne0.false in
    let p = (lines_parts (length a.script.now) (length a.lines.now) room).0 in
    let f : c.run_lines-n.result ≤ length a.script.now = c.run_lines-n.ensures.ran_in.few in
    record { fits = omega arith }

pub returns : goal.returns
returns c =
    let a = c.args in
    let s = of_lists c.args.next.now c.args.count.now c.args.ids.now c.args.kinds.now c.args.starts.now c.args.ends.now c.args.bends.now c.args.counts.now c.args.px.now c.args.py.now c.args.cycles.now c.args.steps.now c.args.bx.now c.args.by.now in
    let q : Asked s c.asked.result = subst (λ (x : Arrays). Asked x c.asked.result) c.view.ensures c.asked.ensures in
    let room = none_of_lem (lines_for (length a.script.now) (length a.lines.now)) c.lines_no-no.result c.lines_no-no.ensures c.if-no-ne0.false in
    let e = run_done_lem _ a.script.now a.lines.now (asked_sums s c.asked.result _ q c.in-Some.is).sound room _ _ c.run_lines-n.result
    c.run_lines-n.ensures.ran_in in
    search rules
