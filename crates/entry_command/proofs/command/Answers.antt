-- `entry_command::command` meets its contract: 1, 2, or what the kind answers. Assumes nothing.
use mathlib.Core.Path.{subst}
use Rattle.decode.proofs.Laws.{begins, unread}
use Rattle.lent.specs.Arrays.{Arrays}
use Rattle.lent.specs.Replies.{line_says}
use Rattle.lent.specs.Sheets.{arrays}
use Rattle.call_asked.specs.Entries.{Asked}
use Rattle.call_asked.proofs.Questions.{asked_sums, asked_no}
use Rattle.entry_command.proofs.Commanding.{commanded_unsound, commanded_unread, commanded_carried}
use Rattle.entry_command.proofs.command.Goals as goal

pub returns-in_default-clause-commanded_in : goal.returns-in_default-clause-commanded_in
returns-in_default-clause-commanded_in c =
    let a = arrays c.args.sheet.now in
    let q = subst (λ (x : Arrays). Asked x c.asked.result) c.view.ensures c.asked.ensures in
    commanded_unsound a c.args.script.now c.line_of.result (asked_no a c.asked.result q c.in_default.is) c.line_of.ensures

pub returns-in_default-decode-clause-commanded_in : goal.returns-in_default-decode-clause-commanded_in
returns-in_default-decode-clause-commanded_in c =
    let a = arrays c.args.sheet.now in
    let q = subst (λ (x : Arrays). Asked x c.asked.result) c.view.ensures c.asked.ensures in
    let w = (asked_sums a c.asked.result _ q c.in-Some.is).sound in
    let u = unread c.args.script.now c.decode.ensures.result_value c.in_default-decode.is in
    commanded_unread a c.args.script.now c.line_of-in_default-decode.result w u c.line_of-in_default-decode.ensures

pub obey-done-requires : goal.obey-done-requires
obey-done-requires c =
    let a = arrays c.args.sheet.now in
    let q = subst (λ (x : Arrays). Asked x c.asked.result) c.view.ensures c.asked.ensures in
    record {
      ready = asked_sums a c.asked.result _ q c.in-Some.is;
      lists_lie = (begins c.decode.ensures.result_value c.decode.ensures.decoded_end c.in-Some-decode.is).lists;
    }

pub returns-clause-commanded_in : goal.returns-clause-commanded_in
returns-clause-commanded_in c =
    let a = arrays c.args.sheet.now in
    let q = subst (λ (x : Arrays). Asked x c.asked.result) c.view.ensures c.asked.ensures in
    let w = (asked_sums a c.asked.result _ q c.in-Some.is).sound in
    let b = begins c.decode.ensures.result_value c.decode.ensures.decoded_end c.in-Some-decode.is in
    rw c.line_from-line.ensures
    (commanded_carried a c.args.script.now (line_says c.obey-done.result) w _ _ _ b.read c.obey-done.ensures.carried)
