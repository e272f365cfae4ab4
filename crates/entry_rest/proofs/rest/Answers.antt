-- `rest` meets its contract: what decoding leaves, or all of it. Assumes nothing.
use native.Mathlib.Omega.{arith}
use mathlib.Core.Path.{sym, ◌∙◌}
use Rattle.number.specs.Readers.{bad}
use Rattle.complex.specs.Answer.{rest}
use Rattle.decode.proofs.Laws.{begins, unread}
use Rattle.store.specs.View.{sheet_of}
use Rattle.store.proofs.Lists.{all_left}
use Rattle.lent.specs.Arrays.{held_by}
use Rattle.lent.specs.Sheets.{seen}
use Rattle.call_asked.proofs.Questions.{asked_sums, asked_no, of_unsound, rest_is}
use Rattle.entry_rest.proofs.rest.Goals as goal

pub returns-in_default : goal.returns-in_default
returns-in_default c =
    let a = c.args in
    let all = seen a.view.now in
    of_unsound all (rest (sheet_of (held_by all)) a.script.now) a.script.now (asked_no all _ c.asked.ensures c.in_default.is)

pub returns-in_default-decode : goal.returns-in_default-decode
returns-in_default-decode c =
    let a = c.args in
    let all = seen a.view.now in
    let w = (asked_sums all _ _ c.asked.ensures c.in-Some.is).sound in
    sym (rest_is all w a.script.now bad (unread a.script.now c.decode.ensures.result_value c.in_default-decode.is))

pub slice_bounds-result-count : goal.slice_bounds-result-count
slice_bounds-result-count c =
    let f = (begins c.decode.ensures.result_value c.decode.ensures.decoded_end c.in-Some-decode.is).fits in
    omega arith

pub slice_bounds-result-start : goal.slice_bounds-result-start
slice_bounds-result-start c =
    let f = (begins c.decode.ensures.result_value c.decode.ensures.decoded_end c.in-Some-decode.is).fits in
    omega arith

pub returns : goal.returns
returns c =
    let a = c.args in
    let all = seen a.view.now in
    let w = (asked_sums all _ _ c.asked.ensures c.in-Some.is).sound in
    let b = begins c.decode.ensures.result_value c.decode.ensures.decoded_end c.in-Some-decode.is in
    all_left c.in-Some-decode.end a.script.now ∙ sym (rest_is all w a.script.now _ b.read)
