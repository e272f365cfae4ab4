-- `entry_run::step_at` meets its contract: a command that is not read, or a step. Assumes nothing.
use native.Mathlib.Omega.{arith}
use mathlib.Core.Path.{sym, subst}
use lib.Dec.{T}
use Rattle.store.proofs.Lists.{all_left}
use Rattle.decode.proofs.Laws.{begins, unread}
use Rattle.lent.specs.Arrays.{Arrays, sound_arrays}
use Rattle.lent.specs.Replies.{Ready, line_says}
use Rattle.lent.specs.Sheets.{arrays}
use Rattle.entry_told.proofs.Going.{ahead_fits}
use Rattle.entry_run.proofs.Turning.{unread_in, read_in}
use Rattle.entry_run.proofs.step_at.Goals as goal

pub returns-in_default-clause-stepped_in : goal.returns-in_default-clause-stepped_in
returns-in_default-clause-stepped_in c =
    let a = c.args in
    let all = arrays a.sheet.now in
    unread_in a.script.now a.at c.requires.at_in_bounds (all_left a.at a.script.now) all c.requires.t
    (unread _ c.decode.ensures.result_value c.in_default.is)

pub sums-t-requires : goal.sums-t-requires
sums-t-requires c = subst (λ (x : Arrays). T (sound_arrays x)) (sym c.view.ensures) c.requires.t

pub obey-done-requires : goal.obey-done-requires
obey-done-requires c =
    record {
      ready = subst (λ (x : Arrays). Ready x c.sums-t.result) c.view.ensures c.sums-t.ensures;
      lists_lie = (begins c.decode.ensures.result_value c.decode.ensures.decoded_end c.in-Some.is).lists;
    }

pub overflow_add-end : goal.overflow_add-end
overflow_add-end c =
    let a = c.args in
    let b = begins c.decode.ensures.result_value c.decode.ensures.decoded_end c.in-Some.is in
    let h = ahead_fits a.script.now a.at c.requires.at_in_bounds (all_left a.at a.script.now) b in
    omega arith

pub overflow_sub-result : goal.overflow_sub-result
overflow_sub-result c =
    let a = c.args in
    ahead_fits a.script.now a.at c.requires.at_in_bounds (all_left a.at a.script.now)
    (begins c.decode.ensures.result_value c.decode.ensures.decoded_end c.in-Some.is)

pub returns-clause-stepped_in : goal.returns-clause-stepped_in
returns-clause-stepped_in c =
    let a = c.args in
    let all = arrays a.sheet.now in
    let b = begins c.decode.ensures.result_value c.decode.ensures.decoded_end c.in-Some.is in
    rw c.line_from-l.ensures
    (read_in a.script.now a.at c.requires.at_in_bounds (all_left a.at a.script.now) all c.requires.t b _ (line_says c.obey-done.result) c.obey-done.ensures.carried)
