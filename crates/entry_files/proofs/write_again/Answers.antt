-- `entry_files::write_again` meets its contract: 10, or the bytes that were read. Assumes nothing.
use native.Mathlib.Omega.{arith}
use mathlib.Core.Path.{ap, ◌∙◌}
use Rattle.number.proofs.Bytes.{Bytes}
use Rattle.complex.specs.Calls.{Filled}
use Rattle.call_open.proofs.Judged.{opened_none}
use Rattle.entry_files.proofs.Counts.{write_few}
use Rattle.entry_files.proofs.Opening.{opened_seen, again_refused, again_is}
use Rattle.entry_files.proofs.write_again.Goals as goal

pub returns-in_default : goal.returns-in_default
returns-in_default c = again_refused c.args.file.now (opened_none _ _ c.«open».result c.«open».ensures.opened_in c.in_default.is) c.args.buffer.now

pub write-w-requires : goal.write-w-requires
write-w-requires c =
    (opened_seen c.args.file.now c.«open».result _ c.view.ensures c.«open».ensures.opened_in c.in-Some.is).ready

pub overflow_cast-count : goal.overflow_cast-count
overflow_cast-count c =
    let f = opened_seen c.args.file.now c.«open».result _ c.view.ensures c.«open».ensures.opened_in c.in-Some.is in
    let e = ap (λ (x : Filled). x.count) c.write-w.ensures in
    let h = write_few _ _ f.ready c.args.buffer.now in
    record { fits = omega arith }

pub returns : goal.returns
returns c =
    let B : Bytes c.args.file.now = λ n. (c.shared_slice_known-1.given n).fits in
    let f = opened_seen c.args.file.now c.«open».result _ c.view.ensures c.«open».ensures.opened_in c.in-Some.is in
    c.write-w.ensures ∙ again_is c.args.file.now _ _ f B c.args.buffer.now
