-- `entry_files::star` meets its contract: 10, or the star in the drawing that was read. Assumes nothing.
use native.Mathlib.Omega.{arith}
use mathlib.Core.Path.{ap, ◌∙◌}
use Rattle.complex.specs.Calls.{Filled}
use Rattle.call_open.proofs.Judged.{opened_none}
use Rattle.entry_files.proofs.Counts.{star_few}
use Rattle.entry_files.proofs.Opening.{opened_seen, star_refused, star_is}
use Rattle.entry_files.proofs.star.Goals as goal

pub returns-in_default : goal.returns-in_default
returns-in_default c = star_refused c.args.file.now (opened_none _ _ c.«open».result c.«open».ensures.opened_in c.in_default.is) c.args.id c.args.buffer.now

pub star-s-requires : goal.star-s-requires
star-s-requires c =
    (opened_seen c.args.file.now c.«open».result _ c.view.ensures c.«open».ensures.opened_in c.in-Some.is).ready

pub overflow_cast-count : goal.overflow_cast-count
overflow_cast-count c =
    let f = opened_seen c.args.file.now c.«open».result _ c.view.ensures c.«open».ensures.opened_in c.in-Some.is in
    let e = ap (λ (x : Filled). x.count) c.star-s.ensures in
    let h = star_few _ _ f.ready c.args.id c.args.buffer.now in
    record { fits = omega arith }

pub returns : goal.returns
returns c =
    let f = opened_seen c.args.file.now c.«open».result _ c.view.ensures c.«open».ensures.opened_in c.in-Some.is in
    c.star-s.ensures ∙ star_is c.args.file.now _ _ f c.args.id c.args.buffer.now
