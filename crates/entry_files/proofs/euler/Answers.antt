-- `entry_files::euler` meets its contract: 10, or the Euler number of the drawing that was read. Assumes nothing.
use mir.Syntax.{w32}
use mir.ValLaws.{to_z-of_z}
use mathlib.Core.Path.{◌∙◌}
use Rattle.call_open.proofs.Judged.{opened_none}
use Rattle.entry_files.proofs.Opening.{opened_seen, euler_refused, euler_is}
use Rattle.entry_files.proofs.euler.Goals as goal

pub returns-in_default : goal.returns-in_default
returns-in_default c = euler_refused c.args.file.now (opened_none _ _ c.«open».result c.«open».ensures.opened_in c.in_default.is)

pub euler-v-requires : goal.euler-v-requires
euler-v-requires c =
    (opened_seen c.args.file.now c.«open».result _ c.view.ensures c.«open».ensures.opened_in c.in-Some.is).ready.sound

pub returns : goal.returns
returns c =
    let f = opened_seen c.args.file.now c.«open».result _ c.view.ensures c.«open».ensures.opened_in c.in-Some.is in
    euler_is c.args.file.now _ _ f _ (to_z-of_z w32 c.euler-v.result (record { sfits = c.euler-v.type_inv }) ∙ c.euler-v.ensures)
