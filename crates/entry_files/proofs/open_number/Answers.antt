-- `entry_files::open_number` meets its contract: 0, or 10. Assumes nothing.
use mathlib.Core.Path.{sym}
use Rattle.call_open.proofs.Judged.{opened_file, opened_none}
use Rattle.entry_files.proofs.open_number.Goals as goal

pub returns-in_default : goal.returns-in_default
returns-in_default c = sym (opened_none _ _ c.«open».result c.«open».ensures.opened_in c.in_default.is)

pub returns : goal.returns
returns c = sym (opened_file _ _ c.«open».result c.«open».ensures.opened_in _ c.in-Some.is).number
