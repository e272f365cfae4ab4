-- `entry_room::lines_no` meets its contract, test by test. Assumes nothing.
use Prim.Native.Nat.{◌*◌}
use native.Mathlib.Omega.{arith}
use borrow.Author.Rules.{rules}
use borrow.Author.Tests.{lt-ltb, le-ltb, le-leb, lt-leb}
use mathlib.Core.Path.{◌≡◌}
use Rattle.entry_room.proofs.lines_no.Goals as goal

pub returns-then-script-gt-SCRIPT_MOST : goal.returns-then-script-gt-SCRIPT_MOST
returns-then-script-gt-SCRIPT_MOST c = rw (le-ltb c.args.script 4294967296 (omega arith))

pub returns-then-lines-script : goal.returns-then-lines-script
returns-then-lines-script c = let a = c.args in rw (lt-ltb a.script 4294967296 (omega arith), lt-leb (5 * a.script) a.lines (omega arith))

pub returns : goal.returns
returns c = let a = c.args in rw (lt-ltb a.script 4294967296 (omega arith), le-leb (5 * a.script) a.lines (omega arith))
