-- `file_parts::put_numbers` meets its contract. The loop's invariant: the first i numbers are written. Assumes nothing.
use borrow.Author.Rules.{rules}
use Prim.Native.Nat.{ℕ, ◌+◌, ◌-◌, ◌<◌, ◌≤◌}
use mathlib.Core.Path.{◌≡◌, ap, subst}
use native.Mathlib.Omega.{arith}
use lib.Dec.{T, ltb→lt}
use lib.ListN.{length, take, get_or}
use Rattle.number.specs.Readers.{spread}
use Rattle.number.specs.Numbers.{spell}
use Rattle.file_parts.specs.Parts.{BytesPut, run_of, spells}
use Rattle.file_parts.proofs.Laying.{put_of, put_none, put_size, put_turn, put_room, put_all, run_length, run_get, all_get}
use Rattle.file_parts.proofs.put_numbers.Given as goal

abbrev pub invariant-loop-i : goal.invariant-loop-i
invariant-loop-i l = (l.i ≤ l.n) × BytesPut l.initial.out l.at (spread spell (take l.i (run_of l.from l.n l.src))) l.out l.place
