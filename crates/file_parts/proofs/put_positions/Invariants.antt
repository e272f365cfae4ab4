-- `file_parts::put_positions` meets its contract. The loop's invariant: the first i positions are written. Assumes nothing.
use borrow.Author.Rules.{rules}
use Prim.Native.Nat.{ℕ, ◌+◌, ◌-◌, ◌<◌, ◌≤◌}
use mathlib.Core.Path.{◌≡◌, ap, sym, ◌∙◌, subst}
use mathlib.Core.List.{List}
use native.Mathlib.Omega.{arith}
use lib.Dec.{T}
use lib.Ieee.{nan}
use lib.ListN.{length, take, get_or}
use Rattle.number.specs.Readers.{spread}
use Rattle.coordinate.specs.declared.Position.{Position}
use Rattle.coordinate.specs.Bounds.{within}
use Rattle.coordinate.specs.Positions.{position_bytes}
use Rattle.coordinate.proofs.Laws.{sixteen_bytes}
use Rattle.complex.specs.Cells.{origin}
use Rattle.file_parts.specs.Parts.{BytesPut, run_of, positions_from}
use Rattle.file_parts.proofs.Laying.{put_of, put_none, put_size, put_turn, put_room, put_all, all_get, bends_size, bend_at}
use Rattle.file_parts.proofs.put_positions.Given as goal

abbrev pub invariant-loop-i : goal.invariant-loop-i
invariant-loop-i l = (l.i ≤ l.n) × BytesPut l.initial.out l.at (spread position_bytes (take l.i (run_of l.from l.n (positions_from l.xs l.ys)))) l.out l.place
