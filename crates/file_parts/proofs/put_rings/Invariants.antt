-- `file_parts::put_rings` meets its contract. The loop's invariant: the first i cycles are written, and the next one's steps begin at step. Assumes nothing.
use borrow.Author.Rules.{rules}
use Prim.Native.Nat.{ℕ, ◌+◌, ◌-◌, ◌<◌, ◌≤◌}
use mathlib.Core.Path.{◌≡◌, ap, ◌∙◌}
use mathlib.Core.List.{List}
use native.Mathlib.Omega.{arith}
use lib.ListN.{length, take, drop, get_or}
use Rattle.number.specs.Readers.{spread}
use Rattle.complex.specs.Cells.{Cycle, lone}
use Rattle.complex.specs.Decode.{cycle_bytes}
use Rattle.store.specs.View.{width_sum, cycle_of, cycles_from}
use Rattle.store.proofs.Lists.{places_one}
use Rattle.file_parts.specs.Parts.{BytesPut, run_of}
use Rattle.file_parts.proofs.Laying.{put_none, put_size, put_turn, put_room, put_all}
use Rattle.file_parts.proofs.Cycles.{NextRing, next_ring, rings_size}
use Rattle.file_parts.proofs.put_rings.Given as goal

abbrev pub invariant-loop-i : goal.invariant-loop-i
invariant-loop-i l =
    (l.i ≤ l.n) × (l.step ≡ l.first + width_sum (take l.i (run_of l.from l.n l.cycles)))
    × BytesPut l.initial.out l.at (spread cycle_bytes (take l.i (cycles_from (run_of l.from l.n l.cycles) (drop l.first l.steps)))) l.out l.place
