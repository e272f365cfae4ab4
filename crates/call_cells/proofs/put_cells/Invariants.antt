-- `put_cells` meets its contract. The loop's invariant: the first i cells are written, and place is where the next one's parts begin. Assumes nothing.
use Prim.Native.Nat.{◌-◌, ◌≤◌}
use mathlib.Core.Path.{◌≡◌}
use lib.ListN.{take}
use Rattle.number.specs.Readers.{spread}
use Rattle.complex.specs.File.{cell_bytes}
use Rattle.store.specs.View.{cycles_from, cells_of}
use Rattle.file_parts.specs.Parts.{BytesPut, positions_from}
use Rattle.file_write.proofs.Cells.{place_of}
use Rattle.lent.specs.Arrays.{held_by}
use Rattle.lent.specs.Sheets.{seen}
use Rattle.call_cells.proofs.put_cells.Given as goal

abbrev pub invariant-loop-i : goal.invariant-loop-i
invariant-loop-i l =
    (l.i ≤ l.n) × (l.place ≡ place_of (held_by (seen l.view)).cells l.view.cycles.now l.i)
    × BytesPut l.initial.buffer l.start
    (spread cell_bytes (take l.i (cells_of (take l.n (held_by (seen l.view)).cells) (cycles_from l.view.cycles.now l.view.steps.now) (positions_from l.view.bx.now l.view.by.now)))) l.buffer
    l.at
