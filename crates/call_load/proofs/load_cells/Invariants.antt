-- `load_cells` meets its contract. The loop's invariant: i cells stand in the rows, and their bends were kept or looked at. Assumes nothing.
use Prim.Native.Nat.{◌-◌, ◌≤◌}
use mathlib.Core.Path.{◌≡◌}
use Rattle.lent.specs.Sheets.{arrays, Same}
use Rattle.lent.proofs.Held.{numbered}
use Rattle.call_load.specs.Bare.{Stays}
use Rattle.call_load.proofs.Bare.{Bare}
use Rattle.call_load.proofs.load_cells.Given as goal

abbrev pub invariant-loop-i : goal.invariant-loop-i
invariant-loop-i l =
    record {
      inside : l.i ≤ l.n;
      rows : Bare l.keep l.s l.at l.n l.place (numbered (arrays l.sheet) 0 l.i) l.used l.good;
      stays : Stays l.keep l.initial.sheet.bx.now l.initial.sheet.by.now l.sheet.bx.now l.sheet.by.now;
      same : Same l.initial.sheet l.sheet;
      next : l.sheet.next.now ≡ l.initial.sheet.next.now;
      count : l.sheet.count.now ≡ l.initial.sheet.count.now;
    }
