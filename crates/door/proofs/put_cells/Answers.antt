-- `put_cells` meets its contract: a row more at each turn. Assumes nothing.
use borrow.Author.Rules.{rules}
use Prim.Native.Nat.{◌+◌}
use mathlib.Core.Path.{refl, ap}
use native.Mathlib.Omega.{arith}
use Rattle.lent.specs.Arrays.{Arrays}
use Rattle.lent.specs.Sheets.{arrays}
use Rattle.lent.proofs.Held.{numbered, numbered_long}
use Rattle.door.proofs.Rows.{rest_kept, put_turn, put_all}
use Rattle.door.proofs.put_cells.Goals as goal

pub loop-i-init : goal.loop-i-init
loop-i-init c =
    record {
      inside = omega arith;
      rows = record { long = numbered_long _ 0 0 c.requires; front = refl; rows = refl };
      same = search rules;
      kept = refl;
    }

pub loop-i-preserved : goal.loop-i-preserved
loop-i-preserved c =
    let l = c.loop-i in
    let e = c.put_cell.ensures.put in
    record {
      inside = omega arith;
      rows =
          put_turn c.args.cells (search rules) (numbered (arrays l.sheet) 0 l.i) l.invariant.rows _ _ (omega arith) refl _
          (ap (λ (b : Arrays). numbered b 0 (l.i + 1)) e);
      same = search rules;
      kept = rest_kept (arrays c.args.sheet.now) (arrays l.sheet) (arrays c.put_cell.new.sheet) l.i _ _ l.invariant.kept e;
    }

pub returns-clause-all_rows : goal.returns-clause-all_rows
returns-clause-all_rows c =
    let l = c.loop-i in
    let r = put_all c.args.cells (search rules) (numbered (arrays l.sheet) 0 l.i) l.invariant.rows (omega arith) in
    record { cells = r.cells; rows = r.rows }
