-- `entry_files::check` meets its contract: 10, or the verdict on the drawing that was read. Assumes nothing.
use native.Mathlib.Omega.{arith}
use mathlib.Core.Path.{sym, subst}
use Rattle.lent.specs.Arrays.{Lengths}
use Rattle.lent.specs.Sheets.{arrays}
use Rattle.call_load.specs.Bare.{exit_of}
use Rattle.call_load.specs.Loads.{SheetIn}
use Rattle.call_open.proofs.Judged.{loaded_some, loaded_long, loaded_not}
use Rattle.entry_files.proofs.Checking.{check_refused, check_is}
use Rattle.entry_files.proofs.check.Goals as goal

pub returns-in_default : goal.returns-in_default
returns-in_default c =
    record {
      visited_after = check_refused c.args.file.now (loaded_not c.args.file.now (λ next n xs ys. exit_of n (arrays c.load.new.sheet) xs ys next) c.load.new.sheet.bx.now c.load.new.sheet.by.now c.load.result c.load.ensures.rows_loaded c.in_default.is);
      sound_bound = omega arith;
    }

pub tell-requires : goal.tell-requires
tell-requires c = c.check-v.ensures.visited_le_cells_most

pub returns : goal.returns
returns c =
    let S = loaded_some c.args.file.now (λ next n xs ys. exit_of n (arrays c.load.new.sheet) xs ys next) c.load.new.sheet.bx.now c.load.new.sheet.by.now c.load.result c.load.ensures.rows_loaded _ _ _ c.in-Some.is in
    let L = loaded_long c.args.file.now (λ next n xs ys. exit_of n (arrays c.load.new.sheet) xs ys next) c.load.new.sheet.bx.now c.load.new.sheet.by.now c.load.result c.load.ensures.rows_loaded _ _ _ c.in-Some.is in
    let S' = subst (SheetIn c.args.file.now) (sym c.view.ensures) S in
    let L' = subst Lengths (sym c.view.ensures) L in
    record {
      visited_after = check_is c.args.file.now _ S' L' c.tell.new.sound c.tell.new.visited _ c.tell.ensures.visited_after c.check-v.ensures.result_value;
      sound_bound = c.tell.ensures.sound_bound;
    }
