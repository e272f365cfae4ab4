-- `load` meets its contract. Assumes nothing.
use Rattle.file_read.proofs.Verdict.{cells_over}
use Rattle.call_load.proofs.Loads.{counts_some, counts_none}
use Rattle.call_load.proofs.Bare.{bare_yes, bare_no, rows_in_lem}
use Rattle.call_load.proofs.load.Goals as goal

pub returns-in_default-clause-rows_loaded : goal.returns-in_default-clause-rows_loaded
returns-in_default-clause-rows_loaded c = counts_none c.args.bytes.now c.counts_at.result c.counts_at.ensures c.in_default.is

pub load_cells-requires : goal.load_cells-requires
load_cells-requires c =
    let C = counts_some _ c.counts_at.result c.counts_at.ensures _ _ _ c.in-Some.is in
    record {
      at_in_bounds = C.inside;
      n_le_cells_most = C.few;
    }

pub returns-in_default-load_cells-clause-rows_loaded : goal.returns-in_default-load_cells-clause-rows_loaded
returns-in_default-load_cells-clause-rows_loaded c =
    let C = counts_some _ c.counts_at.result c.counts_at.ensures _ _ _ c.in-Some.is in
    cells_over c.args.bytes.now _ _ C.first _ _ C.second
    (bare_no _ _ _ _ _ c.load_cells.result c.load_cells.ensures.rows_told c.in_default-load_cells.is)

pub returns-clause-rows_loaded : goal.returns-clause-rows_loaded
returns-clause-rows_loaded c =
    let C = counts_some _ c.counts_at.result c.counts_at.ensures _ _ _ c.in-Some.is in
    rows_in_lem _ _ _ _ _ C _ _ _ _ (bare_yes _ _ _ _ _ c.load_cells.result c.load_cells.ensures.rows_told _ c.in-Some-load_cells.is)
