-- `file_length` meets its contract: the sum of the parts' bytes. Assumes nothing.
use borrow.Author.Rules.{rules}
use native.Mathlib.Omega.{arith}
use Rattle.file_write.proofs.Filing.{next_spells}
use Rattle.lent.specs.Arrays.{held_by}
use Rattle.lent.specs.Sheets.{seen}
use Rattle.lent.proofs.Sums.{ready_sizes}
use Rattle.call_cells.proofs.Files.{ready_writable, ready_heads, cycle_numbers, step_numbers, length_is, length_small}
use Rattle.call_cells.proofs.file_length.Goals as goal

pub heads-h-requires : goal.heads-h-requires
heads-h-requires c =
    let a = c.args in
    let all = seen a.view.now in
    ready_heads all a.t c.requires

pub widths-c-requires : goal.widths-c-requires
widths-c-requires c =
    let a = c.args in
    let all = seen a.view.now in
    let n = cycle_numbers all a.t c.requires in record {
      spelled_numbers = n.0;
      n_bound = n.1;
    }

pub widths-s-requires : goal.widths-s-requires
widths-s-requires c =
    let a = c.args in
    let all = seen a.view.now in
    let n = step_numbers all a.t c.requires in record {
      spelled_numbers = n.0;
      n_bound = n.1;
    }

pub number_width-a-requires : goal.number_width-a-requires
number_width-a-requires c =
    let a = c.args in
    let all = seen a.view.now in
    next_spells (held_by all) (ready_sizes all a.t c.requires) (ready_writable all a.t c.requires)

pub overflow_cast-view : goal.overflow_cast-view
overflow_cast-view c =
    let a = c.args in
    let all = seen a.view.now in
    let f = (ready_writable all a.t c.requires).fits.cells in
    search rules

pub number_width-b-requires : goal.number_width-b-requires
number_width-b-requires c =
    let a = c.args in
    let all = seen a.view.now in
    let f = (ready_writable all a.t c.requires).fits.cells in
    omega arith

pub overflow_add-result : goal.overflow_add-result
overflow_add-result c =
    let a = c.args in
    let all = seen a.view.now in
    let e = length_is all a.t c.requires _ _ _ _ _ c.heads-h.ensures c.widths-c.ensures c.widths-s.ensures c.number_width-a.ensures c.number_width-b.ensures in
    let h = length_small all a.t c.requires in
    record { fits = omega arith }

pub overflow_mul-result : goal.overflow_mul-result
overflow_mul-result c =
    let a = c.args in
    let all = seen a.view.now in
    let e = length_is all a.t c.requires _ _ _ _ _ c.heads-h.ensures c.widths-c.ensures c.widths-s.ensures c.number_width-a.ensures c.number_width-b.ensures in
    let h = length_small all a.t c.requires in
    record { fits = omega arith }

pub overflow_add-result-2 : goal.overflow_add-result-2
overflow_add-result-2 c =
    let a = c.args in
    let all = seen a.view.now in
    let e = length_is all a.t c.requires _ _ _ _ _ c.heads-h.ensures c.widths-c.ensures c.widths-s.ensures c.number_width-a.ensures c.number_width-b.ensures in
    let h = length_small all a.t c.requires in
    record { fits = omega arith }

pub overflow_add-result-3 : goal.overflow_add-result-3
overflow_add-result-3 c =
    let a = c.args in
    let all = seen a.view.now in
    let e = length_is all a.t c.requires _ _ _ _ _ c.heads-h.ensures c.widths-c.ensures c.widths-s.ensures c.number_width-a.ensures c.number_width-b.ensures in
    let h = length_small all a.t c.requires in
    record { fits = omega arith }

pub overflow_add-result-4 : goal.overflow_add-result-4
overflow_add-result-4 c =
    let a = c.args in
    let all = seen a.view.now in
    let e = length_is all a.t c.requires _ _ _ _ _ c.heads-h.ensures c.widths-c.ensures c.widths-s.ensures c.number_width-a.ensures c.number_width-b.ensures in
    let h = length_small all a.t c.requires in
    record { fits = omega arith }

pub overflow_add-result-5 : goal.overflow_add-result-5
overflow_add-result-5 c =
    let a = c.args in
    let all = seen a.view.now in
    let e = length_is all a.t c.requires _ _ _ _ _ c.heads-h.ensures c.widths-c.ensures c.widths-s.ensures c.number_width-a.ensures c.number_width-b.ensures in
    let h = length_small all a.t c.requires in
    record { fits = omega arith }

pub returns : goal.returns
returns c =
    let a = c.args in
    let all = seen a.view.now in
    length_is all a.t c.requires _ _ _ _ _ c.heads-h.ensures c.widths-c.ensures c.widths-s.ensures c.number_width-a.ensures c.number_width-b.ensures
