-- `take_out` meets its contract: the list of cycles, and then the cells go. Assumes nothing.
use Rattle.law_uncut_edge.proofs.Finding.{going}
use Rattle.law_uncut_edge.proofs.Results.{left_going, left_result}
use Rattle.lent.specs.Arrays.{Arrays, held_by, rows_by}
use Rattle.lent.specs.Sheets.{arrays}
use Rattle.lent.proofs.Sums.{ready_sizes, ready_rows}
use Rattle.lent.proofs.Finds.{ready_finds}
use Rattle.kind_uncut_edge.specs.Left.{Rest}
use Rattle.kind_uncut_edge.proofs.Leads.{after}
use Rattle.kind_uncut_edge.proofs.take_out.Goals as goal

-- the arrays that do not tell what is left
abbrev rest_of : Arrays → Rest
rest_of a = record { next = a.next; kinds = a.kinds; bends = a.bends; px = a.px; py = a.py; bx = a.bx; by = a.by }

pub left-l-requires : goal.left-l-requires
left-l-requires c =
    let s = c.args in
    record {
      rest = rest_of (arrays s.sheet.now);
      leaves = c.requires;
    }

pub find-a-requires : goal.find-a-requires
find-a-requires c = let whole = ready_finds _ _ c.requires.ready in record {
  n_bound = whole.0;
  ids_len = whole.1.0;
  rising = whole.1.1;
}

pub find-b-requires : goal.find-b-requires
find-b-requires c = let whole = ready_finds _ _ c.requires.ready in record {
  n_bound = whole.0;
  ids_len = whole.1.0;
  rising = whole.1.1;
}

pub reface-requires : goal.reface-requires
reface-requires c =
    let s = c.args in
    let a = arrays s.sheet.now in
    let y = c.requires.ready in
    let rest = rest_of a in
    let z = ready_sizes a s.t y in record {
      refaced = going (held_by a) z (rows_by a) _ _ _ _ _ _
          (left_going (held_by a) z (rows_by a) s.e s.k s.u s.w c.requires.is
          (c.left-l.ensures.every rest c.requires) _ c.gone_with-j.ensures)
          c.find-a.result c.find-b.result c.find-a.ensures c.find-b.ensures;
      lengths = y.long;
      by_value = ready_rows a s.t y;
    }

pub returns-clause-holds : goal.returns-clause-holds
returns-clause-holds c =
    let s = c.args in
    let a = arrays s.sheet.now in
    let y = c.requires.ready in
    let rest = rest_of a in
    after
    (left_result (held_by a) (ready_sizes a s.t y) (rows_by a) s.e s.k s.u s.w
    c.requires.is (c.left-l.ensures.every rest c.requires) _ c.gone_with-j.ensures)
    c.reface.ensures.holds
