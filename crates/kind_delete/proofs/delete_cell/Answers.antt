-- `delete_cell` meets its contract: question 4, then the arrays without the cell and its star. Assumes nothing.
use borrow.Author.Tests.{le-ltb}
use mathlib.Core.Path.{refl, sym, ap, ◌∙◌}
use Rattle.complex.specs.Decode.{delete}
use Rattle.complex.proofs.Asked.{early_none, no_4}
use Rattle.rows_star.proofs.Meaning.{readable}
use Rattle.law_move_delete.proofs.Edit.{delete_four, delete_live}
use Rattle.lent.specs.Arrays.{Arrays, held_by, rows_by}
use Rattle.lent.specs.Sheets.{arrays}
use Rattle.lent.proofs.Replies.{obeyed_no}
use Rattle.lent.proofs.Sums.{ready_drawing, ready_sizes, ready_fits, ready_indexes, ready_looks}
use Rattle.kind_delete.proofs.Delete.{obeyed_deleted}
use Rattle.kind_delete.proofs.delete_cell.Goals as goal

pub find-row-requires-clause-rising : goal.find-row-requires-clause-rising
find-row-requires-clause-rising c = (ready_looks _ _ c.requires).rising

pub returns-then-n-row-clause-obeyed : goal.returns-then-n-row-clause-obeyed
returns-then-n-row-clause-obeyed c =
    let a = arrays c.args.sheet.now in
    let t = c.args.t in
    let r = c.requires in
    let i = c.args.id in
    obeyed_no a r.sound (delete i) 4 _ refl
    (no_4 _ (delete i) (early_none (delete i) refl)
    (delete_four (held_by a) i
    (sym (delete_live (held_by a) (ready_sizes a t r) (ready_drawing a t r) (rows_by a) (ready_indexes a t r) i c.find-row.result c.find-row.ensures)
    ∙ le-ltb _ _ c.if-n-row.true)))

pub mark_star-requires-clause-readable : goal.mark_star-requires-clause-readable
mark_star-requires-clause-readable c =
    let a = arrays c.args.sheet.now in
    let t = c.args.t in
    let r = c.requires in
    readable (held_by a) (ready_sizes a t r) (ready_fits a t r) (rows_by a) (ready_indexes a t r) (ready_looks a t r).rising

pub returns-clause-obeyed : goal.returns-clause-obeyed
returns-clause-obeyed c =
    let r = c.requires in
    obeyed_deleted (arrays c.args.sheet.now) r.long r.sound c.args.id c.find-row.result c.find-row.ensures c.if-n-row.false _ c.mark_star.ensures.out_after
    (arrays c.keep_rows.new.sheet) c.keep_rows.ensures.keeps (ap (λ (u : Arrays). u.next) c.keep_rows.ensures.kept) _ refl
