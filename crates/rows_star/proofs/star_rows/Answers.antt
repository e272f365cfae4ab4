-- `rows_star::star_rows` meets its contract. Assumes nothing.
use mathlib.Core.Path.{◌∙◌}
use native.Mathlib.Omega.{arith}
use lib.ListN.{take}
use lib.Seq.{length-take-le}
use Rattle.rows_star.proofs.Answers.{row_found, row_missing}
use borrow.Author.Rules.{rules}
use Rattle.rows_star.proofs.star_rows.Goals as goal

pub mark_star-requires : goal.mark_star-requires
mark_star-requires c =
    let f = c in
    record {
      readable = f.requires;
      row_value = f.find-row.ensures;
      row_lt_n = c.if-row-n.true;
      out_len = search rules;
    }

pub returns-then-row-n : goal.returns-then-row-n
returns-then-row-n c =
    let g = c in
    let m = g in
    let f = m in
    let a = f.args in
    let l = length-take-le a.n a.ids.now (omega arith) in
    g.give_marked.ensures
    ∙ row_found (take a.n a.ids.now) (take a.n a.kinds.now) (take a.n a.starts.now) (take a.n a.ends.now)
    (take a.n a.counts.now) a.cycles.now a.steps.now a.id a.buffer.now f.find-row.result f.find-row.ensures
    (omega (arith, l, m.if-row-n.true)) _ m.mark_star.ensures.out_after

pub returns : goal.returns
returns c =
    let f = c in
    let a = f.args in
    let l = length-take-le a.n a.ids.now (omega arith) in
    row_missing (take a.n a.ids.now) (take a.n a.kinds.now) (take a.n a.starts.now) (take a.n a.ends.now)
    (take a.n a.counts.now) a.cycles.now a.steps.now a.id a.buffer.now f.find-row.result f.find-row.ensures
    (omega (arith, l, c.if-row-n.false))
