-- `mark_star` meets its contract. Assumes nothing.
use borrow.Author.Rules.{rules}
use mathlib.Core.Path.{◌∙◌}
use native.Mathlib.Omega.{arith}
use lib.ListN.{take, length-set}
use Rattle.rows_marks.specs.Marks.{Pooled}
use Rattle.rows_star.proofs.Marking.{star_after}
use Rattle.rows_star.proofs.mark_star.Goals as goal

pub faces_at-requires : goal.faces_at-requires
faces_at-requires c =
    let m = c in
    let p = m.requires.readable in
    let g = m.edges_at.ensures in
    let q : Pooled _ _ _ _ =
    record { rows = p.rows; counts = p.counts; cycles = p.cycles; steps = p.steps; cycles_fit = p.cycles_fit; steps_fit = p.steps_fit }
    in
    record {
      ids_len = p.ids;
      rising = p.rising;
      marks_len = simp length-set g.marks_len_2;
      pooled = q;
      out_len = g.marks_len_2;
    }

pub returns : goal.returns
returns c =
    let m = c in
    let s = m in
    let a = s.args in
    let p = s.requires in
    let g = m.edges_at.ensures in
    let r = p.readable.rows in record {
      out_after = c.faces_at.ensures.out_after
          ∙ star_after a.n a.ids.now _ a.id a.row
          (take a.n a.kinds.now) (take a.n a.starts.now) (take a.n a.ends.now) (take a.n a.counts.now)
          a.cycles.now a.steps.now (let h = p.readable.ids in omega arith) (omega arith) p.row_value p.row_lt_n m.edges_at.ensures.marks_after;
      out_len_2 = c.faces_at.ensures.out_len_2;
    }
