-- `faces_at` meets its contract. Assumes nothing.
use borrow.Author.Rules.{rules}
use Rattle.rows_marks.proofs.faces_at.Goals as goal

pub flag_ids-requires : goal.flag_ids-requires
flag_ids-requires c =
    let p = c.requires in
    record {
      n_le_cells_most = p.pooled.rows;
      ids_len = p.ids_len;
      marks_len = p.marks_len;
      flags_len = search rules;
      rising = p.rising;
    }
