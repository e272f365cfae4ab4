-- `join` meets its contract. Assumes nothing.
use borrow.Author.Rules.{rules}
use native.Mathlib.Omega.{arith}
use Rattle.rows_pieces.proofs.Ways.{join_up, join_down, join_none}
use Rattle.rows_pieces.proofs.join.Goals as goal

pub top-b-requires : goal.top-b-requires
top-b-requires c =
    let s = c in
    let w = c.top-a.ensures.shorter in
    record {
      up_len = w.size;
      row_lt_cells_most = s.requires.x_lt_cells_most.1;
      leads = w.leads _ s.requires.leads.1;
    }

pub returns-then-a-b : goal.returns-then-a-b
returns-then-a-b c =
    let t = c in
    let l = t.requires.x_lt_cells_most.1 in
    join_up _ _ _ _ _ _ _ t.top-a.ensures t.top-b.ensures (omega arith) (omega (arith, l, t.top-b.ensures))

pub returns-then-b-a : goal.returns-then-b-a
returns-then-b-a c =
    let t = c in
    let l = t.requires.x_lt_cells_most.0 in
    join_down _ _ _ _ _ _ _ t.top-a.ensures t.top-b.ensures (omega arith) (omega (arith, l, t.top-a.ensures))

pub returns : goal.returns
returns c =
    let t = c in
    join_none _ _ _ _ _ _ _ t.top-a.ensures t.top-b.ensures (λ l. omega arith) (λ l. omega arith)
