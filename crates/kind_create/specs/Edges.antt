-- The row of a new edge. Definitions only.
use Rattle.std.specs.Prelude.{ℕ, ◌+◌, ◌*◌, ◌≤◌, cond, List, eqb, length}
use Rattle.bends.specs.Bends.{positions_at}
use Rattle.coordinate.specs.declared.Position.{Position}
use Rattle.complex.specs.Cells.{Figure, open_edge, closed_edge}
use Rattle.complex.specs.Decode.{create}
use Rattle.complex.proofs.Asked.{Passed}
use Rattle.store.specs.View.{sheet_of}
use Rattle.answer.specs.declared.Totals.{Totals}
use Rattle.lent.specs.Arrays.{Arrays, held_by}
use Rattle.lent.specs.Replies.{Ready}

-- the kind, the start and the end of an edge's row: an open edge's, or a closed one's, which has no ends
pub data EdgeRow : ℕ → ℕ → ℕ → Type 0 where
  open_row : {s e : ℕ} → EdgeRow 1 s e
  closed_row : EdgeRow 2 0 0

-- the edge of such a row, with the bends bs
abbrev pub edge_by : ℕ → ℕ → ℕ → List Position → Figure
edge_by kind s e bs = cond (eqb kind 1) (open_edge s e bs) (closed_edge bs)

-- 3 to 6 got a yes for the edge of such a row, whose k bends the script has at first
pub record EdgeAsked (a : Arrays) (t : Totals) (script : List ℕ) (kind s e k first : ℕ) : Type 0 where
  pub ready : Ready a t
  pub bytes : first + 16 * k ≤ length script
  pub row : EdgeRow kind s e
  pub passed : Passed (sheet_of (held_by a)) (create (edge_by kind s e (positions_at script first k)))
